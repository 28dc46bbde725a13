-- Edits that have all memory that making them takes.
use Rattle.kp_types.specs.declared.rule.Edit.{Edit}
use Rattle.kp_types.specs.declared.rule.Edit.TheVariants as edit
use Rattle.kp_rules.specs.declared.ready.ReadyEdit.{ReadyEdit}
use Rattle.kp_rules.specs.declared.ready.ReadyEdit.TheVariants.{Write, Remove}

-- the edit
abbrev pub edit_of : ReadyEdit → Edit
edit_of (Write chain) = edit.Write chain.at chain.rules
edit_of (Remove at) = edit.Remove at
