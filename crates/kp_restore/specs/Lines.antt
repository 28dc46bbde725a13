-- The lines of restore text, as what they say.
use Rattle.std.specs.Prelude.{ℕ, ◌&&◌, Bool, true, List}
use Rattle.kp_base.specs.Net.{same_family}
use Rattle.kp_base.specs.declared.address.Family.{Family}
use Rattle.kp_types.specs.Chains.{is_chain_name}
use Rattle.kp_types.specs.Places.{family_of_table}
use Rattle.kp_restore_defs.specs.RuleText.{rule_line, is_canonical_rule}
use Rattle.kp_restore_defs.specs.TableText.{table_line, built_in_line, declared_line, commit_line}
use Rattle.kp_restore_defs.specs.BatchText.{removed_line}
use Rattle.kp_restore.specs.declared.line.Line.{Line}
use Rattle.kp_restore.specs.declared.line.Line.TheVariants.{Section, BuiltIn, Declared, Ruled, Removed, Commit}

-- the text of a line
abbrev pub line_text : Line → List ℕ
line_text (Section table) = table_line table
line_text (BuiltIn chain) = built_in_line chain
line_text (Declared chain) = declared_line chain
line_text (Ruled chain rule) = rule_line chain rule
line_text (Removed chain) = removed_line chain
line_text Commit = commit_line

-- a line of a family's text whose names and numbers are within their bounds
abbrev pub is_canonical_line : Family → Line → Bool
is_canonical_line family (Section table) = same_family (family_of_table table) family
is_canonical_line family (BuiltIn chain) = is_chain_name chain
is_canonical_line family (Declared chain) = is_chain_name chain
is_canonical_line family (Ruled chain rule) = is_chain_name chain && is_canonical_rule family rule
is_canonical_line family (Removed chain) = is_chain_name chain
is_canonical_line family Commit = true

-- a line with no name in it
abbrev pub IsFixed : Line → Type 0
IsFixed (Section table) = Unit {0}
IsFixed (BuiltIn chain) = ⊥
IsFixed (Declared chain) = ⊥
IsFixed (Ruled chain rule) = ⊥
IsFixed (Removed chain) = ⊥
IsFixed Commit = Unit {0}
