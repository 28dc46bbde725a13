use Rattle.std.proofs.Common.{◌≡◌, ◌++◌, string_bytes}
use Rattle.std.specs.List.{flat_map}
use Rattle.kp_restore_text.specs.PrintedEdits.{declared_text}
use Rattle.kp_restore_text.proofs.batch_print.push_names.Given as goal

-- what is added, and what is left
abbrev pub invariant-loop-name : goal.invariant-loop-name
invariant-loop-name l = string_bytes l.text ++ flat_map declared_text l.name-iterator ≡ string_bytes l.initial.text ++ flat_map declared_text l.names.keys
