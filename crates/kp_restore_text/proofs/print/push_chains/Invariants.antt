use Rattle.std.proofs.Common.{◌≡◌, ◌++◌, take, string_bytes}
use Rattle.std.specs.List.{flat_map}
use Rattle.kp_restore_text.specs.Printed.{chain_text}
use Rattle.kp_restore_text.proofs.print.push_chains.Given as goal

-- the chains so far are declared
abbrev pub invariant-loop-at : goal.invariant-loop-at
invariant-loop-at l = string_bytes l.text ≡ string_bytes l.initial.text ++ flat_map (chain_text l.end) (take l.at-index l.places)
