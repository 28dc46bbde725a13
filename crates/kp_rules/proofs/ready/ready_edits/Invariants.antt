use Rattle.std.proofs.Common.{◌≡◌, map, take}
use Rattle.kp_rules.specs.Ready.{edit_of}
use Rattle.kp_rules.proofs.ready.ready_edits.Given as goal

-- what was made ready so far is the front of the list
abbrev pub invariant-loop-edit : goal.invariant-loop-edit
invariant-loop-edit l = map edit_of l.ready.items ≡ take l.edit-index l.edits
