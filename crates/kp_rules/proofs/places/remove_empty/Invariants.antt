use Rattle.std.proofs.Common.{drop}
use Rattle.kp_rules.specs.Placed.{AreStaged}
use Rattle.kp_rules.proofs.places.remove_empty.Given as goal

-- beside the places with a chain only those of edits that are left are there
abbrev pub invariant-loop-edit : goal.invariant-loop-edit
invariant-loop-edit l = AreStaged l.places l.chains.chains (drop l.edit-index l.edits)
