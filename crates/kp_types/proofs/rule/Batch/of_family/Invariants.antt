use Rattle.std.proofs.Common.{◌≡◌, take}
use Rattle.kp_types.specs.Edits.{edits_of_family}
use Rattle.kp_types.proofs.rule.Batch.of_family.Given as goal

-- the edits of the family so far were copied
abbrev pub invariant-loop-edit : goal.invariant-loop-edit
invariant-loop-edit l = l.edits.items ≡ edits_of_family l.family (take l.edit-index l.edit-items)
