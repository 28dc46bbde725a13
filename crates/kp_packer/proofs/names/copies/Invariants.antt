-- What was copied so far is the front of the list.
use Rattle.std.proofs.Common.{◌≡◌, take}
use Rattle.kp_packer.proofs.names.copies.Given as goal

abbrev pub invariant-loop-value : goal.invariant-loop-value
invariant-loop-value g l = l.copies.items ≡ take l.value-index l.values
