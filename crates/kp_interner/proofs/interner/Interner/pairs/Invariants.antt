-- The pairs so far.
use Rattle.std.proofs.Common.{◌≡◌, take}
use Rattle.kp_interner.proofs.interner.Interner.pairs.Given as goal

abbrev pub invariant-loop-pair : goal.invariant-loop-pair
invariant-loop-pair l = l.same.items ≡ take l.pair-index l.pairs
