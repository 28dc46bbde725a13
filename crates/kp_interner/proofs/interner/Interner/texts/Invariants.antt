-- The texts so far.
use Rattle.std.proofs.Common.{◌≡◌, take}
use Rattle.kp_interner.proofs.interner.Interner.texts.Given as goal

abbrev pub invariant-loop-text : goal.invariant-loop-text
invariant-loop-text l = l.same.items ≡ take l.text-index l.texts
