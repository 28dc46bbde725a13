-- The numbers of the pairs so far.
use Rattle.std.proofs.Common.{◌≡◌, take, nat_cmp}
use Rattle.std.specs.FinMap as finite
use Rattle.kp_store.specs.Numbers.{number_set}
use Rattle.kp_store.proofs.numbers.numbers_of.Given as goal

abbrev pub invariant-loop-pair : goal.invariant-loop-pair
invariant-loop-pair l = finite.from_entries {R = nat_cmp} l.numbers.entries ≡ number_set (take l.pair-index l.pairs)
