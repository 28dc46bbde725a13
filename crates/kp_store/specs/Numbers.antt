-- Numbers of pairs, by which Services are found by their selectors (this project's choice). Two pairs
-- may have one number: what is found by numbers is looked at again.
use Rattle.std.specs.Prelude.{ℕ, ◌+◌, ◌*◌, ◌%◌, ◌^◌, List}
use Rattle.std.specs.List.{fold}
use Rattle.std.specs.Hash.{str}
use Rattle.std.specs.Hash.FoldHasher.{initial, write, finish}
use Rattle.std.specs.Ordering.{nat_cmp}
use Rattle.std.specs.FinMap as finite
use Rattle.kp_base.specs.declared.key.Pair.{Pair}

-- the number of a namespace, with which each path begins
abbrev pub start_of : List ℕ → ℕ
start_of namespace = finish (fold write initial (str namespace))

-- the number of a pair
abbrev pub number_of : Pair → ℕ
number_of p = finish (fold write (fold write initial (str p.key)) (str p.value))

-- the number of a path that goes on with a number
unfoldable pub joined : ℕ → ℕ → ℕ
joined at number = (at * 0x9e37_79b9_7f4a_7c15 % 2 ^ 64 + number) % 2 ^ 64

-- numbers, as a map to nothing
abbrev pub Numbers : Type 0
Numbers = finite.FinMap nat_cmp (Unit {0})

-- the number of a pair beside others
abbrev pub with_pair : Numbers → Pair → Numbers
with_pair numbers p = finite.insert numbers (number_of p) tt

-- the numbers of pairs
abbrev pub number_set : List Pair → Numbers
number_set pairs = fold with_pair finite.empty pairs

-- the same, each once and in their order
abbrev pub numbers_of : List Pair → List ℕ
numbers_of pairs = finite.keys (number_set pairs)
