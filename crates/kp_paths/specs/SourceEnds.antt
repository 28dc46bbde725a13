-- The ends of ranges in order: an address is in some range where more of them began below it than
-- ended.
use Rattle.std.specs.Prelude.{◌≡◌, ◌+◌, ◌<◌, ◌^◌, ℕ, List, count_by, map, nat_le}
use Rattle.std.specs.List.{filter, flat_map}
use Rattle.std.specs.List.Sorted.{IsNonDecreasing}
use Rattle.kp_base.specs.Net.{RangeParts, range_contains, same_family, width}
use Rattle.kp_base.specs.declared.address.Family.{Family}
use Rattle.kp_path_defs.specs.Sources.{first_in, past}

-- the numbers of the first addresses of the ranges of a family
abbrev pub firsts_in : Family → List RangeParts → List ℕ
firsts_in family ranges = map first_in (filter (λ r. same_family r.base.family family) ranges)

-- the numbers of the first addresses past them
abbrev pub pasts_in : Family → List RangeParts → List ℕ
pasts_in family ranges = flat_map past (filter (λ r. same_family r.base.family family) ranges)

-- how many numbers are at most this one
abbrev pub count_to : ℕ → List ℕ → ℕ
count_to n numbers = count_by (λ m. nat_le m n) numbers

-- numbers in order by which the ranges of a family that have an address are counted
pub record AreEnds (family : Family) (ranges : List RangeParts) (firsts pasts : List ℕ) : Type 0 where
  pub firsts_rise : IsNonDecreasing firsts
  pub pasts_rise : IsNonDecreasing pasts
  pub counted : (n : ℕ) → n < 2 ^ width family → count_to n firsts ≡ count_to n pasts + count_by (λ r. range_contains r (record { family = family; number = n })) ranges
