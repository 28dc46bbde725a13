-- Chances beside the exact product of the thresholds of the statistic match.
use Rattle.std.specs.Prelude.{◌≡◌, ◌<◌, ◌≤◌, ◌+◌, ◌-◌, ◌*◌, ◌^◌, ℕ, zero, suc, length, slice_get, sum, Some}
use Rattle.kp_choice_defs.specs.Draws.{probability_of, threshold_of}
use Rattle.kp_path_defs.specs.Chances.{chances_of, share_of, whole}

-- the threshold of the place, from 0, of n
abbrev pub threshold_at : ℕ → ℕ → ℕ
threshold_at n place = threshold_of (probability_of (n - place))

-- what is left before a place of n, each place before it having taken its share
abbrev pub left_before : ℕ → ℕ → ℕ
left_before n zero = whole
left_before n (suc place) =
    left_before n place - share_of (left_before n place) (n - place)

-- what is left exactly before a place of n, in parts of 10^10 · 2^(31 · place)
abbrev pub rest_before : ℕ → ℕ → ℕ
rest_before n zero = whole
rest_before n (suc place) = rest_before n place * (2 ^ 31 - threshold_at n place)

-- the exact chance of a place of n, in parts of 10^10 · 2^(31 · (place + 1))
abbrev pub exact_chance : ℕ → ℕ → ℕ
exact_chance n place = rest_before n place * threshold_at n place

-- two numbers differ by less than a bound
abbrev pub DifferByLess : ℕ → ℕ → ℕ → Type 0
DifferByLess bound a b = (a < b + bound) × (b < a + bound)

-- The chances of the places of a list add up to all that there is, and are as many as the places.
abbrev pub ChancesAddUp : Type 0
ChancesAddUp =
    (n : ℕ) → 1 ≤ n → (sum (chances_of n) ≡ whole) × (length (chances_of n) ≡ n)

-- A place has its share of what is left before it.
abbrev pub ChanceIsShare : Type 0
ChanceIsShare =
    (n place : ℕ) → place < n
    → slice_get (chances_of n) place ≡ Some (share_of (left_before n place) (n - place))

-- The last one's share is all that is left.
abbrev pub LastTakesAll : Type 0
LastTakesAll = (left : ℕ) → share_of left 1 ≡ left

-- What is left before a place is never below the exact rest, and where places stand before it less
-- than their number above it.
abbrev pub LeftBesideRest : Type 0
LeftBesideRest =
    (n place : ℕ) → place < n
    → (rest_before n place ≤ left_before n place * 2 ^ (31 * place))
    × (0 < place
    → left_before n place * 2 ^ (31 * place) < rest_before n place + place * 2 ^ (31 * place))

-- Each chance differs from the exact one by less than its place, from 1.
abbrev pub ChanceBesideExact : Type 0
ChanceBesideExact =
    (n place chance : ℕ) → slice_get (chances_of n) place ≡ Some chance
    → DifferByLess (suc place * 2 ^ (31 * suc place))
    (chance * 2 ^ (31 * suc place)) (exact_chance n place)
