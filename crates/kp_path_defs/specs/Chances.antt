-- The chances of the places of a list, in parts of 10^10 (iptables-extensions, "statistic"): each rule takes
-- its share of what is left, rounded down, and the last place has the rest.
use Rattle.std.specs.Prelude.{ℕ, zero, suc, ◌-◌, ◌*◌, ◌/◌, ◌^◌, List, [], ◌∷◌}
use Rattle.kp_choice_defs.specs.Draws.{probability_of, threshold_of}

-- what all places have together
abbrev pub whole : ℕ
whole = 10 ^ 10

-- what the first of n places takes of what is left
abbrev pub share_of : ℕ → ℕ → ℕ
share_of left n = left * threshold_of (probability_of n) / 2 ^ 31

-- the chances of n places that have what is left
abbrev pub chances_from : ℕ → ℕ → List ℕ
chances_from left zero = []
chances_from left (suc zero) = left ∷ []
chances_from left (suc (suc n)) =
    let share = share_of left (suc (suc n)) in share ∷ chances_from (left - share) (suc n)

-- the chances of n places
abbrev pub chances_of : ℕ → List ℕ
chances_of n = chances_from whole n
