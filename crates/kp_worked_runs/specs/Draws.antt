-- Worked examples of one probability and of draws that are listed (iptables-extensions, statistic).
-- Past the end of a list the choice is this project's.
use Rattle.std.specs.Prelude.{◌≡◌, List, ℕ, [], ◌∷◌}
use Rattle.kp_choice_defs.specs.Draws.{probability_of, threshold_of, draw_of_list}

-- 10^10 / 2048 is 4882812.5, between an even number and an odd one
abbrev pub Fraction : Type 0
Fraction = probability_of 2048 ≡ 4882812

-- 10^10 / 1024 is 9765625
abbrev pub WholeFraction : Type 0
WholeFraction = probability_of 1024 ≡ 9765625

-- 4882812 / 10^10 of 2^31 is 1048575.9
abbrev pub Threshold : Type 0
Threshold = threshold_of 4882812 ≡ 1048576

-- two draws
abbrev pub two : List ℕ
two = 5 ∷ 0 ∷ []

-- the first
abbrev pub First : Type 0
First = draw_of_list two 0 ≡ 5

-- the second
abbrev pub Second : Type 0
Second = draw_of_list two 1 ≡ 0

-- behind them stands the greatest draw
abbrev pub Behind : Type 0
Behind = draw_of_list two 2 ≡ 2147483647
