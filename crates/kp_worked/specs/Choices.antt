-- Worked examples of probabilities and draws (iptables-extensions, statistic).
use Rattle.std.specs.Prelude.{◌≡◌, true, false, [], ◌∷◌, codes}
use Rattle.kp_choice_defs.specs.Draws.{probability_of, probability_text_of, threshold_of, draw_matches, draw_of_list}

-- one third in ten decimals
abbrev pub OneThird : Type 0
OneThird = probability_text_of (probability_of 3) ≡ codes "0.3333333333"

-- one half
abbrev pub OneHalf : Type 0
OneHalf = probability_text_of (probability_of 2) ≡ codes "0.5000000000"

-- 1/2048 is 0.00048828125, and the half of the last digit goes to the even one
abbrev pub HalfToEven : Type 0
HalfToEven = probability_text_of (probability_of 2048) ≡ codes "0.0004882812"

-- 0.3333333333 of 2^31 is 715827882.6
abbrev pub ThirdOfDraws : Type 0
ThirdOfDraws = threshold_of (probability_of 3) ≡ 715827883

-- the last draw below it matches
abbrev pub LastBelow : Type 0
LastBelow = draw_matches (probability_of 3) 715827882 ≡ true

-- and the next doesn't
abbrev pub FirstAbove : Type 0
FirstAbove = draw_matches (probability_of 3) 715827883 ≡ false

-- past the end of a list stands the greatest draw
abbrev pub PastEnd : Type 0
PastEnd = draw_of_list (7 ∷ []) 1 ≡ 2147483647

-- which doesn't match at one half
abbrev pub GreatestAtHalf : Type 0
GreatestAtHalf = draw_matches (probability_of 2) 2147483647 ≡ false

-- and matches at one
abbrev pub GreatestAtOne : Type 0
GreatestAtOne = draw_matches (probability_of 1) 2147483647 ≡ true
