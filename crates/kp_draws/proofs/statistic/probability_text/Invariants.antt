use Rattle.std.proofs.Common.{◌≡◌, ◌∷◌, take, map}
use Rattle.kp_choice_defs.specs.Draws.{digit_at}
use Rattle.kp_draws.proofs.statistic.probability_text.Given as goal

-- the digits so far
abbrev pub invariant-loop-place : goal.invariant-loop-place
invariant-loop-place l =
    l.text.bytes ≡ digit_at l.p 10 ∷ 46 ∷ map (digit_at l.p) (take l.place-index l.place-items)
