use Rattle.std.proofs.Common.{◌≡◌, ◌-◌, ◌+◌, ℕ}
use Rattle.kp_choice_defs.specs.Draws.{AreDraws, selected_index}
use Rattle.kp_draws.proofs.source.DrawSource.pick.Given as goal

-- the choice among what is left, by the draws that are left
abbrev pub invariant-loop-i : goal.invariant-loop-i
invariant-loop-i g l =
    (draws : ℕ → ℕ)
    → AreDraws (λ number k draw. g.F.Fn.post l.self (number, (k, tt)) draw) l.number draws
    → selected_index draws 0 l.n ≡ l.i + selected_index draws l.i (l.n - l.i)
