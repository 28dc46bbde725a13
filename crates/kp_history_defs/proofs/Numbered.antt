-- The numbers of a stream's events.
use Rattle.std.proofs.Common.{◌≡◌, ℕ, suc, ◌+◌, List, [], ◌∷◌, ◌++◌, length, ap, ◌∙◌, arith}
use Rattle.kp_types.specs.declared.event.Event.{Event}
use Rattle.kp_history_defs.specs.declared.fed.Fed.{Fed}
use Rattle.kp_history_defs.specs.Runs.{numbered}

-- one more event has the next number
pub numbered_push : (stream n : ℕ) (es : List Event) (e : Event)
    → numbered stream n (es ++ e ∷ [])
    ≡ numbered stream n es
    ++ record { feeder = stream; number = suc (n + length es); event = e } ∷ []
numbered_push stream n [] e =
    ap (λ (m : ℕ). let f : Fed = record { feeder = stream; number = suc m; event = e } in f ∷ [])
    (omega arith)
numbered_push stream n (x ∷ es) e =
    let more : suc n + length es ≡ n + suc (length es) = omega arith in
    ap (λ rest. record { feeder = stream; number = suc n; event = x } ∷ rest)
    (numbered_push stream (suc n) es e
    ∙ ap (λ (m : ℕ). numbered stream (suc n) es
    ++ record { feeder = stream; number = suc m; event = e } ∷ []) more)
