-- Journals with who fed their events.
use Rattle.std.proofs.Common.{◌≡◌, List, [], ◌∷◌, ◌++◌, length, refl, ap, arith}
use Rattle.kp_types.specs.declared.event.Event.{Event}
use Rattle.kp_history_defs.specs.declared.fed.Fed.{Fed}
use Rattle.kp_hub.specs.declared.notes.Origin.{Origin}
use Rattle.kp_hub.specs.Taken.{fed_of}

-- one event more
pub fed_snoc : (os : List Origin) (es : List Event) (o : Origin) (e : Event) → length os ≡ length es
    → fed_of (os ++ o ∷ []) (es ++ e ∷ [])
    ≡ fed_of os es ++ record { feeder = o.feeder; number = o.number; event = e } ∷ []
fed_snoc [] [] o e same = refl
fed_snoc [] (y ∷ es) o e same = absurd (omega arith)
fed_snoc (x ∷ os) [] o e same = absurd (omega arith)
fed_snoc (x ∷ os) (y ∷ es) o e same =
    ap (λ (fs : List Fed). record { feeder = x.feeder; number = x.number; event = y } ∷ fs)
    (fed_snoc os es o e (omega (arith, same)))
