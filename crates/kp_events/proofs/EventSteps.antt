-- A list of events that grows by one.
use Rattle.std.proofs.Common.{◌≡◌, List, [], ◌∷◌, ◌++◌, Result, Ok, Err, refl, ap, sym, ◌∙◌}
use Rattle.std.proofs.lemmas.List.{append_assoc}
use Rattle.kp_json.specs.Places.{Place}
use Rattle.kp_types.specs.declared.event.Event.{Event}
use Rattle.kp_event_defs.specs.EventText.{Refused, ◌>>=◌, apply_at, apply_each}
use Rattle.kp_events.specs.Answers.{with_front}

-- an event at the end of the front is one at the head of the rest
front_grows : (front : List Event) (event : Event) (rest : Result (List Event) Refused) → with_front (front ++ event ∷ []) rest ≡ with_front front (rest >>= λ events. Ok (event ∷ events))
front_grows front event (Ok events) = ap Ok (append_assoc front (event ∷ []) events)
front_grows front event (Err e) = refl

-- one object more is applied
pub event_step : (front after : List Event) (event : Event) (p : Place) (before left : List Place) (all : Result (List Event) Refused)
    → before ≡ p ∷ left → apply_at p ≡ Ok event → after ≡ front ++ event ∷ []
    → with_front front (apply_each before) ≡ all → with_front after (apply_each left) ≡ all
event_step front after event p before left all next read grown h =
    ap (λ a. with_front a (apply_each left)) grown ∙ front_grows front event (apply_each left)
    ∙ sym (λ i. with_front front (read i >>= λ e. apply_each left >>= λ events. Ok (e ∷ events)))
    ∙ sym (ap (λ b. with_front front (apply_each b)) next) ∙ h
