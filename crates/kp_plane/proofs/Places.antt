-- Objects at places of a journal.
use Rattle.std.proofs.Common.{◌≡◌, ◌<◌, ◌+◌, ℕ, List, [], ◌∷◌, ◌++◌, take, length, get_or, sym, ap, ◌∙◌, arith}
use Rattle.std.proofs.lemmas.List.{take_more}
use Rattle.std.proofs.lemmas.List.Sums.{fold_push}
use Rattle.kp_types.specs.declared.event.Event.{Event}
use Rattle.kp_object_defs.specs.Objects.{no_objects, objects_step, objects_after}
use Rattle.kp_plane.specs.Invariant.{IsAtPlace}
use Rattle.kp_plane.specs.declared.place.ObjectsAt.{ObjectsAt}

-- one event more
pub next_place : (events : List Event) (before after : ObjectsAt) (event : Event) → IsAtPlace events before → before.at < length events → event ≡ get_or events before.at event
    → after.objects ≡ objects_step before.objects event → after.at ≡ before.at + 1 → IsAtPlace events after
next_place events before after event is few found applied next = record {
  within = omega arith;
  objects = applied
      ∙ ap (λ o. objects_step o event) is.objects
      ∙ sym (fold_push objects_step no_objects (take before.at events) event)
      ∙ ap (λ e. objects_after (take before.at events ++ e ∷ [])) found
      ∙ ap objects_after (sym (take_more events before.at event few))
      ∙ ap (λ (n : ℕ). objects_after (take n events)) (sym next);
}
