-- What events touch from one place of a journal to another.
use Rattle.std.proofs.Common.{◌≡◌, ◌≤◌, ◌<◌, ◌+◌, ◌*◌, ◌&&◌, ◌||◌, ℕ, Bool, true, false, List, [], ◌∷◌}
use Rattle.std.proofs.Common.{◌++◌, take, drop, length, get_or, inl, inr, ◌⊎◌, refl, sym, ap, subst}
use Rattle.std.proofs.Common.{◌∙◌, arith, filter}
use Rattle.std.specs.FinMap as finite
use Rattle.std.specs.List.{fold, sum_by}
use Rattle.std.proofs.Math.Bool.{or-true}
use Rattle.std.proofs.Math.Nat.{mul-le-mul_left}
use Rattle.std.proofs.lemmas.Bool.{and_parts, or_cases}
use Rattle.std.proofs.lemmas.List.{drop-append-le, drop_all, length-take-le, take-append-drop}
use Rattle.std.proofs.lemmas.List.{take-append-le, take-take, take_more}
use Rattle.std.proofs.lemmas.List.Sums.{fold-append}
use Rattle.kp_base.specs.declared.key.ObjectKey.{ObjectKey}
use Rattle.kp_types.specs.Setting.{Settings}
use Rattle.kp_types.specs.declared.event.Event.{Event}
use Rattle.kp_types.specs.declared.service.Service.{Service}
use Rattle.kp_object_defs.specs.Objects.{Objects, no_objects, objects_after, objects_step}
use Rattle.kp_touch_laws.specs.TouchLaws.{touches_in, touches_one}
use Rattle.kp_store.specs.Touched.{is_touched}
use Rattle.kp_plane.specs.Collected.{AreJoined, Collects, CollectsSame, is_collected}
use Rattle.kp_plane.specs.Invariant.{AreTouchedBetween, IsAtPlace, touched_between}
use Rattle.kp_plane.specs.declared.collected.Collected.{Collected}
use Rattle.kp_plane.specs.declared.place.ObjectsAt.{ObjectsAt}
use Rattle.kp_plane.proofs.PastEvents.{touches_both}
use Rattle.kp_plane.proofs.Refreshed.{more_touched}
use Rattle.kp_plane.proofs.Synced.{at_end}
use Rattle.kp_plane.proofs.Touching.{both_answers}

-- what Services count whose keys pass a test
abbrev count : (Objects → Service → ℕ) → Objects → (ObjectKey → Bool) → ℕ
count f o touched = sum_by (f o) (filter (λ s. touched s.key) (finite.values o.services))

module _ (settings : Settings) where
  module _ (events : List Event) where
    -- the objects at a place are those at a place before it, and then those of the events between
    objects_between : (from to : ℕ) → from ≤ to
        → fold objects_step (objects_after (take from events)) (drop from (take to events))
        ≡ objects_after (take to events)
    objects_between from to later =
        let between = drop from (take to events) in
        sym (fold-append objects_step no_objects (take from events) between)
        ∙ ap (λ es. objects_after (es ++ between)) (sym (take-take from to events later))
        ∙ ap objects_after (take-append-drop from (take to events))

    -- no event touches anything between a place and itself
    pub none_between : (from to : ℕ) → to ≤ from → to ≤ length events → (k : ObjectKey)
        → touched_between settings events from to k ≡ false
    none_between from to later few k =
        let all = length-take-le to events few in
        ap (λ es. touches_one settings (objects_after (take from events)) es k)
        (drop_all from (take to events) (omega (arith, later, all)))

    -- what one event more touches
    touches_next : (from at : ℕ) (e : Event) → from ≤ at → at < length events
        → e ≡ get_or events at e → (k : ObjectKey)
        → touched_between settings events from (at + 1) k
        ≡ touched_between settings events from at k
        || (touches_in settings (objects_after (take at events)) e k || false)
    touches_next from at e later few is k =
        let before = objects_after (take from events) in
        let between = drop from (take at events) in
        let all = length-take-le at events (omega (arith, few)) in
        ap (λ es. touches_one settings before (drop from es) k)
        (take_more events at e few ∙ ap (λ d. take at events ++ d ∷ []) (sym is))
        ∙ ap (λ es. touches_one settings before es k)
        (drop-append-le from (take at events) (e ∷ []) (omega (arith, later, all)))
        ∙ touches_both settings before between (e ∷ []) k
        ∙ ap (λ o. touches_one settings before between k || (touches_in settings o e k || false))
        (objects_between from at later)

    module _ (from at : ℕ) (t u : Collected) (is : AreTouchedBetween settings events from at t) where
      -- one event more, and what it touches
      pub since_more : (e : Event) (o : Objects) (changed : Bool) → at < length events
          → e ≡ get_or events at e → o ≡ objects_after (take at events)
          → Collects (λ k. changed && touches_in settings o e k) t u
          → AreTouchedBetween settings events from (at + 1) u
      since_more e o changed few found here adds = record {
        later = let later = is.later in omega (arith, later);
        few = λ k some.
            touches_next from at e is.later few found k
            ∙ by k (or_cases (changed && touches_in settings o e k) (is_collected t k)
            (sym (adds k) ∙ some));
      }
        where
          by : (k : ObjectKey)
              → ((changed && touches_in settings o e k) ≡ true) ⊎ (is_collected t k ≡ true)
              → touched_between settings events from at k
              || (touches_in settings (objects_after (take at events)) e k || false) ≡ true
          by k (inl new) =
              let touches = (and_parts changed (touches_in settings o e k) new).1 in
              ap (λ b. touched_between settings events from at k || (b || false))
              (ap (λ p. touches_in settings p e k) (sym here) ∙ touches)
              ∙ or-true (touched_between settings events from at k)
          by k (inr old) =
              ap (λ b. b || (touches_in settings (objects_after (take at events)) e k || false))
              (is.few k old)

      -- where the same are collected
      pub since_same : CollectsSame t u → AreTouchedBetween settings events from at u
      since_same same = record {
        later = is.later;
        few = λ k some. is.few k (sym (same k) ∙ some);
      }

      -- where none are
      pub since_none : ((k : ObjectKey) → is_collected u k ≡ false)
          → AreTouchedBetween settings events from at u
      since_none none = record {
        later = is.later;
        few = λ k some. absurd (both_answers (is_collected u k) some (none k));
      }

    -- where more events were accepted
    pub since_accepted : (from to : ℕ) (t : Collected) (more : List Event) → to ≤ length events
        → AreTouchedBetween settings events from to t
        → AreTouchedBetween settings (events ++ more) from to t
    since_accepted from to t more within is = record {
      later = is.later;
      few = λ k some.
          let later = is.later in
          let first = take-append-le from events more (omega (arith, later, within)) in
          let last = take-append-le to events more within in
          (λ i. touches_one settings (objects_after (first i)) (drop from (last i)) k)
          ∙ is.few k some;
    }

    -- what the Services count that are collected at the end, so many times, is at most what those
    -- do that events touched
    pub counted_between : (f : Objects → Service → ℕ) (from : ℕ) (here : ObjectsAt) (t : Collected)
        → (times old new : ℕ) → AreTouchedBetween settings events from here.at t
        → IsAtPlace events here → here.at ≡ length events → AreJoined t
        → new ≤ old + times * count f here.objects (is_touched t.joined)
        → new ≤ old + times * count f (objects_after events)
        (touched_between settings events from (length events))
    counted_between f from here t times old new is place at joined counted =
        let few = mul-le-mul_left times (more_touched (f here.objects) here.objects (is_touched t.joined)
        (touched_between settings events from here.at)
        (λ k some. is.few k (sym (joined k) ∙ some))) in
        let most : new ≤ old + times * count f here.objects
        (touched_between settings events from here.at) =
        omega (arith, few, counted) in
        subst (λ n. new ≤ old + times * count f (objects_after events)
        (touched_between settings events from n)) at
        (subst (λ o. new ≤ old + times * count f o (touched_between settings events from here.at))
        (at_end events events here place at refl) most)
