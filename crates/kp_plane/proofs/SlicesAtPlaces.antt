-- Slices at places of a journal.
use Rattle.std.proofs.Common.{◌≡◌, ◌≤◌, ◌<◌, ◌+◌, ◌-◌, ℕ, List, [], ◌∷◌, ◌++◌, take, length, sum, refl, sym, ap, subst, ◌∙◌, arith, le_refl, get_or, take-take}
use Rattle.std.specs.FinMap as finite
use Rattle.std.proofs.lemmas.List.{length-take-le, take_all, take_more}
use Rattle.std.proofs.lemmas.List.Sums.{sum_by_push, sum_by-take-le}
use Rattle.kp_base.specs.declared.config.Config.{Config}
use Rattle.kp_types.specs.declared.event.Event.{Event}
use Rattle.kp_types.specs.Setting.{both_families}
use Rattle.kp_object_defs.specs.Objects.{no_objects, objects_after, objects_step}
use Rattle.kp_object_defs.specs.SlicesNow.{Slices, slices_step, controller_step, slices_now}
use Rattle.kp_object_laws.specs.SliceLaws.{SlicesAfterEvent, SlicesAfterSync, SlicesAsFed}
use Rattle.kp_settle_laws.specs.Settled.{IsControlledBut, none}
use Rattle.kp_settle_laws.specs.SettleLaws.{ControlledAtFirst, MoreArePicked}
use Rattle.kp_store.specs.declared.touched.Touched.{Touched}
use Rattle.kp_plane.specs.Invariant.{IsAtPlace, IsControlled, IsFed, IsSlicesAt}
use Rattle.kp_plane.specs.declared.slices_at.SlicesAt.{SlicesAt}
use Rattle.kp_plane.proofs.Controlled.{controlled_by_none}
use Rattle.kp_plane.proofs.Places.{next_place}

-- what the counts up to a place and the next one come to
pub sum_next : (counts : List ℕ) (k : ℕ) → k < length counts → sum (take (k + 1) counts) ≡ sum (take k counts) + get_or counts k 0
sum_next counts k few = ap sum (take_more counts k 0 few) ∙ sum_by_push (λ (m : ℕ). m) (take k counts) (get_or counts k 0)

-- the counts rise
sum_rises : (counts : List ℕ) (k : ℕ) → sum (take k counts) ≤ sum (take (k + 1) counts)
sum_rises counts k =
    subst (λ xs. sum xs ≤ sum (take (k + 1) counts)) (take-take k (k + 1) counts (omega arith)) (sum_by-take-le (λ (m : ℕ). m) (take (k + 1) counts) k)

-- ---- Before the first event

pub first_slices : SlicesAsFed → ControlledAtFirst → MoreArePicked
    → (config : Config) (events : List Event) (counts : List ℕ) (s : SlicesAt)
    → IsAtPlace events s.place → s.place.at ≡ 0 → s.slices ≡ finite.empty → s.syncs ≡ 0
    → s.covered ≡ 0 → IsSlicesAt config events counts s
first_slices as_fed at_first more config events counts s place at empty syncs covered =
    let first : s.place.objects ≡ no_objects =
    place.objects ∙ ap (λ (n : ℕ). objects_after (take n events)) at in
    record {
      place = place;
      syncs = omega arith;
      covered = covered ∙ ap (λ (n : ℕ). sum (take n counts)) (sym syncs);
      from = omega arith;
      to = λ _. subst (λ (n : ℕ). n ≤ sum (take (s.syncs + 1) counts)) (sym at) (omega arith);
      slices = empty ∙ sym (as_fed both_families config [])
          ∙ (λ i. slices_now both_families config (take (sym at i) events) (take (sym syncs i) counts));
      controlled = controlled_by_none more config s.place.objects s.slices s.touched
          (subst (λ o. IsControlledBut none config o s.slices) (sym first)
          (subst (IsControlledBut none config no_objects) (sym empty) (at_first config)));
    }

-- ---- Events

module _ (config : Config) (events : List Event) where
  -- no event
  pub fed_none : (s : SlicesAt) → IsAtPlace events s.place → IsControlled config s
      → IsFed config events s.place.at s s
  fed_none s place controlled = record {
    place = place;
    at = refl;
    later = le_refl s.place.at;
    syncs = refl;
    covered = refl;
    slices = λ counts few is. is;
    controlled = controlled;
  }

  -- the next event
  pub fed_one : SlicesAfterEvent → (before after : SlicesAt) (event : Event)
      → IsAtPlace events before.place → before.place.at < length events
      → event ≡ get_or events before.place.at event
      → after.place.objects ≡ objects_step before.place.objects event
      → after.place.at ≡ before.place.at + 1 → after.slices ≡ slices_step before.slices event
      → after.syncs ≡ before.syncs → after.covered ≡ before.covered → IsControlled config after
      → IsFed config events (before.place.at + 1) before after
  fed_one by_event before after event place few found objects next step syncs covered controlled =
      let at = before.place.at in
      let long : length (take at events) ≡ at = length-take-le at events (omega arith) in
      record {
        place = next_place events before.place after.place event place few found objects next;
        at = next;
        later = omega arith;
        syncs = syncs;
        covered = covered;
        slices = λ counts within is.
            step
            ∙ ap (λ m. slices_step m event) is
            ∙ sym (by_event both_families config (take at events) counts event (omega arith))
            ∙ ap (λ e. slices_now both_families config (take at events ++ e ∷ []) counts) found
            ∙ ap (λ es. slices_now both_families config es counts)
            (sym (take_more events at event few))
            ∙ ap (λ (n : ℕ). slices_now both_families config (take n events) counts) (sym next);
        controlled = controlled;
      }

  -- events, and then others
  pub fed_on : (first s last : SlicesAt) (k to : ℕ) → IsFed config events k first s
      → IsFed config events to s last → IsFed config events last.place.at first last
  fed_on first s last k to f g =
      let from = f.later in
      let at = f.at in
      let later = g.later in
      let end = g.at in
      record {
        place = g.place;
        at = refl;
        later = omega arith;
        syncs = g.syncs ∙ f.syncs;
        covered = g.covered ∙ f.covered;
        slices = λ counts within is. g.slices counts (omega arith) (f.slices counts within is);
        controlled = g.controlled;
      }

module _ (config : Config) (events : List Event) (counts : List ℕ) (s : SlicesAt)
    (is : IsSlicesAt config events counts s) (to : ℕ) (fed : SlicesAt)
    (f : IsFed config events to s fed) where
  after : fed.slices ≡ slices_now both_families config (take to events) (take s.syncs counts)
  after =
      let covered = is.covered in
      let from = is.from in
      f.slices (take s.syncs counts) (omega arith) is.slices
      ∙ ap (λ (n : ℕ). slices_now both_families config (take n events) (take s.syncs counts)) f.at

  -- over no more syncs
  pub fed_at : (s.syncs < length counts → to ≤ sum (take (s.syncs + 1) counts))
      → IsSlicesAt config events counts fed
  fed_at no_more =
      let le = is.from in
      let at = f.at in
      let later = f.later in
      let syncs = f.syncs in
      let few = is.syncs in
      let covered = f.covered in
      record {
        place = f.place;
        syncs = omega arith;
        covered = f.covered ∙ is.covered ∙ ap (λ (n : ℕ). sum (take n counts)) (sym f.syncs);
        from = omega arith;
        to = λ more.
            let rest = no_more (subst (λ (n : ℕ). n < length counts) f.syncs more) in
            subst (λ (n : ℕ). fed.place.at ≤ sum (take (n + 1) counts)) (sym f.syncs) (subst (λ (n : ℕ). n ≤ sum (take (s.syncs + 1) counts)) (sym f.at) rest);
        slices = after ∙ (λ i. slices_now both_families config (take (sym f.at i) events) (take (sym f.syncs i) counts));
        controlled = f.controlled;
      }

-- over one more sync
pub next_sync : SlicesAfterSync → MoreArePicked
    → (config : Config) (events : List Event) (counts : List ℕ) (s : SlicesAt)
    → IsSlicesAt config events counts s → s.syncs < length counts → sum counts ≤ length events
    → (fed : SlicesAt) → IsFed config events (s.covered + get_or counts s.syncs 0) s fed
    → (made : Slices) (touched : Touched)
    → made ≡ controller_step both_families config fed.place.objects fed.slices
    → IsControlledBut none config fed.place.objects made
    → IsSlicesAt config events counts (record {
      slices = made;
      place = fed.place;
      touched = touched;
      syncs = fed.syncs + 1;
      covered = s.covered + get_or counts s.syncs 0;
    })
next_sync by_sync picked config events counts s is more within fed f made touched step settled =
    let k = s.syncs in
    let count = get_or counts k 0 in
    let to = s.covered + count in
    let all : sum (take (k + 1) counts) ≡ to = sum_next counts k more ∙ ap (λ (n : ℕ). n + count) (sym is.covered) in
    let part = sum_by-take-le (λ (m : ℕ). m) counts (k + 1) in
    let inside : to ≤ length events = omega arith in
    let long : length (take to events) ≡ to = length-take-le to events inside in
    let at = f.at in
    let syncs = f.syncs in
    let covered = is.covered in
    let left : length (take to events) - sum (take k counts) ≡ count = omega arith in
    let few : sum (take k counts) ≤ length (take to events) = omega arith in
    let counted : take (fed.syncs + 1) counts ≡ take k counts ++ (length (take to events) - sum (take k counts)) ∷ [] =
    ap (λ (n : ℕ). take (n + 1) counts) f.syncs ∙ take_more counts k 0 more ∙ ap (λ (n : ℕ). take k counts ++ n ∷ []) (sym left) in
    let rises = sum_rises counts (k + 1) in
    record {
      place = f.place;
      syncs = omega arith;
      covered = sym all ∙ ap (λ (n : ℕ). sum (take (n + 1) counts)) (sym f.syncs);
      from = omega arith;
      to = λ _. subst (λ (n : ℕ). fed.place.at ≤ sum (take (n + 1 + 1) counts)) (sym f.syncs) (omega arith);
      slices = step
          ∙ ap (λ o. controller_step both_families config o fed.slices) (f.place.objects ∙ ap (λ (n : ℕ). objects_after (take n events)) f.at)
          ∙ ap (controller_step both_families config (objects_after (take to events))) (after config events counts s is to fed f)
          ∙ sym (by_sync both_families config (take to events) (take k counts) few)
          ∙ ap (slices_now both_families config (take to events)) (sym counted)
          ∙ ap (λ (n : ℕ). slices_now both_families config (take n events) (take (fed.syncs + 1) counts)) (sym f.at);
      controlled = controlled_by_none picked config fed.place.objects made touched settled;
    }

-- after all events and all syncs they are the slices now
pub at_all : (config : Config) (events : List Event) (counts : List ℕ) (s : SlicesAt) → IsSlicesAt config events counts s → s.place.at ≡ length events → length counts ≤ s.syncs
    → s.slices ≡ slices_now both_families config events counts
at_all config events counts s is at all =
    is.slices
    ∙ ap (λ (n : ℕ). slices_now both_families config (take n events) (take s.syncs counts)) at
    ∙ ap (λ es. slices_now both_families config es (take s.syncs counts)) (take_all (length events) events (le_refl (length events)))
    ∙ ap (slices_now both_families config events) (take_all s.syncs counts all)
