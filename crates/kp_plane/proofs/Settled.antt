-- What holds of ports once a sync is kept.
use Rattle.std.proofs.Common.{◌≡◌, ◌≤◌, ◌<◌, nat_lt, Bool, true, false, cond, Option, Some, None, is_some, length, sym, subst}
use Rattle.std.proofs.Common.{◌∙◌, ap, arith, sum, refl}
use Rattle.std.specs.Option.{option_map}
use Rattle.std.proofs.lemmas.Bool.Decides.{nat_tests}
use Rattle.kp_choice_defs.specs.Settings.{setting_of}
use Rattle.kp_object_defs.specs.Objects.{objects_after}
use Rattle.kp_history_defs.specs.DirtyPorts.{dirty_ports}
use Rattle.kp_history.specs.declared.history.History.{History}
use Rattle.kp_history.proofs.Synced.{all_counted, before_next, objects_next, within}
use Rattle.kp_base.specs.declared.key.ObjectKey.{ObjectKey}
use Rattle.kp_store.specs.Touched.{is_touched}
use Rattle.kp_store.specs.declared.touched.Touched.{Touched}
use Rattle.kp_writer.specs.Written.{WriterParts, all_written}
use Rattle.kp_plane.specs.Collected.{is_collected}
use Rattle.kp_plane.specs.Families.{Both, IsNewest, IsWritten, KnowsRest, map_both}
use Rattle.kp_plane.specs.Families.{per_family}
use Rattle.kp_plane.specs.Invariant.{AreTouchedBetween, Holds, IsAtPlace, IsNext, IsPortsAt}
use Rattle.kp_plane.specs.Invariant.{IsSettled, touched_between}
use Rattle.kp_plane.specs.Parts.{PlaneParts, objects_in, settings_in, synced, uncovered_in}
use Rattle.kp_plane.specs.Past.{LeadPastOthers}
use Rattle.kp_plane.specs.declared.collected.Collected.{Collected}
use Rattle.kp_plane.specs.declared.next.Next.{Next}
use Rattle.kp_plane.specs.declared.per_family.PerFamily.{PerFamily}
use Rattle.kp_plane.specs.declared.place.ObjectsAt.{ObjectsAt}
use Rattle.kp_plane.specs.declared.ports_at.PortsAt.{PortsAt}
use Rattle.kp_plane.proofs.Each.{both_from, both_mapped}
use Rattle.kp_plane.proofs.PastEvents.{neither, past_none, untold}
use Rattle.kp_plane.proofs.Since.{none_between}
use Rattle.kp_plane.proofs.Synced.{at_end, nothing_new}
use Rattle.kp_plane.proofs.Touching.{both_answers}

module _ (p : PlaneParts) (h : History) (s t : PortsAt) (next : Next) (held : Holds p h s)
    (is : IsNext p s next) where
  -- events that no sync covered came, or the last sync covers all
  some_new : (b : Bool) → b ≡ nat_lt h.covered (length p.events) → b ≡ true → 0 < uncovered_in p
  some_new b new some =
      let covered = held.history.covered in
      let told : nat_lt h.covered (length p.events) ≡ true = sym new ∙ some in
      let more : h.covered < length p.events = grind (arith, nat_tests) in
      omega (arith, covered, more)

  none_new : (b : Bool) → b ≡ nat_lt h.covered (length p.events) → b ≡ false
      → length p.events ≡ h.covered
  none_new b new none =
      let few = within p held.history.exact in
      let covered = held.history.covered in
      let told : nat_lt h.covered (length p.events) ≡ false = sym new ∙ none in
      let all : length p.events ≤ h.covered = grind (arith, nat_tests) in
      omega (arith, few, covered, all)

  abbrev after : PerFamily WriterParts
  after = map_both all_written s.writers

  -- what is written then is what the objects of all events tell, in the node's families
  wrote : (is_new : Bool) → is_new ≡ nat_lt h.covered (length p.events)
      → Both (IsWritten p.config (objects_after p.events)) (cond is_new after s.writers)
  wrote true new =
      both_mapped all_written (IsWritten p.config (objects_after p.events)) s.writers
      (both_from (IsWritten p.config (objects_in p)) (IsNewest (objects_after p.events))
      (λ family w. IsWritten p.config (objects_after p.events) family (all_written w)) s.writers
      (λ family w is now. record { family = is.family; config = is.config; written = now })
      held.ports.written (is.newest (some_new true new refl)).newest)
  wrote false old =
      subst (λ o. Both (IsWritten p.config o) s.writers)
      (nothing_new p h held.history (none_new false old refl)) held.ports.written

  -- and as much is known
  knows : (is_new : Bool) → Both (KnowsRest s.latest.objects (is_collected s.touched))
      (cond is_new after s.writers)
  knows true =
      both_mapped all_written (KnowsRest s.latest.objects (is_collected s.touched)) s.writers
      held.ports.untouched
  knows false = held.ports.untouched

  as_many : (is_new : Bool) → is_some (cond is_new after s.writers).six ≡ p.config.dual
  as_many true = by s.writers.six ∙ held.ports.dual
    where
      by : (o : Option WriterParts) → is_some (option_map all_written o) ≡ is_some o
      by None = refl
      by (Some w) = refl
  as_many false = held.ports.dual

  -- nothing was touched since this sync
  all_since : (is_new : Bool) → is_new ≡ nat_lt h.covered (length p.events)
      → AreTouchedBetween (settings_in p) p.events (sum (synced p).counts) s.latest.at s.touched
  all_since true new =
      let up = is.newest (some_new true new refl) in
      let at = up.at in
      let all = all_counted p held.history.exact in
      record {
        later = omega (arith, at, all);
        few = λ k some. absurd (both_answers (is_collected s.touched k) some (up.none k));
      }
  all_since false old =
      let covered = held.history.covered in
      let same = none_new false old refl in
      let all = all_counted p held.history.exact in
      let here : sum p.counts ≡ sum (synced p).counts = omega (arith, covered, same, all) in
      subst (λ from. AreTouchedBetween (settings_in p) p.events from s.latest.at s.touched) here
      held.ports.since

  -- the latest objects are those of all events
  latest_all : (is_new : Bool) → is_new ≡ nat_lt h.covered (length p.events)
      → s.latest.objects ≡ objects_after p.events
  latest_all true new =
      at_end p.events p.events s.latest held.ports.place (is.newest (some_new true new refl)).at refl
  latest_all false old =
      let same = none_new false old refl in
      let covered = held.history.covered in
      let later = held.ports.since.later in
      let few = held.ports.place.within in
      at_end p.events p.events s.latest held.ports.place (omega (arith, same, covered, later, few))
      refl

  -- none of the Services is still to be looked at
  none_touched : (is_new : Bool) → is_new ≡ nat_lt h.covered (length p.events) → (k : ObjectKey)
      → is_collected s.touched k ≡ false
  none_touched true new k = (is.newest (some_new true new refl)).none k
  none_touched false old k =
      let same = none_new false old refl in
      let covered = held.history.covered in
      let few = held.ports.place.within in
      let none = none_between (settings_in p) p.events (sum p.counts) s.latest.at
      (omega (arith, same, covered, few)) few k in
      untold (is_collected s.touched k)
      (touched_between (settings_in p) p.events (sum p.counts) s.latest.at k)
      (held.ports.since.few k) none

  -- the events of this sync lead past the others
  last_past : (is_new : Bool) → is_new ≡ nat_lt h.covered (length p.events)
      → IsSettled is_new next.dirty s t
      → LeadPastOthers (settings_in p) (objects_in p) s.latest.objects (is_touched t.last)
  last_past is_new new settled = λ k none.
      held.ports.past k (neither (is_touched s.since k) (is_collected s.touched k)
      (ap (λ (u : Touched). is_touched u k) (sym settled.last) ∙ none)
      (none_touched is_new new k))

  pub settled_ports : (is_new : Bool) → is_new ≡ nat_lt h.covered (length p.events)
      → IsSettled is_new next.dirty s t → IsPortsAt (synced p) t
  settled_ports is_new new settled = record {
    place = subst (IsAtPlace p.events) (sym settled.latest) held.ports.place;
    dual = ap (λ (x : PerFamily WriterParts). is_some x.six) settled.writers ∙ as_many is_new;
    written = subst (λ o. Both (IsWritten p.config o) t.writers)
        (sym (objects_next p held.history.exact))
        (subst (Both (IsWritten p.config (objects_after p.events))) (sym settled.writers)
        (wrote is_new new));
    untouched = subst (λ (l : ObjectsAt). Both (KnowsRest l.objects (is_collected t.touched))
        t.writers) (sym settled.latest)
        (subst (λ (u : Collected). Both (KnowsRest s.latest.objects (is_collected u)) t.writers)
        (sym settled.touched)
        (subst (Both (KnowsRest s.latest.objects (is_collected s.touched))) (sym settled.writers)
        (knows is_new)));
    since = subst (λ (u : Collected). AreTouchedBetween (settings_in p) p.events
        (sum (synced p).counts) t.latest.at u) (sym settled.touched)
        (subst (λ (l : ObjectsAt). AreTouchedBetween (settings_in p) p.events
        (sum (synced p).counts) l.at s.touched) (sym settled.latest) (all_since is_new new));
    past = λ k none.
        past_none (settings_in p) (objects_in (synced p)) t.latest.objects k
        (ap (λ (l : ObjectsAt). l.objects) settled.latest
        ∙ latest_all is_new new ∙ sym (objects_next p held.history.exact));
    last = subst (λ o. LeadPastOthers (settings_in p) o (objects_in (synced p)) (is_touched t.last))
        (sym (before_next p held.history.exact))
        (subst (λ o. LeadPastOthers (settings_in p) (objects_in p) o (is_touched t.last))
        (latest_all is_new new ∙ sym (objects_next p held.history.exact))
        (last_past is_new new settled));
    dirty = settled.dirty ∙ is.dirty
        ∙ (λ i. per_family p.config (λ family. dirty_ports (setting_of family p.config)
        (sym (before_next p held.history.exact) i) (sym (objects_next p held.history.exact) i)));
  }
