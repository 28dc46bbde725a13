-- What one more sync changes, and what it looks at.
use Rattle.std.proofs.Common.{◌≡◌, ◌≤◌, ◌<◌, ◌+◌, nat_lt, ℕ, suc, List, [], ◌∷◌, ◌++◌}
use Rattle.std.proofs.Common.{take, length, sum, Bool, true, false, None}
use Rattle.std.proofs.Common.{refl, sym, ap, subst, ◌∙◌, arith, le_refl}
use Rattle.std.proofs.lemmas.Bool.Decides.{nat_tests}
use Rattle.std.proofs.lemmas.List.{take_all, take-append-le, length_push}
use Rattle.kp_base.specs.declared.config.Config.{Config}
use Rattle.kp_types.specs.declared.event.Event.{Event}
use Rattle.kp_types.specs.declared.rule.Batch.{Batch}
use Rattle.kp_types.specs.declared.rule.Edit.{Edit}
use Rattle.kp_types.specs.declared.sync.SyncRecord.{SyncRecord}
use Rattle.kp_types.specs.Setting.{both_families}
use Rattle.kp_object_defs.specs.Objects.{Objects, objects_after}
use Rattle.kp_object_defs.specs.SlicesNow.{slices_now}
use Rattle.kp_table_defs.specs.Edits.{SameRulesAreEqual, changes_between}
use Rattle.kp_table_defs.specs.Rebuild.{clash_of, full_table}
use Rattle.kp_history.specs.Parts.{PlaneParts, HasExactHistory, settings_in, uncovered_in}
use Rattle.kp_history.specs.Parts.{objects_in, chains_in, next_edits, synced}
use Rattle.kp_history.specs.Invariant.{IsHistory, LeadsToNext}
use Rattle.kp_history.specs.declared.history.History.{History}
use Rattle.kp_history.proofs.Synced.{all_counted, within}
use Rattle.kp_plane.specs.Invariant.{Holds, IsAtPlace, IsPlane, IsSlicesAt}
use Rattle.kp_plane.specs.Notes.{note_of}
use Rattle.kp_plane.specs.Parts.{IsNextRecord, syncs_in, next_record}
use Rattle.kp_plane.specs.declared.note.SyncNote.{SyncNote}
use Rattle.kp_plane.specs.declared.place.ObjectsAt.{ObjectsAt}
use Rattle.kp_plane.specs.declared.ports_at.PortsAt.{PortsAt}
use Rattle.kp_plane.specs.declared.slices_at.SlicesAt.{SlicesAt}
use Rattle.kp_plane.proofs.Unchanged.{no_changes}

slices_next : (p : PlaneParts) (h : HasExactHistory p) (s : SlicesAt) → IsSlicesAt p.config p.events p.counts s → IsSlicesAt p.config p.events (synced p).counts s
slices_next p h s is =
    let u = uncovered_in p in
    let longer = length_push p.counts u in
    let few = is.syncs in
    let same : take s.syncs (p.counts ++ u ∷ []) ≡ take s.syncs p.counts = take-append-le s.syncs p.counts (u ∷ []) is.syncs in
    record {
      place = is.place;
      syncs = omega arith;
      covered = is.covered ∙ ap sum (sym same);
      from = is.from;
      to = λ _. by (nat_lt s.syncs (length p.counts)) refl;
      slices = is.slices ∙ ap (slices_now both_families p.config (take s.place.at p.events)) (sym same);
      controlled = is.controlled;
    }
  where
    by : (b : Bool) → nat_lt s.syncs (length p.counts) ≡ b → s.place.at ≤ sum (take (s.syncs + 1) (p.counts ++ uncovered_in p ∷ []))
    by true e =
        let more : s.syncs < length p.counts = grind (arith, nat_tests) in
        subst (λ (ns : List ℕ). s.place.at ≤ sum ns) (sym (take-append-le (s.syncs + 1) p.counts (uncovered_in p ∷ []) (omega arith))) (is.to more)
    by false e =
        let all : length p.counts ≤ s.syncs = grind (arith, nat_tests) in
        let longer = length_push p.counts (uncovered_in p) in
        let inside = is.place.within in
        subst (λ (ns : List ℕ). s.place.at ≤ sum ns) (sym (take_all (s.syncs + 1) (p.counts ++ uncovered_in p ∷ []) (omega arith)))
        (subst (λ (n : ℕ). s.place.at ≤ n) (sym (all_counted p h)) inside)

-- what holds of all fields after one more sync
pub plane_next : (p : PlaneParts) (most : ℕ) (h next : History) (s t : PortsAt)
    → (explained : ObjectsAt) (slices : SlicesAt) → IsPlane p most h s explained slices
    → Holds (synced p) next t
    → IsPlane (record p { counts = next.counts.items }) most next t explained slices
plane_next p most h next s t explained slices is more =
    let all = all_counted p is.holds.history.exact in
    let few = within p is.holds.history.exact in
    let before = is.to in
    subst (λ (counts : List ℕ). IsPlane (record p { counts = counts }) most next t explained slices)
    (sym more.history.counts) (record {
      limit = is.limit;
      room = is.room;
      holds = more;
      explained_at = is.explained_at;
      to = omega (arith, all, few, before);
      slices_at = slices_next p is.holds.history.exact slices is.slices_at;
    })

-- and where none was made
pub plane_kept : (p : PlaneParts) (most : ℕ) (h next : History) (s t : PortsAt)
    → (explained : ObjectsAt) (slices : SlicesAt) → IsPlane p most h s explained slices
    → Holds p next t
    → IsPlane (record p { counts = next.counts.items }) most next t explained slices
plane_kept p most h next s t explained slices is same =
    subst (λ (counts : List ℕ). IsPlane (record p { counts = counts }) most next t explained slices)
    (sym same.history.counts) (record {
      limit = is.limit;
      room = is.room;
      holds = same;
      explained_at = is.explained_at;
      to = is.to;
      slices_at = is.slices_at;
    })

-- what contracts see after one more sync
pub parts_next : (p q : PlaneParts) → p ≡ q → (next : History) (t : PortsAt)
    → Holds (synced p) next t → ◌≡◌ {A = PlaneParts} (record p { counts = next.counts.items }) (synced q)
parts_next p q same next t more =
    ap (λ (counts : List ℕ). record p { counts = counts }) more.history.counts ∙ ap synced same

-- ---- What a sync looks at

-- the objects at the journal's end
pub at_end : (events all : List Event) (o : ObjectsAt) → IsAtPlace events o → o.at ≡ length events
    → events ≡ all → o.objects ≡ objects_after all
at_end events all o is at same =
    is.objects
    ∙ ap (λ (n : ℕ). objects_after (take n events)) at
    ∙ ap objects_after (take_all (length events) events (le_refl (length events)) ∙ same)

-- the objects that the last sync covers
pub at_last : (p : PlaneParts) (h : History) (o : ObjectsAt) → IsHistory p h → IsAtPlace p.events o → o.at ≡ h.covered → o.objects ≡ objects_in p
at_last p h o is at same =
    at.objects
    ∙ ap (λ (n : ℕ). objects_after (take n p.events)) (same ∙ is.covered)
    ∙ ap (λ (c : List ℕ). objects_after (take (sum c) p.events)) (sym (take_all (length p.counts) p.counts (le_refl (length p.counts))))

-- where no event came, these are all objects
pub nothing_new : (p : PlaneParts) (h : History) → IsHistory p h → length p.events ≡ h.covered → objects_in p ≡ objects_after p.events
nothing_new p h is same =
    ap (λ (c : List ℕ). objects_after (take (sum c) p.events)) (take_all (length p.counts) p.counts (le_refl (length p.counts)))
    ∙ ap (λ (n : ℕ). objects_after (take n p.events)) (sym (same ∙ is.covered))
    ∙ ap objects_after (take_all (length p.events) p.events (le_refl (length p.events)))

-- so no edit leads on
pub leads_nowhere : SameRulesAreEqual → (p : PlaneParts) (h : History) → IsHistory p h
    → length p.events ≡ h.covered → {edits : List Edit} → edits ≡ []
    → LeadsToNext p (record { edits = edits })
leads_nowhere rules p h is none {edits} empty =
    let all = nothing_new p h is none in
    record {
      no_clash = ap (clash_of (settings_in p)) (sym all) ∙ is.no_clash;
      edits = empty ∙ sym (no_changes rules (chains_in p))
          ∙ ap (λ o. changes_between (chains_in p) (full_table (settings_in p) o).chains) all;
    }

-- where the last sync covers all, no event is left
pub none_left : (p : PlaneParts) (h : History) → IsHistory p h → length p.events ≡ h.covered
    → uncovered_in p ≡ 0
none_left p h is all = let covered = is.covered in omega arith

-- and else one is
pub some_left : (p : PlaneParts) (h : History) → IsHistory p h → {n : ℕ} → (n ≡ h.covered → ⊥)
    → n ≡ length p.events → 0 < uncovered_in p
some_left p h is more all =
    let covered = is.covered in
    let few = within p is.exact in
    omega (arith, more, all, covered, few)

-- what is answered by the objects that the last sync covers
pub same_answer : (p q : PlaneParts) → p ≡ q → (o : Objects) → o ≡ objects_in p
    → (R : Config → Objects → Type 0) → R p.config o → R q.config (objects_in q)
same_answer p q same o is R h =
    subst (λ r. R r.config (objects_in r)) same (subst (R p.config) is h)

-- ---- What a sync tells

-- its number is the next one
pub next_number : (p q : PlaneParts) → q ≡ synced p → {n : ℕ} → n ≡ syncs_in q
    → n ≡ suc (syncs_in p)
next_number p q next numbered =
    let longer = length_push p.counts (uncovered_in p) in
    let one : syncs_in (synced p) ≡ suc (syncs_in p) = omega arith in
    numbered ∙ ap syncs_in next ∙ one

-- so its record is the next one
pub record_next : (p : PlaneParts) → clash_of (settings_in p) (objects_after p.events) ≡ None
    → IsNextRecord p (next_record p)
record_next p no_clash = record {
  events = refl;
  exact = record { is_numbered = refl; has_no_clash = no_clash; is_changes = refl };
}

-- a record by its note and its edits
pub record_told : (p : PlaneParts) (note : SyncNote) (batch : Batch) → note ≡ note_of (next_record p)
    → batch.edits ≡ next_edits p
    → ◌≡◌ {A = SyncRecord} (record { sync = note.sync; events = note.events; batch = batch })
    (next_record p)
record_told p note batch is edits = λ i. record {
  sync = (is i).sync;
  events = (is i).events;
  batch = record { edits = edits i };
}
