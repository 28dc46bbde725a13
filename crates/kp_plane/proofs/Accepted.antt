-- More events change nothing of what syncs cover.
use Rattle.std.proofs.Common.{◌≡◌, ◌≤◌, ◌-◌, ℕ, List, ◌++◌, take, length, sum, sym, ap, subst, ◌∙◌, arith, Result, Ok, Err, OnOk, OnErr}
use Rattle.std.proofs.lemmas.List.{take-append-le, length-append}
use Rattle.std.proofs.lemmas.List.Sums.{sum_by-take-le}
use Rattle.kp_types.specs.declared.event.Event.{Event}
use Rattle.kp_types.specs.Setting.{both_families}
use Rattle.kp_choice_defs.specs.Settings.{setting_of}
use Rattle.kp_object_defs.specs.Objects.{objects_after}
use Rattle.kp_object_defs.specs.SlicesNow.{slices_now}
use Rattle.kp_table_defs.specs.Edits.{changes_between}
use Rattle.kp_table_defs.specs.Rebuild.{clash_of, full_table}
use Rattle.kp_history_defs.specs.History.{IsExactHistory, counts_of, objects_covered, chains_covered}
use Rattle.kp_history_laws.specs.HistoryLaws.{ExactByEvents, RecordsStay}
use Rattle.kp_events.specs.JournalContents.{Contents, HasRoom}
use Rattle.kp_events.specs.JournalContents as journal
use Rattle.kp_history.proofs.Synced.{within}
use Rattle.kp_history.specs.Invariant.{IsHistory}
use Rattle.kp_history.specs.declared.history.History.{History}
use Rattle.kp_plane.specs.Parts.{PlaneParts, HasExactHistory, settings_in, syncs_in, batch_after}
use Rattle.kp_plane.specs.Parts.{objects_before, with_events, records_in}
use Rattle.kp_plane.specs.Past.{LeadPastOthers}
use Rattle.kp_store.specs.Touched.{is_touched}
use Rattle.kp_history_defs.specs.DirtyPorts.{dirty_ports}
use Rattle.kp_plane.specs.Families.{Both, IsWritten, per_family}
use Rattle.kp_plane.specs.Invariant.{IsAtPlace, IsPlane, IsPortsAt, IsSlicesAt, may_have_touched}
use Rattle.kp_plane.specs.declared.place.ObjectsAt.{ObjectsAt}
use Rattle.kp_plane.specs.declared.ports_at.PortsAt.{PortsAt}
use Rattle.kp_plane.specs.declared.slices_at.SlicesAt.{SlicesAt}
use Rattle.kp_plane.proofs.Since.{since_accepted}

module _ (p : PlaneParts) (more : List Event) where
  pub covered_same : HasExactHistory p → (n : ℕ) → objects_covered (p.events ++ more) p.counts n ≡ objects_covered p.events p.counts n
  covered_same h n =
      let part = sum_by-take-le (λ (m : ℕ). m) p.counts n in
      let all = within p h in
      ap objects_after (take-append-le (sum (take n p.counts)) p.events more (omega arith))

  exact_same : ExactByEvents → RecordsStay → HasExactHistory p → HasExactHistory (with_events p more)
  exact_same goes_on stay h =
      let same = stay (settings_in p) p.events more p.counts (within p h) in
      record {
        counted = ap counts_of same ∙ h.counted;
        exact = subst (IsExactHistory (settings_in p) (p.events ++ more)) (sym same)
            (goes_on (settings_in p) p.events more (records_in p) h.exact);
      }

  chains_same : HasExactHistory p → (n : ℕ) → chains_covered (settings_in p) (p.events ++ more) p.counts n ≡ chains_covered (settings_in p) p.events p.counts n
  chains_same h n = ap (λ o. (full_table (settings_in p) o).chains) (covered_same h n)

  history_same : ExactByEvents → RecordsStay → (h : History) → IsHistory p h → IsHistory (with_events p more) h
  history_same goes_on stay h is = record {
    counts = is.counts;
    covered = is.covered;
    table = is.table ∙ (λ i. record { chains = sym (chains_same is.exact (syncs_in p)) i; syncs = syncs_in p });
    last = is.last ∙ (λ i. batch_after p.counts (changes_between (sym (chains_same is.exact (syncs_in p - 1)) i) (sym (chains_same is.exact (syncs_in p)) i)));
    exact = exact_same goes_on stay is.exact;
    no_clash = ap (clash_of (settings_in p)) (covered_same is.exact (syncs_in p)) ∙ is.no_clash;
  }

  place_same : (o : ObjectsAt) → IsAtPlace p.events o → IsAtPlace (p.events ++ more) o
  place_same o is = record {
    within = let longer = length-append p.events more in let le = is.within in omega arith;
    objects = is.objects ∙ ap objects_after (sym (take-append-le o.at p.events more is.within));
  }

  slices_same : (s : SlicesAt) → IsSlicesAt p.config p.events p.counts s → IsSlicesAt p.config (p.events ++ more) p.counts s
  slices_same s is = record {
    place = place_same s.place is.place;
    syncs = is.syncs;
    covered = is.covered;
    from = is.from;
    to = is.to;
    slices = is.slices ∙ ap (λ es. slices_now both_families p.config es (take s.syncs p.counts)) (sym (take-append-le s.place.at p.events more is.place.within));
    controlled = is.controlled;
  }

  ports_same : HasExactHistory p → (s : PortsAt) → IsPortsAt p s → IsPortsAt (with_events p more) s
  ports_same h s is = record {
    place = place_same s.latest is.place;
    dual = is.dual;
    written = subst (λ o. Both (IsWritten p.config o) s.writers)
        (sym (covered_same h (syncs_in p))) is.written;
    untouched = is.untouched;
    since = since_accepted (settings_in p) p.events (sum p.counts) s.latest.at s.touched more
        is.place.within is.since;
    past = subst (λ o. LeadPastOthers (settings_in p) o s.latest.objects (may_have_touched s))
        (sym (covered_same h (syncs_in p))) is.past;
    last = subst (λ o. LeadPastOthers (settings_in p) o
        (objects_covered (p.events ++ more) p.counts (syncs_in p)) (is_touched s.last))
        (sym (covered_same h (syncs_in p - 1)))
        (subst (λ o. LeadPastOthers (settings_in p) (objects_before p) o (is_touched s.last))
        (sym (covered_same h (syncs_in p))) is.last);
    dirty = is.dirty
        ∙ (λ i. per_family p.config (λ family. dirty_ports (setting_of family p.config)
        (sym (covered_same h (syncs_in p - 1)) i) (sym (covered_same h (syncs_in p)) i)));
  }

  -- what holds of a plane's fields still does where more events are accepted
  pub plane_same : ExactByEvents → RecordsStay → (most : ℕ) (h : History) (s : PortsAt)
      → (explained : ObjectsAt) (slices : SlicesAt) → length (p.events ++ more) ≤ most
      → IsPlane p most h s explained slices → IsPlane (with_events p more) most h s explained slices
  plane_same goes_on stay most h s explained slices room is = record {
    limit = is.limit;
    room = room;
    holds = record {
      history = history_same goes_on stay h is.holds.history;
      ports = ports_same is.holds.history.exact s is.holds.ports;
    };
    explained_at = place_same explained is.explained_at;
    to = is.to;
    slices_at = slices_same slices is.slices_at;
  }

-- a journal's answer keeps what holds of all fields
pub accepted : ExactByEvents → RecordsStay → {E : Type 0} (r : Result (Unit {0}) E) (p : PlaneParts)
    → (more : List Event) (before after : Contents) (h : History) (s : PortsAt)
    → (explained : ObjectsAt) (slices : SlicesAt)
    → OnOk r (after ≡ journal.with_events before more) → OnOk r (HasRoom before (length more))
    → OnErr r (after ≡ before)
    → IsPlane (record p { events = before.events }) before.most h s explained slices
    → IsPlane (record p { events = after.events }) after.most h s explained slices
accepted goes_on stay (Ok x) p more before after h s explained slices ok fits err is =
    let longer = length-append before.events more in
    subst (λ (j : Contents). IsPlane (record p { events = j.events }) j.most h s explained slices)
    (sym ok)
    (plane_same (record p { events = before.events }) more goes_on stay before.most h s explained
    slices (omega (arith, longer, fits)) is)
accepted goes_on stay (Err e) p more before after h s explained slices ok fits err is =
    subst (λ (j : Contents). IsPlane (record p { events = j.events }) j.most h s explained slices)
    (sym err) is
