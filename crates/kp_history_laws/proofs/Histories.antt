-- Exact histories: how they grow.
use Rattle.std.proofs.Common.{◌≡◌, ℕ, zero, suc, ◌≤◌, List, [], ◌∷◌, ◌++◌, map, take, length, sum, Some, None, refl, sym, ap, subst, ◌∙◌, arith, inl, inr, ◌⊎◌}
use Rattle.std.specs.List.{slice_get, filter_map, cons_option}
use Rattle.std.specs.FinMap as finite
use Rattle.std.proofs.lemmas.List.{take_all, take-append-le, length-append, length-map, length_push, map_push}
use Rattle.std.proofs.lemmas.List.Sums.{sum_by_push, sum_by-take-le}
use Rattle.std.proofs.lemmas.Option.{same_Some, slice_get_within}
use Rattle.kp_lemmas.proofs.Entries.{empty_entries}
use Rattle.kp_base.specs.Keys.{key_cmp}
use Rattle.kp_base.specs.declared.address.Family.{Family}
use Rattle.kp_base.specs.declared.key.ObjectKey.{ObjectKey}
use Rattle.kp_types.specs.Setting.{Setting, Settings, view_of}
use Rattle.kp_types.specs.declared.chain.Clash.{Clash}
use Rattle.kp_types.specs.declared.event.Event.{Event}
use Rattle.kp_types.specs.declared.service.Service.{Service}
use Rattle.kp_types.specs.declared.sync.SyncRecord.{SyncRecord}
use Rattle.kp_object_defs.specs.Objects.{Objects, no_objects, objects_after, zone_of}
use Rattle.kp_object_defs.specs.Entries.{sources_of}
use Rattle.kp_object_defs.specs.PortInfo.{port_infos, infos_by_family, infos_from}
use Rattle.kp_table_defs.specs.Parts.{rules_by_port, rules_of_objects}
use Rattle.kp_table_defs.specs.Rebuild.{clash_among, clash_of}
use Rattle.kp_history_defs.specs.History.{counts_of, objects_covered, IsExactRecord, IsExactHistory}
use Rattle.kp_history_laws.specs.HistoryLaws.{all_covered, CoversRest, ExactWithoutRecords, ExactByEvents, ExactByRecord, CoveredStays, CoveredByRecord}

-- ---- No objects

pub no_infos : (setting : Setting) → port_infos setting.family setting.config no_objects ≡ []
no_infos setting =
    ap (λ (es : List (ObjectKey × Service)). infos_from setting.family setting.config.node (zone_of no_objects setting.config.node) (map (sources_of setting.family setting.config no_objects) (map (λ e. e.1) es)))
    (empty_entries {X = Service} key_cmp)

pub no_rules : (setting : Setting) → rules_of_objects setting no_objects ≡ finite.empty
no_rules setting = ap (rules_by_port setting) (no_infos setting)

module _ (settings : Settings) where
  -- no family has a clash
  none_clash : (families : List Family)
      → filter_map (λ f. clash_among (view_of f settings) (infos_by_family settings no_objects f))
      families ≡ []
  none_clash [] = refl
  none_clash (f ∷ fs) = λ i.
      cons_option (clash_among (view_of f settings) (no_infos (view_of f settings) i)) (none_clash fs i)

  pub first_no_clash : clash_of settings no_objects ≡ None
  first_no_clash =
      ap (λ (clashes : List Clash). slice_get clashes 0) (none_clash settings.families)

-- ---- One more record

-- an element of a list with one more at its end is one of the list, or the last
last_or : {X : Type 0} (xs : List X) (y : X) (n : ℕ) (x : X) → slice_get (xs ++ y ∷ []) n ≡ Some x → (slice_get xs n ≡ Some x) ⊎ ((n ≡ length xs) × (y ≡ x))
last_or [] y zero x h = inr (refl, same_Some y x h)
last_or [] y (suc n) x h = absurd (cc)
last_or (z ∷ zs) y zero x h = inl h
last_or (z ∷ zs) y (suc n) x h =
    elim (last_or zs y n x h) [
      | inl found ↦ inl found
      | inr (at, is) ↦ inr (ap (λ (m : ℕ). suc m) at, is)
    ]

-- the counts of records are as many as these
pub length_counts : (records : List SyncRecord) → length (counts_of records) ≡ length records
length_counts records = length-map records (λ r. r.events)

-- the counts of records with one more
more_counts : (records : List SyncRecord) (r : SyncRecord) → counts_of (records ++ r ∷ []) ≡ counts_of records ++ r.events ∷ []
more_counts records r = map_push (λ q. q.events) records r

-- what records cover of events stays where more events come
with_events : (events more : List Event) (records : List SyncRecord) → sum (counts_of records) ≤ length events → (n : ℕ)
    → objects_covered (events ++ more) (counts_of records) n ≡ objects_covered events (counts_of records) n
with_events events more records within n =
    let le = sum_by-take-le (λ (m : ℕ). m) (counts_of records) n in
    ap objects_after (take-append-le (sum (take n (counts_of records))) events more (omega arith))

module _ (events : List Event) (records : List SyncRecord) (r : SyncRecord) where
  -- and where one more record comes
  with_record : (n : ℕ) → n ≤ length records → objects_covered events (counts_of (records ++ r ∷ [])) n ≡ objects_covered events (counts_of records) n
  with_record n le =
      ap (λ counts. objects_covered events counts n) (more_counts records r)
      ∙ ap (λ counts. objects_after (take (sum counts) events)) (take-append-le n (counts_of records) (r.events ∷ []) (subst (λ (m : ℕ). n ≤ m) (sym (length_counts records)) le))

  -- a record of all other events covers all events
  all_counted : CoversRest events records r → sum (counts_of (records ++ r ∷ [])) ≡ length events
  all_counted rest = ap sum (more_counts records r) ∙ sum_by_push (λ (m : ℕ). m) (counts_of records) r.events ∙ rest

  covers_all : CoversRest events records r → (n : ℕ) → length (records ++ r ∷ []) ≤ n → objects_covered events (counts_of (records ++ r ∷ [])) n ≡ objects_after events
  covers_all rest n le =
      ap (λ counts. objects_after (take (sum counts) events)) (take_all n (counts_of (records ++ r ∷ [])) (subst (λ (m : ℕ). m ≤ n) (sym (length_counts _)) le))
      ∙ ap (λ (count : ℕ). objects_after (take count events)) (all_counted rest)
      ∙ ap objects_after (take_all (length events) events (omega arith))

pub covered_by_record : CoveredByRecord
covered_by_record events records r rest = covers_all events records r rest _ (omega arith)

-- ---- Exact histories

pub exact_without_records : ExactWithoutRecords
exact_without_records settings events = record { within = omega arith; each = λ n r h. absurd (cc) }

-- an exact record between the same objects
same_record : (settings : Settings) (a b c d : Objects) (n : ℕ) (r : SyncRecord) → a ≡ c → b ≡ d → IsExactRecord settings c d n r → IsExactRecord settings a b n r
same_record settings a b c d n r p q h = subst (λ o. IsExactRecord settings o b n r) (sym p) (subst (λ o. IsExactRecord settings c o n r) (sym q) h)

pub exact_by_events : ExactByEvents
exact_by_events settings events more records h = record {
  within = let longer = length-append events more in let le = h.within in omega arith;
  each = λ n r found.
      same_record settings _ _ _ _ (suc n) r (with_events events more records h.within n) (with_events events more records h.within (suc n)) (h.each n r found);
}

pub covered_stays : CoveredStays
covered_stays settings events more records h = with_events events more records h.within _

module _ (settings : Settings) (events : List Event) (records : List SyncRecord) (r : SyncRecord) (h : IsExactHistory settings events records) (rest : CoversRest events records r)
    (last : IsExactRecord settings (all_covered events records) (objects_after events) (suc (length records)) r) where
  extended_each : (n : ℕ) (q : SyncRecord) → slice_get (records ++ r ∷ []) n ≡ Some q
      → IsExactRecord settings (objects_covered events (counts_of (records ++ r ∷ [])) n) (objects_covered events (counts_of (records ++ r ∷ [])) (suc n)) (suc n) q
  extended_each n q found =
      elim (last_or records r n q found) [
        | inl before ↦
            let inside = slice_get_within records n q before in
            same_record settings _ _ _ _ (suc n) q (with_record events records r n (omega arith)) (with_record events records r (suc n) (omega arith)) (h.each n q before)
        | inr (at, is) ↦
            subst (IsExactRecord settings _ _ (suc n)) is
            (subst (λ (m : ℕ). IsExactRecord settings (objects_covered events (counts_of (records ++ r ∷ [])) m) (objects_covered events (counts_of (records ++ r ∷ [])) (suc m)) (suc m) r) (sym at)
            (same_record settings _ _ _ _ _ r (with_record events records r _ (omega arith))
            (covers_all events records r rest _ at_end) last))
      ]
    where
      at_end : length (records ++ r ∷ []) ≤ suc (length records)
      at_end = let push = length_push records r in omega arith

pub exact_by_record : ExactByRecord
exact_by_record settings events records r h rest last = record {
  within = let all = all_counted events records r rest in omega arith;
  each = extended_each settings events records r h rest last;
}
