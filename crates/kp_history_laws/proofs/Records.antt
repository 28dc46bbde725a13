-- The records of syncs, as a function of events and counts.
use Rattle.std.proofs.Common.{◌≡◌, ℕ, suc, ◌≤◌, ◌<◌, List, [], ◌∷◌, ◌++◌, map, take, length}
use Rattle.std.proofs.Common.{sum, Some, refl, sym, ap, subst, ◌∙◌, arith, get_or}
use Rattle.std.specs.List.{range_with_len, slice_get}
use Rattle.std.proofs.lemmas.List.{get_or_append_left, get_or-map, length_push, take-append-le}
use Rattle.std.proofs.lemmas.List.FromFn.{fill_by_all, get_or-map-range_with_len}
use Rattle.std.proofs.lemmas.List.FromFn.{length-map-range_with_len, map-range_with_len_more}
use Rattle.std.proofs.lemmas.List.Sums.{sum_by-take-le}
use Rattle.std.proofs.lemmas.Option.{get_or_from_slice_get, slice_get-get_or, slice_get_within}
use Rattle.kp_types.specs.Setting.{Settings}
use Rattle.kp_types.specs.declared.event.Event.{Event}
use Rattle.kp_types.specs.declared.sync.SyncRecord.{SyncRecord}
use Rattle.kp_object_defs.specs.Objects.{objects_after}
use Rattle.kp_table_defs.specs.Edits.{changes_between}
use Rattle.kp_table_defs.specs.Rebuild.{full_table}
use Rattle.kp_history_defs.specs.History.{IsExactRecord, counts_of, chains_covered}
use Rattle.kp_history_defs.specs.History.{objects_covered, record_at, sync_records}
use Rattle.kp_history_laws.specs.HistoryLaws.{ExactIsRecords, RecordsHaveCounts, RecordsAreExact}
use Rattle.kp_history_laws.specs.HistoryLaws.{RecordsStay, RecordsGrow}
use Rattle.kp_history_laws.proofs.Histories.{length_counts}

-- lists made from functions that agree at each place are the same
same_made : {X : Type 0} (f g : ℕ → X) (n : ℕ) → ((k : ℕ) → k < n → f k ≡ g k)
    → map f (range_with_len 0 n) ≡ map g (range_with_len 0 n)
same_made f g n agree =
    fill_by_all g (map f (range_with_len 0 n)) n (f 0) (length-map-range_with_len f 0 n)
    (λ k lt. get_or-map-range_with_len f 0 n k k (f 0) lt (omega arith) ∙ agree k lt)

pub records_have_counts : RecordsHaveCounts
records_have_counts settings events counts =
    map_map (range_with_len 0 (length counts))
    ∙ sym (fill_by_all (λ k. get_or counts k 0) counts (length counts) 0 refl (λ k lt. refl))
  where
    map_map : (ns : List ℕ) → map (λ r. r.events) (map (record_at settings events counts) ns)
        ≡ map (λ k. get_or counts k 0) ns
    map_map [] = refl
    map_map (n ∷ ns) = ap (λ rest. get_or counts n 0 ∷ rest) (map_map ns)

-- ---- An exact history is these records

pub exact_is_records : ExactIsRecords
exact_is_records settings events records h =
    fill_by_all (record_at settings events counts) records (length counts) none
    (sym (length_counts records)) at_place
  where
    counts : List ℕ
    counts = counts_of records

    none : SyncRecord
    none = record_at settings events counts 0

    at_place : (k : ℕ) → k < length counts
        → get_or records k none ≡ record_at settings events counts k
    at_place k lt =
        let inside : k < length records = omega (arith, lt, length_counts records) in
        let r : SyncRecord = get_or records k none in
        let is = h.each k r (slice_get-get_or records k none inside) in
        λ i. record {
          sync = is.is_numbered i;
          events = sym (get_or-map (λ q. q.events) records k none 0 inside) i;
          batch = record { edits = is.is_changes i };
        }

-- ---- These records are an exact history

pub records_are_exact : RecordsAreExact
records_are_exact settings events counts within no_clash = record {
  within = subst (λ ns. sum ns ≤ length events) (sym counted) within;
  each = λ n r found.
      subst (λ ns. IsExactRecord settings (objects_covered events ns n)
      (objects_covered events ns (suc n)) (suc n) r) (sym counted) (each n r found);
}
  where
    counted : counts_of (sync_records settings events counts) ≡ counts
    counted = records_have_counts settings events counts

    each : (n : ℕ) (r : SyncRecord) → slice_get (sync_records settings events counts) n ≡ Some r
        → IsExactRecord settings (objects_covered events counts n)
        (objects_covered events counts (suc n)) (suc n) r
    each n r found =
        let f = record_at settings events counts in
        let long = length-map-range_with_len f 0 (length counts) in
        let inside : n < length counts =
        omega (arith, long, slice_get_within (sync_records settings events counts) n r found) in
        subst (IsExactRecord settings _ _ (suc n))
        (sym (get_or-map-range_with_len f 0 (length counts) n n r inside (omega arith))
        ∙ get_or_from_slice_get (sync_records settings events counts) n r r found)
        (record { is_numbered = refl; has_no_clash = no_clash n inside; is_changes = refl })

-- ---- How they grow

-- records are the same where each sync covers the same
same_record : (settings : Settings) (events events' : List Event) (counts counts' : List ℕ) (k : ℕ)
    → get_or counts k 0 ≡ get_or counts' k 0
    → chains_covered settings events counts k ≡ chains_covered settings events' counts' k
    → chains_covered settings events counts (suc k) ≡ chains_covered settings events' counts' (suc k)
    → record_at settings events counts k ≡ record_at settings events' counts' k
same_record settings events events' counts counts' k count before after = λ i. record {
  sync = suc k;
  events = count i;
  batch = record { edits = changes_between (before i) (after i) };
}

pub records_stay : RecordsStay
records_stay settings events more counts within =
    same_made (record_at settings (events ++ more) counts) (record_at settings events counts)
    (length counts)
    (λ k lt.
    same_record settings (events ++ more) events counts counts k refl (same k) (same (suc k)))
  where
    same : (n : ℕ)
        → chains_covered settings (events ++ more) counts n ≡ chains_covered settings events counts n
    same n =
        let part = sum_by-take-le (λ (m : ℕ). m) counts n in
        ap (λ es. (full_table settings (objects_after es)).chains)
        (take-append-le (sum (take n counts)) events more (omega arith))

module _ (settings : Settings) (events : List Event) (counts : List ℕ) (n : ℕ) where
  -- what the syncs before the last cover stays
  same_before : (k : ℕ) → k ≤ length counts
      → chains_covered settings events (counts ++ n ∷ []) k ≡ chains_covered settings events counts k
  same_before k le =
      ap (λ (ns : List ℕ). (full_table settings (objects_after (take (sum ns) events))).chains)
      (take-append-le k counts (n ∷ []) le)

  earlier_stay : (k : ℕ) → k < length counts
      → record_at settings events (counts ++ n ∷ []) k ≡ record_at settings events counts k
  earlier_stay k lt =
      same_record settings events events (counts ++ n ∷ []) counts k
      (get_or_append_left counts (n ∷ []) 0 k lt)
      (same_before k (omega arith)) (same_before (suc k) (omega arith))

pub records_grow : RecordsGrow
records_grow settings events counts n =
    let f = record_at settings events (counts ++ n ∷ []) in
    ap (λ (m : ℕ). map f (range_with_len 0 m)) (length_push counts n)
    ∙ map-range_with_len_more f 0 (length counts) (length counts) (omega arith)
    ∙ ap (λ rs. rs ++ f (length counts) ∷ [])
    (same_made f (record_at settings events counts) (length counts)
    (earlier_stay settings events counts n))
