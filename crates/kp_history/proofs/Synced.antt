-- What one more sync adds.
use Rattle.std.proofs.Common.{◌≡◌, ◌≤◌, ◌<◌, ◌+◌, ◌-◌, ◌^◌, ℕ, suc, List, [], ◌∷◌, ◌++◌, take, length}
use Rattle.std.proofs.Common.{sum, Some, None, refl, sym, ap, subst, ◌∙◌, arith, le_refl}
use Rattle.std.specs.Prelude.{min}
use Rattle.std.specs.List.{fold}
use Rattle.std.proofs.lemmas.List.{take_all, take-append-le, length-map, length_push}
use Rattle.std.proofs.lemmas.List.Sums.{sum_by_push}
use Rattle.std.proofs.Math.Seq.{get_or-append_seam}
use Rattle.kp_types.specs.declared.rule.Batch.{Batch}
use Rattle.kp_types.specs.declared.rule.Edit.{Edit}
use Rattle.kp_object_defs.specs.Objects.{objects_after}
use Rattle.kp_table_defs.specs.Edits.{ChangesLeadOver, chains_after_edit, changes_between}
use Rattle.kp_table_defs.specs.Edits.{table_after_batch}
use Rattle.kp_table_defs.specs.Rebuild.{TableParts, clash_of, full_table}
use Rattle.kp_history_defs.specs.History.{IsExactHistory, objects_covered}
use Rattle.kp_history_laws.specs.HistoryLaws.{all_covered, CoversRest, ExactByRecord}
use Rattle.kp_history_laws.specs.HistoryLaws.{RecordsHaveCounts, RecordsGrow}
use Rattle.kp_history.specs.Parts.{PlaneParts, HasExactHistory, settings_in, syncs_in, uncovered_in}
use Rattle.kp_history.specs.Parts.{objects_in, chains_in, last_edits, batch_after, next_edits}
use Rattle.kp_history.specs.Parts.{next_chains, synced, records_in, next_record}
use Rattle.kp_history.specs.Invariant.{IsHistory, LeadsToNext}
use Rattle.kp_history.specs.declared.history.History.{History}

-- the counts of an exact history cover events that there are
pub within : (p : PlaneParts) → HasExactHistory p → sum p.counts ≤ length p.events
within p h = subst (λ counts. sum counts ≤ length p.events) h.counted h.exact.within

-- behind a sync there is a batch
some_batch : (counts : List ℕ) (n : ℕ) (edits : List Edit) → batch_after (counts ++ n ∷ []) edits ≡ Some (record { edits = edits })
some_batch [] n edits = refl
some_batch (m ∷ counts) n edits = refl

module _ (p : PlaneParts) (h : HasExactHistory p) where
  pub all_counted : sum (synced p).counts ≡ length p.events
  all_counted = let few = within p h in sum_by_push (λ (m : ℕ). m) p.counts (uncovered_in p) ∙ omega arith

  pub objects_next : objects_in (synced p) ≡ objects_after p.events
  objects_next =
      let counts = (synced p).counts in
      ap (λ c. objects_after (take (sum c) p.events)) (take_all (length counts) counts (le_refl (length counts)))
      ∙ ap (λ (n : ℕ). objects_after (take n p.events)) all_counted
      ∙ ap objects_after (take_all (length p.events) p.events (le_refl (length p.events)))

  objects_before : objects_covered p.events (synced p).counts (syncs_in p) ≡ objects_in p
  objects_before = ap (λ c. objects_after (take (sum c) p.events)) (take-append-le (syncs_in p) p.counts (uncovered_in p ∷ []) (le_refl (syncs_in p)))

  -- the last sync was one before
  pub before_next : objects_covered p.events (synced p).counts (syncs_in (synced p) - 1) ≡ objects_in p
  before_next =
      let longer = length_push p.counts (uncovered_in p) in
      let one : syncs_in (synced p) - 1 ≡ syncs_in p = omega arith in
      ap (λ (n : ℕ). objects_covered p.events (synced p).counts n) one ∙ objects_before

  -- the last edits are then those of this sync
  pub last_is_next : last_edits (synced p) ≡ next_edits p
  last_is_next = λ i.
      changes_between (full_table (settings_in p) (before_next i)).chains
      (full_table (settings_in p) (objects_next i)).chains

  -- one more sync adds its record to those before it
  pub records_next : RecordsGrow → records_in (synced p) ≡ records_in p ++ next_record p ∷ []
  records_next grow =
      let longer = length_push p.counts (uncovered_in p) in
      let last : suc (syncs_in p) ≡ syncs_in (synced p) = omega arith in
      let after = ap (objects_covered p.events (synced p).counts) last ∙ objects_next in
      grow (settings_in p) p.events p.counts (uncovered_in p)
      ∙ (λ i. records_in p ++ (record {
        sync = suc (syncs_in p);
        events = get_or-append_seam p.counts (uncovered_in p) [] 0 i;
        batch = record {
          edits = changes_between (full_table (settings_in p) (objects_before i)).chains
              (full_table (settings_in p) (after i)).chains;
        };
      }) ∷ [])

  as_many : length (records_in p) ≡ syncs_in p
  as_many = sym (length-map (records_in p) (λ r. r.events)) ∙ ap length h.counted

  same_covered : all_covered p.events (records_in p) ≡ objects_in p
  same_covered =
      ap (λ c. objects_covered p.events c (length (records_in p))) h.counted
      ∙ ap (objects_covered p.events p.counts) as_many

  covers_rest : CoversRest p.events (records_in p) (next_record p)
  covers_rest =
      let few = within p h in ap (λ c. sum c + uncovered_in p) h.counted ∙ omega arith

  -- the history goes on
  pub exact_next : ExactByRecord → RecordsHaveCounts → RecordsGrow
      → clash_of (settings_in p) (objects_after p.events) ≡ None → HasExactHistory (synced p)
  exact_next goes_on counts grow no_clash = record {
    counted = counts (settings_in p) p.events (synced p).counts;
    exact = subst (IsExactHistory (settings_in p) p.events) (sym (records_next grow))
        (goes_on (settings_in p) p.events (records_in p) (next_record p) h.exact covers_rest
        (record {
          is_numbered = ap (λ (n : ℕ). suc n) (sym as_many);
          has_no_clash = no_clash;
          is_changes =
              ap (λ o. changes_between (full_table (settings_in p) o).chains (next_chains p))
              (sym same_covered);
        }));
  }

-- a history after one more sync, which makes the edits of its batch
pub history_next : ChangesLeadOver → ExactByRecord → RecordsHaveCounts → RecordsGrow
    → (p : PlaneParts) (before after : History) (covered : ℕ) (batch : Batch)
    → IsHistory p before → covered ≡ length p.events → LeadsToNext p batch
    → after.counts.items ≡ before.counts.items ++ (covered - before.covered) ∷ []
    → length after.counts.items < 2 ^ 64
    → after.covered ≡ covered
    → after.table ≡ table_after_batch before.table batch.edits
    → after.last ≡ Some batch
    → IsHistory (synced p) after
history_next lead goes_on counted_all grow p before after covered batch is all made counts few covers kept last =
    let counted : after.counts.items ≡ (synced p).counts =
    counts ∙ (λ i. is.counts i ++ (all i - is.covered i) ∷ []) in
    let made_of : fold chains_after_edit before.table.chains batch.edits ≡ next_chains p =
    (λ i. fold chains_after_edit (is.table i).chains (made.edits i))
    ∙ lead (chains_in p) (next_chains p) in
    let chains = made_of
    ∙ ap (λ o. (full_table (settings_in p) o).chains) (sym (objects_next p is.exact)) in
    let longer = length_push p.counts (uncovered_in p) in
    let one : min (before.table.syncs + 1) (2 ^ 64 - 1) ≡ syncs_in (synced p) =
    omega (arith, ap (λ (t : TableParts). t.syncs) is.table, longer, ap length counted, few) in
    record {
      counts = counted;
      covered = covers ∙ all ∙ sym (all_counted p is.exact);
      table = kept ∙ (λ i. record { chains = chains i; syncs = one i });
      last = last
          ∙ ap (λ es. Some (record { edits = es })) (made.edits ∙ sym (last_is_next p is.exact))
          ∙ sym (some_batch p.counts (uncovered_in p) (last_edits (synced p)));
      exact = exact_next p is.exact goes_on counted_all grow made.no_clash;
      no_clash = ap (clash_of (settings_in p)) (objects_next p is.exact) ∙ made.no_clash;
    }
