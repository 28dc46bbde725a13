-- The tables of an exact history are full tables.
use Rattle.std.proofs.Common.{◌≡◌, ℕ, zero, suc, ◌+◌, ◌-◌, ◌^◌, ◌≤◌, min, List, [], ◌∷◌, ◌++◌, take, length, Some, None, refl, sym, ap, subst, ◌∙◌, arith}
use Rattle.std.specs.List.{slice_get, fold}
use Rattle.std.proofs.lemmas.List.Sums.{fold_push}
use Rattle.kp_types.specs.Setting.{Settings}
use Rattle.kp_types.specs.declared.event.Event.{Event}
use Rattle.kp_types.specs.declared.sync.SyncRecord.{SyncRecord}
use Rattle.kp_object_defs.specs.Objects.{no_objects}
use Rattle.kp_table_defs.specs.Edits.{ChangesLeadOver, chains_after_edit, table_after_batch}
use Rattle.kp_table_defs.specs.Rebuild.{TableParts, full_table, clash_of}
use Rattle.kp_history_defs.specs.History.{IsExactHistory, counts_of, chains_covered, objects_covered, table_from, table_after}
use Rattle.kp_history_laws.specs.HistoryLaws.{ExactTables, TableCounted}
use Rattle.kp_history_laws.proofs.Histories.{first_no_clash}

-- the record at a place of a list
pub at_place : {X : Type 0} (xs : List X) (n : ℕ) → suc n ≤ length xs → (x : X) × (slice_get xs n ≡ Some x) × (take (suc n) xs ≡ take n xs ++ x ∷ [])
at_place [] n le = absurd (omega arith)
at_place (x ∷ xs) zero le = (x, refl, refl)
at_place (x ∷ xs) (suc n) le = let (y, at, is) = at_place xs n (omega arith) in (y, at, ap (λ rest. x ∷ rest) is)

module _ (lead : ChangesLeadOver) where
  pub exact_tables : ExactTables
  exact_tables settings events records zero exact le = refl
  exact_tables settings events records (suc n) exact le =
      let (r, at, is) = at_place records n le in
      ap (λ rs. (table_after settings rs).chains) is
      ∙ ap (λ t. t.chains) (fold_push (λ t (q : SyncRecord). table_after_batch t q.batch.edits) (full_table settings no_objects) (take n records) r)
      ∙ ap (λ chains. fold chains_after_edit chains r.batch.edits) (exact_tables settings events records n exact (omega arith))
      ∙ ap (fold chains_after_edit (chains_covered settings events (counts_of records) n)) (exact.each n r at).is_changes
      ∙ lead (chains_covered settings events (counts_of records) n) (chains_covered settings events (counts_of records) (suc n))

-- what records of an exact history cover has no clash
pub no_clash_covered : (settings : Settings) (events : List Event) (records : List SyncRecord) (n : ℕ) → IsExactHistory settings events records → n ≤ length records
    → clash_of settings (objects_covered events (counts_of records) n) ≡ None
no_clash_covered settings events records zero exact le = first_no_clash settings
no_clash_covered settings events records (suc n) exact le = let (r, at, is) = at_place records n le in (exact.each n r at).has_no_clash

-- ---- The table's count

counted_from : (start : TableParts) (records : List SyncRecord) → start.syncs + length records ≤ 2 ^ 64 - 1 → (table_from start records).syncs ≡ start.syncs + length records
counted_from start [] le = omega arith
counted_from start (r ∷ records) le =
    let one : min (start.syncs + 1) (2 ^ 64 - 1) ≡ start.syncs + 1 = omega arith in
    let rest = counted_from (table_after_batch start r.batch.edits) records (subst (λ (n : ℕ). n + length records ≤ 2 ^ 64 - 1) (sym one) (omega arith)) in
    rest ∙ ap (λ (n : ℕ). n + length records) one ∙ omega arith

pub table_counted : TableCounted
table_counted settings records le = counted_from _ records (omega arith) ∙ omega arith
