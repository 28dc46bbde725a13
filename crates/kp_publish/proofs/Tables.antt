-- The table after one more record.
use Rattle.std.proofs.Common.{◌≡◌, ℕ, ◌+◌, ◌-◌, ◌^◌, ◌<◌, false, min, List, [], ◌∷◌, ◌++◌, length, refl, ap, sym, ◌∙◌, subst, arith}
use Rattle.kp_types.specs.declared.sync.SyncRecord.{SyncRecord}
use Rattle.kp_table_defs.specs.Rebuild.{TableParts}
use Rattle.kp_table_defs.specs.Edits.{table_after_batch}
use Rattle.kp_history_defs.specs.History.{table_from}
use Rattle.kp_publish.specs.declared.entry.Entry.{Entry}
use Rattle.kp_publish.specs.declared.entry.Entry.TheVariants.{Record}
use Rattle.kp_publish.specs.Entries.{records_of, is_ended, table_of, Adds, IsReady, StandsFor}
use Rattle.kp_publish.proofs.Beginnings.{records_snoc, open_snoc, count_snoc}

pub from_snoc : (start : TableParts) (rs : List SyncRecord) (r : SyncRecord)
    → table_from start (rs ++ r ∷ []) ≡ table_after_batch (table_from start rs) r.batch.edits
from_snoc start [] r = refl
from_snoc start (x ∷ rs) r = from_snoc (table_after_batch start x.batch.edits) rs r

pub table_snoc : (start : TableParts) (log : List Entry) (r : SyncRecord) → is_ended log ≡ false
    → table_of start (log ++ Record r ∷ []) ≡ table_after_batch (table_of start log) r.batch.edits
table_snoc start log r e = ap (table_from start) (records_snoc log r e) ∙ from_snoc start (records_of log) r

-- the table that a publication starts from stands for nothing
pub stands_first : (start table : TableParts) (front : List Entry) → front ≡ [] → table ≡ start → table.syncs ≡ 0 → IsReady table
    → StandsFor start table front
stands_first start table front nothing same none ready = record {
  is_open = ap is_ended nothing;
  folded = same ∙ ap (table_of start) (sym nothing);
  ready = ready;
  count = none ∙ ap (λ f. length (records_of f)) (sym nothing);
}

-- a count that has room doesn't stand still
pub within : (n m : ℕ) → n ≡ m → m < 2 ^ 64 → min n (2 ^ 64 - 1) ≡ m
within n m same room = omega (arith, same, room)

-- a table that took in a record stands for the history with it
pub stands_next : (start table : TableParts) (front before after : List Entry) (r : SyncRecord)
    → StandsFor start table front → front ≡ before → Adds start before r after
    → StandsFor start (table_after_batch table r.batch.edits) after
stands_next start table front before after r stands same adds =
    let folded : table_after_batch table r.batch.edits ≡ table_of start after =
    ap (λ t. table_after_batch t r.batch.edits) (stands.folded ∙ ap (table_of start) same)
    ∙ (sym (table_snoc start before r adds.is_open) ∙ ap (table_of start) (sym adds.adds)) in
    let count : table.syncs ≡ length (records_of before) = stands.count ∙ ap (λ f. length (records_of f)) same in
    let more : length (records_of before) + 1 ≡ length (records_of after) =
    count_snoc before r adds.is_open ∙ ap (λ f. length (records_of f)) (sym adds.adds) in
    let room : length (records_of after) < 2 ^ 64 = adds.room in record {
      is_open = ap is_ended adds.adds ∙ open_snoc before r adds.is_open;
      folded = folded;
      ready = subst IsReady (sym folded) adds.ready;
      count = within (table.syncs + 1) (length (records_of after)) (ap (λ n. n + 1) count ∙ more) room;
    }
