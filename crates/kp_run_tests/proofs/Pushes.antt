-- A record that is pushed onto a table that may be walked.
use Rattle.std.proofs.Common.{◌≡◌, ◌+◌, ◌<◌, ◌^◌, true, false, List, [], ◌∷◌, ◌++◌, length, refl, ap, sym, ◌∙◌, subst, arith}
use Rattle.kp_types.specs.declared.sync.SyncRecord.{SyncRecord}
use Rattle.kp_table_defs.specs.Ranks.{is_ranked}
use Rattle.kp_table_defs.specs.Rebuild.{TableParts}
use Rattle.kp_table_defs.specs.Edits.{table_after_batch}
use Rattle.kp_history_defs.specs.History.{table_from}
use Rattle.kp_publish.specs.declared.entry.Entry.{Entry}
use Rattle.kp_publish.specs.declared.entry.Entry.TheVariants.{Record}
use Rattle.kp_publish.specs.Entries.{is_ended, records_of, IsReady, StandsFor}
use Rattle.kp_publish.proofs.Beginnings.{count_snoc, records_snoc}
use Rattle.kp_publish.proofs.Tables.{table_snoc, stands_next}

-- the table after a record stands for the history with it
pub stands_after : (start table after : TableParts) (newest : List Entry) (r : SyncRecord)
    → StandsFor start table newest → after ≡ table_after_batch table r.batch.edits
    → is_ranked after.chains ≡ true → table.syncs + 1 < 2 ^ 64
    → StandsFor start after (newest ++ Record r ∷ [])
stands_after start table after newest r stands same ranked room =
    let more : length (records_of newest) + 1 ≡ length (records_of (newest ++ Record r ∷ [])) = count_snoc newest r stands.is_open in
    subst (λ t. StandsFor start t (newest ++ Record r ∷ [])) (sym same)
    (stands_next start table newest newest (newest ++ Record r ∷ []) r stands refl (record {
      is_open = stands.is_open;
      adds = refl;
      ready = subst IsReady (same ∙ ap (λ t. table_after_batch t r.batch.edits) stands.folded ∙ sym (table_snoc start newest r stands.is_open)) ranked;
      room = omega (arith, more, stands.count, room);
    }))

-- it is the table after the records, and may be walked
pub ready_after : (start own : TableParts) (newest : List Entry) (r : SyncRecord) → is_ended newest ≡ false
    → StandsFor start own (newest ++ Record r ∷ []) → IsReady (table_from start (records_of newest ++ r ∷ []))
ready_after start own newest r open_yet stands =
    subst IsReady (stands.folded ∙ ap (table_from start) (records_snoc newest r open_yet)) stands.ready

-- and counts the record
pub number_after : (start own : TableParts) (newest : List Entry) (r : SyncRecord) → is_ended newest ≡ false
    → StandsFor start own (newest ++ Record r ∷ []) → r.sync ≡ own.syncs → r.sync ≡ length (records_of newest) + 1
number_after start own newest r open_yet stands is = is ∙ stands.count ∙ sym (count_snoc newest r open_yet)
