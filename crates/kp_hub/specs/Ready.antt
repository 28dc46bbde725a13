-- Records that a publisher may take in, one after the other.
use Rattle.std.specs.Prelude.{◌≡◌, ℕ, suc, List, Some, slice_get, take}
use Rattle.kp_types.specs.declared.sync.SyncRecord.{SyncRecord}
use Rattle.kp_table_defs.specs.Rebuild.{TableParts}
use Rattle.kp_history_defs.specs.History.{table_from}
use Rattle.kp_publish.specs.Entries.{IsReady}

-- each is numbered by its place, from 1, and readers may walk the table after it
abbrev pub AreReady : TableParts → List SyncRecord → Type 0
AreReady start records =
    (n : ℕ) (r : SyncRecord) → slice_get records n ≡ Some r
    → (r.sync ≡ suc n) × IsReady (table_from start (take (suc n) records))
