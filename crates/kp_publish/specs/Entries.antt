-- What a history of publishing holds: records, and its end. Nothing counts behind the end.
use Rattle.std.specs.Prelude.{◌≡◌, ◌<◌, ◌^◌, Bool, true, false, List, [], ◌∷◌, ◌++◌, length}
use mathlib.Core.List.{IsPrefix}
use Rattle.kp_types.specs.declared.sync.SyncRecord.{SyncRecord}
use Rattle.kp_table_defs.specs.Rebuild.{TableParts}
use Rattle.kp_table_defs.specs.Ranks.{is_ranked}
use Rattle.kp_history_defs.specs.History.{table_from}
use Rattle.kp_publish.specs.declared.entry.Entry.{Entry}
use Rattle.kp_publish.specs.declared.entry.Entry.TheVariants.{Record, End}

-- the records before the end
abbrev pub records_of : List Entry → List SyncRecord
records_of [] = []
records_of (Record r ∷ entries) = r ∷ records_of entries
records_of (End ∷ entries) = []

-- whether the end was written
abbrev pub is_ended : List Entry → Bool
is_ended [] = false
is_ended (Record r ∷ entries) = is_ended entries
is_ended (End ∷ entries) = true

-- One list of records goes on from another: it begins with all of that one's records, and has no
-- more where that one is ended.
pub record GoesOnFrom (later earlier : List Entry) : Type 0 where
  pub begins : IsPrefix (records_of earlier) (records_of later)
  pub ended : is_ended earlier ≡ true → records_of later ≡ records_of earlier

-- the table after the records, from the one that the publication starts from
abbrev pub table_of : TableParts → List Entry → TableParts
table_of start log = table_from start (records_of log)

-- Readers may walk it: it is ranked.
abbrev pub IsReady : TableParts → Type 0
IsReady t = is_ranked t.chains ≡ true

-- A record goes behind an open history: readers may walk the table after it, and its number is a
-- 64-bit one.
pub record Adds (start : TableParts) (before : List Entry) (next : SyncRecord) (after : List Entry) : Type 0 where
  pub is_open : is_ended before ≡ false
  pub adds : after ≡ before ++ Record next ∷ []
  pub ready : IsReady (table_of start after)
  pub room : length (records_of after) < 2 ^ 64

-- A table stands for an open history, and counts its records.
pub record StandsFor (start table : TableParts) (front : List Entry) : Type 0 where
  pub is_open : is_ended front ≡ false
  pub folded : table ≡ table_of start front
  pub ready : IsReady table
  pub count : table.syncs ≡ length (records_of front)
