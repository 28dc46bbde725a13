-- Exact histories: how they grow, which records they are, and that their tables are full tables.
use Rattle.std.specs.Prelude.{◌≡◌, ◌≤◌, ◌<◌, ◌+◌, ◌-◌, ◌^◌, ℕ, suc, List, [], ◌∷◌, ◌++◌, sum, take}
use Rattle.std.specs.Prelude.{length, None}
use Rattle.kp_types.specs.Setting.{Settings}
use Rattle.kp_types.specs.declared.event.Event.{Event}
use Rattle.kp_types.specs.declared.sync.SyncRecord.{SyncRecord}
use Rattle.kp_object_defs.specs.Objects.{Objects, objects_after}
use Rattle.kp_table_defs.specs.Rebuild.{clash_of}
use Rattle.kp_history_defs.specs.History.{IsExactHistory, IsExactRecord, counts_of, chains_covered}
use Rattle.kp_history_defs.specs.History.{objects_covered, record_at, sync_records, table_after}

-- the objects that all records cover
abbrev pub all_covered : List Event → List SyncRecord → Objects
all_covered events records = objects_covered events (counts_of records) (length records)

-- with a record, all events are covered
abbrev pub CoversRest : List Event → List SyncRecord → SyncRecord → Type 0
CoversRest events records r = sum (counts_of records) + r.events ≡ length events

-- Without records a history is exact.
abbrev pub ExactWithoutRecords : Type 0
ExactWithoutRecords =
    (settings : Settings) (events : List Event) → IsExactHistory settings events []

-- An exact history stays so where more events come,
abbrev pub ExactByEvents : Type 0
ExactByEvents =
    (settings : Settings) (events more : List Event) (records : List SyncRecord)
    → IsExactHistory settings events records → IsExactHistory settings (events ++ more) records

-- and where a record comes that covers the rest of the events, and leads from the objects that
-- were covered to those of all events.
abbrev pub ExactByRecord : Type 0
ExactByRecord =
    (settings : Settings) (events : List Event) (records : List SyncRecord) (r : SyncRecord)
    → IsExactHistory settings events records → CoversRest events records r
    → IsExactRecord settings (all_covered events records) (objects_after events)
    (suc (length records)) r
    → IsExactHistory settings events (records ++ r ∷ [])

-- More events change nothing of what is covered,
abbrev pub CoveredStays : Type 0
CoveredStays =
    (settings : Settings) (events more : List Event) (records : List SyncRecord)
    → IsExactHistory settings events records
    → all_covered (events ++ more) records ≡ all_covered events records

-- and with a record that covers the rest of the events, all are covered.
abbrev pub CoveredByRecord : Type 0
CoveredByRecord =
    (events : List Event) (records : List SyncRecord) (r : SyncRecord)
    → CoversRest events records r → all_covered events (records ++ r ∷ []) ≡ objects_after events

-- An exact history is one list: the records of its events and counts.
abbrev pub ExactIsRecords : Type 0
ExactIsRecords =
    (settings : Settings) (events : List Event) (records : List SyncRecord)
    → IsExactHistory settings events records
    → records ≡ sync_records settings events (counts_of records)

-- The records of syncs have the syncs' counts,
abbrev pub RecordsHaveCounts : Type 0
RecordsHaveCounts =
    (settings : Settings) (events : List Event) (counts : List ℕ)
    → counts_of (sync_records settings events counts) ≡ counts

-- and are an exact history, where they cover events that there are and no sync has a clash.
abbrev pub RecordsAreExact : Type 0
RecordsAreExact =
    (settings : Settings) (events : List Event) (counts : List ℕ) → sum counts ≤ length events
    → ((n : ℕ) → n < length counts
    → clash_of settings (objects_covered events counts (suc n)) ≡ None)
    → IsExactHistory settings events (sync_records settings events counts)

-- More events leave the records of those that are covered,
abbrev pub RecordsStay : Type 0
RecordsStay =
    (settings : Settings) (events more : List Event) (counts : List ℕ)
    → sum counts ≤ length events
    → sync_records settings (events ++ more) counts ≡ sync_records settings events counts

-- and one more sync adds its record at the end.
abbrev pub RecordsGrow : Type 0
RecordsGrow =
    (settings : Settings) (events : List Event) (counts : List ℕ) (n : ℕ)
    → sync_records settings events (counts ++ n ∷ [])
    ≡ sync_records settings events counts
    ++ record_at settings events (counts ++ n ∷ []) (length counts) ∷ []

-- After the first n records of an exact history, the chains are those of the full table of what
-- they cover.
abbrev pub ExactTables : Type 0
ExactTables =
    (settings : Settings) (events : List Event) (records : List SyncRecord) (n : ℕ)
    → IsExactHistory settings events records → n ≤ length records
    → (table_after settings (take n records)).chains
    ≡ chains_covered settings events (counts_of records) n

-- The table's count is that of the records, up to its type's end.
abbrev pub TableCounted : Type 0
TableCounted =
    (settings : Settings) (records : List SyncRecord) → length records ≤ 2 ^ 64 - 1
    → (table_after settings records).syncs ≡ length records
