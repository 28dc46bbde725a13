-- Sync records: how many events each covers, and the edits that it made in the tables of all
-- families, which stand in one record. A history is exact where each record leads from the full
-- table of the objects before it to that of the objects that it covers.
use Rattle.std.specs.Prelude.{◌≡◌, ◌≤◌, ℕ, suc, List, map, sum, take, length, get_or, Some, None}
use Rattle.std.specs.Prelude.{slice_get}
use Rattle.std.specs.List.{fold, range_with_len}
use Rattle.kp_base.specs.declared.address.Family.{Family}
use Rattle.kp_base.specs.declared.config.Config.{Config}
use Rattle.kp_types.specs.Setting.{Settings}
use Rattle.kp_types.specs.declared.event.Event.{Event}
use Rattle.kp_types.specs.declared.sync.SyncRecord.{SyncRecord}
use Rattle.kp_object_defs.specs.Objects.{Objects, no_objects, objects_after}
use Rattle.kp_object_defs.specs.SlicesNow.{Slices, slices_now}
use Rattle.kp_table_defs.specs.Edits.{changes_between, table_after_batch}
use Rattle.kp_table_defs.specs.Rebuild.{Chains, TableParts, clash_of, full_table}

-- how many events each record covers more than the one before it
abbrev pub counts_of : List SyncRecord → List ℕ
counts_of records = map (λ r. r.events) records

-- the events that the first n of syncs with these counts cover
abbrev pub covered : List Event → List ℕ → ℕ → List Event
covered events counts n = take (sum (take n counts)) events

-- the objects that they cover
abbrev pub objects_covered : List Event → List ℕ → ℕ → Objects
objects_covered events counts n = objects_after (covered events counts n)

-- the chains of the full table of what they cover
abbrev pub chains_covered : Settings → List Event → List ℕ → ℕ → Chains
chains_covered settings events counts n =
    (full_table settings (objects_covered events counts n)).chains

-- the record of the sync at place n, from 0, among syncs with these counts: the changes from the
-- full table of what those before it cover to that of what is covered with it
abbrev pub record_at : Settings → List Event → List ℕ → ℕ → SyncRecord
record_at settings events counts n = record {
  sync = suc n;
  events = get_or counts n 0;
  batch = record {
    edits = changes_between (chains_covered settings events counts n)
        (chains_covered settings events counts (suc n));
  };
}

-- the records of syncs with these counts
abbrev pub sync_records : Settings → List Event → List ℕ → List SyncRecord
sync_records settings events counts =
    map (record_at settings events counts) (range_with_len 0 (length counts))

-- the slices now, where these records were made: the controller packed them at each
abbrev pub slices_after : List Family → Config → List Event → List SyncRecord → Slices
slices_after families config events records =
    slices_now families config events (counts_of records)

-- the table after records, from a given one on
abbrev pub table_from : TableParts → List SyncRecord → TableParts
table_from start records = fold (λ t r. table_after_batch t r.batch.edits) start records

-- the table after records, from that of no objects on
abbrev pub table_after : Settings → List SyncRecord → TableParts
table_after settings records = table_from (full_table settings no_objects) records

module _ (settings : Settings) where
  -- A record of this number leads from some objects to others: these have no clash, and its edits
  -- are the changes of the full table.
  pub record IsExactRecord (before after : Objects) (number : ℕ) (r : SyncRecord) : Type 0 where
    pub is_numbered : r.sync ≡ number
    pub has_no_clash : clash_of settings after ≡ None
    pub is_changes : r.batch.edits
        ≡ changes_between (full_table settings before).chains (full_table settings after).chains

module _ (settings : Settings) (events : List Event) where
  -- The records cover events that there are, and each, numbered from 1, leads from the objects
  -- that the records before it cover to those that are covered with it.
  pub record IsExactHistory (records : List SyncRecord) : Type 0 where
    pub within : sum (counts_of records) ≤ length events
    pub each : (n : ℕ) (r : SyncRecord) → slice_get records n ≡ Some r
        → IsExactRecord settings (objects_covered events (counts_of records) n)
        (objects_covered events (counts_of records) (suc n)) (suc n) r
