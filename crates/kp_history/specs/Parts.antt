-- What contracts see of a plane: the configuration, the accepted events, and how many of them each
-- sync covers more than the one before it. Tables and batches are functions of these.
use Rattle.std.specs.Prelude.{◌≡◌, ℕ, suc, ◌-◌, List, [], ◌∷◌, ◌++◌, length, sum, Option, Some}
use Rattle.std.specs.Prelude.{None}
use Rattle.kp_base.specs.declared.config.Config.{Config}
use Rattle.kp_types.specs.Setting.{Settings}
use Rattle.kp_types.specs.declared.event.Event.{Event}
use Rattle.kp_types.specs.declared.rule.Batch.{Batch}
use Rattle.kp_types.specs.declared.rule.Edit.{Edit}
use Rattle.kp_types.specs.declared.sync.SyncRecord.{SyncRecord}
use Rattle.kp_choice_defs.specs.Settings.{settings_of}
use Rattle.kp_object_defs.specs.Objects.{Objects, objects_after}
use Rattle.kp_table_defs.specs.Edits.{changes_between}
use Rattle.kp_table_defs.specs.Rebuild.{Chains, TableParts, full_table}
use Rattle.kp_history_defs.specs.History.{IsExactHistory, chains_covered, counts_of}
use Rattle.kp_history_defs.specs.History.{objects_covered, sync_records}

-- the parts
pub record PlaneParts : Type 0 where
  pub config : Config
  pub events : List Event
  pub counts : List ℕ

-- what tables and decisions are told
abbrev pub settings_in : PlaneParts → Settings
settings_in p = settings_of p.config

-- how many syncs there were
abbrev pub syncs_in : PlaneParts → ℕ
syncs_in p = length p.counts

-- how many events no sync covers yet
abbrev pub uncovered_in : PlaneParts → ℕ
uncovered_in p = length p.events - sum p.counts

-- the objects that the last sync covers
abbrev pub objects_in : PlaneParts → Objects
objects_in p = objects_covered p.events p.counts (syncs_in p)

-- the chains of their full table
abbrev pub chains_in : PlaneParts → Chains
chains_in p = chains_covered (settings_in p) p.events p.counts (syncs_in p)

-- their table, which counts the syncs
abbrev pub table_in : PlaneParts → TableParts
table_in p = record { chains = chains_in p; syncs = syncs_in p }

-- the edits of the last sync, where there was one
abbrev pub last_edits : PlaneParts → List Edit
last_edits p =
    changes_between (chains_covered (settings_in p) p.events p.counts (syncs_in p - 1))
    (chains_in p)

-- a batch, or none before the first sync
abbrev pub batch_after : List ℕ → List Edit → Option Batch
batch_after [] edits = None
batch_after (n ∷ counts) edits = Some (record { edits = edits })

-- the batch of the last sync, if there was one
abbrev pub last_batch_in : PlaneParts → Option Batch
last_batch_in p = batch_after p.counts (last_edits p)

-- one more sync, which covers all events
abbrev pub synced : PlaneParts → PlaneParts
synced p = record p { counts = p.counts ++ uncovered_in p ∷ [] }

-- the chains of the full table of all events' objects
abbrev pub next_chains : PlaneParts → Chains
next_chains p = (full_table (settings_in p) (objects_after p.events)).chains

-- the edits of that sync
abbrev pub next_edits : PlaneParts → List Edit
next_edits p = changes_between (chains_in p) (next_chains p)

-- the records of the syncs
abbrev pub records_in : PlaneParts → List SyncRecord
records_in p = sync_records (settings_in p) p.events p.counts

-- the record of one more sync
abbrev pub next_record : PlaneParts → SyncRecord
next_record p = record {
  sync = suc (syncs_in p);
  events = uncovered_in p;
  batch = record { edits = next_edits p };
}

-- the records of the syncs are an exact history, and have the syncs' counts
pub record HasExactHistory (p : PlaneParts) : Type 0 where
  pub counted : counts_of (records_in p) ≡ p.counts
  pub exact : IsExactHistory (settings_in p) p.events (records_in p)
