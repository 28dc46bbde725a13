-- What contracts see of what the hub's lock keeps.
use Rattle.std.specs.Prelude.{◌≡◌, ◌≤◌, ℕ, List, ◌++◌, Some, false, length, refl, take}
use Rattle.std.specs.Coded.{Coded, code_by, coded×, coded_ℕ, coded_list}
use Rattle.std.specs.List.{AllByRecursion}
use Rattle.kp_base.specs.declared.config.Config.{Config}
use Rattle.kp_choice_defs.specs.Settings.{settings_of}
use Rattle.kp_types.specs.declared.sync.SyncRecord.{SyncRecord}
use Rattle.kp_object_defs.specs.Objects.{Objects, no_objects, objects_after}
use Rattle.kp_table_defs.specs.Rebuild.{TableParts, clash_of, full_table}
use Rattle.kp_history_defs.specs.declared.fed.Fed.{Fed}
use Rattle.kp_history_defs.specs.Runs.{events_of}
use Rattle.kp_publish.specs.Entries.{records_of, is_ended}
use Rattle.kp_publish.specs.Pending.{Keeps, keeps_code}
use Rattle.kp_hub.specs.declared.notes.Refusal.{Refusal}
use Rattle.kp_hub.specs.contracts.notes.Refusal as refusal_row
use Rattle.kp_hub.specs.Taken.{Taken, taken_code, records_at}

-- What was taken; what is published and what is pending; the refused syncs; and how many syncs all
-- passes together were told are accepted, and refused.
pub record HubState : Type 0 where
  pub taken : Taken
  pub outlet : Keeps
  pub refusals : List Refusal
  pub accepted : ℕ
  pub refused : ℕ

-- it is stored as a tuple
abbrev pub state_code : Coded HubState
state_code =
    code_by (Taken × (Keeps × (List Refusal × (ℕ × ℕ))))
    (coded× taken_code (coded× keeps_code
    (coded× (coded_list refusal_row.the_row.coded) (coded× coded_ℕ coded_ℕ))))
    (λ h. (h.taken, (h.outlet, (h.refusals, (h.accepted, h.refused)))))
    (λ p. record {
      taken = p.0;
      outlet = p.1.0;
      refusals = p.1.1.0;
      accepted = p.1.1.1.0;
      refused = p.1.1.1.1;
    }) (λ _. refl)

-- it is what the parts of the lock show
abbrev pub state_in : Taken → Keeps → List Refusal → ℕ → ℕ → HubState
state_in taken outlet refusals accepted refused = record {
  taken = taken;
  outlet = outlet;
  refusals = refusals;
  accepted = accepted;
  refused = refused;
}

-- the table of no objects
abbrev pub first_table : Config → TableParts
first_table config = full_table (settings_of config) no_objects

-- the objects after the first events of a journal
abbrev pub objects_at : List Fed → ℕ → Objects
objects_at journal n = objects_after (take n (events_of journal))

-- A refusal is by a clash of the objects after the first events of the journal.
pub record IsRefusal (config : Config) (journal : List Fed) (r : Refusal) : Type 0 where
  pub within : r.events ≤ length journal
  pub clash : clash_of (settings_of config) (objects_at journal r.events) ≡ Some r.clash

-- ---- What the lock keeps, by parts

-- The history is open, and the records of the publisher and then those that wait are those of the
-- syncs.
pub record PublishesRecords
    (config : Config) (t : Taken) (outlet : Keeps) (waiting : List SyncRecord) : Type 0 where
  pub is_open : is_ended outlet.newest ≡ false
  pub records : records_of outlet.newest ++ waiting ≡ records_at config t

-- All refusals are by clashes, and no more syncs were told to passes than there are.
pub record KeepsCounts (config : Config) (h : HubState) : Type 0 where
  pub refusals : AllByRecursion (IsRefusal config h.taken.journal) h.refusals
  pub accepted : h.accepted ≤ length h.taken.counts
  pub refused : h.refused ≤ length h.refusals

-- All of it, for a hub of so many streams.
pub record IsHubState
    (config : Config) (streams : ℕ) (start : TableParts) (h : HubState)
    (waiting : List SyncRecord) : Type 0 where
  pub start_is : start ≡ first_table config
  pub feeders : h.taken.feeders ≡ streams
  pub publishes : PublishesRecords config h.taken h.outlet waiting
  pub keeps : KeepsCounts config h
