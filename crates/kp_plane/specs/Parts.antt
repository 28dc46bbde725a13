-- What contracts see of a plane: the parts that tables and batches are functions of, and what
-- slices, decisions and walks are by them.
use Rattle.std.specs.Prelude.{◌≡◌, ℕ, suc, ◌+◌, ◌-◌, ◌*◌, Bool, List, [], ◌++◌, cond, drop, length}
use Rattle.std.specs.Prelude.{sum, refl}
use Rattle.std.specs.List.{filter_map, sum_by}
use Rattle.std.specs.Coded.{Coded, code_by, coded×, coded_ℕ, coded_list}
use Rattle.std.specs.FinMap as finite
use Rattle.kp_base.specs.declared.address.Family.{Family}
use Rattle.kp_base.specs.declared.config.Config.{Config}
use Rattle.kp_base.specs.contracts.config.Config as config_row
use Rattle.kp_base.specs.declared.key.ObjectKey.{ObjectKey}
use Rattle.kp_base.specs.declared.key.PortKey.{PortKey}
use Rattle.kp_types.specs.Setting.{both_families, config_for, has_tables_of, table_families}
use Rattle.kp_types.specs.declared.event.Event.{Event}
use Rattle.kp_types.specs.contracts.event.Event as event_row
use Rattle.kp_types.specs.declared.slice.Slice.{Slice}
use Rattle.kp_types.specs.declared.sync.SyncRecord.{SyncRecord}
use Rattle.kp_types.specs.declared.decision.Decision.{Decision}
use Rattle.kp_types.specs.declared.packet.Packet.{Packet}
use Rattle.kp_choice_defs.specs.Recent.{RecentParts}
use Rattle.kp_choice_defs.specs.Settings.{setting_of}
use Rattle.kp_door_defs.specs.Decision.{Decided, decision_of}
use Rattle.kp_events.specs.JournalContents.{Contents}
use Rattle.kp_object_defs.specs.Objects.{Objects, objects_after}
use Rattle.kp_object_defs.specs.PortByKey.{info_at}
use Rattle.kp_object_defs.specs.PortInfo.{PortInfo}
use Rattle.kp_object_defs.specs.SlicesNow.{slices_now}
use Rattle.kp_table_defs.specs.Walk.{Walked, walk_of}
use Rattle.kp_history_defs.specs.History.{IsExactRecord, objects_covered}
use Rattle.kp_history_defs.specs.DirtyPorts.{dirty_keys, dirty_ports}
use Rattle.kp_history_defs.specs.declared.dirty.DirtyPort.{DirtyPort}
use Rattle.kp_touch_laws.specs.TouchLaws.{touches_one}
use Rattle.kp_writer.specs.Own.{own_rule_count}
use Rattle.kp_writer.specs.Shared.{shared_rule_count}
use Rattle.kp_plane.specs.Known.{touched_count}
pub use Rattle.kp_history.specs.Parts.{PlaneParts, HasExactHistory, settings_in, syncs_in, uncovered_in}
pub use Rattle.kp_history.specs.Parts.{objects_in, chains_in, table_in, last_edits, batch_after, last_batch_in}
pub use Rattle.kp_history.specs.Parts.{synced, next_chains, next_edits}
pub use Rattle.kp_history.specs.Parts.{records_in, next_record}

-- how they are told apart as values
abbrev pub parts_code : Coded PlaneParts
parts_code =
    code_by (Config × (List Event × List ℕ))
    (coded× config_row.the_row.coded (coded× (coded_list event_row.the_row.coded) (coded_list coded_ℕ)))
    (λ p. (p.config, (p.events, p.counts)))
    (λ c. record { config = c.0; events = c.1.0; counts = c.1.1 }) (λ _. refl)

-- the slices by now, in order of their keys
abbrev pub slices_in : PlaneParts → List Slice
slices_in p = finite.values (slices_now both_families p.config p.events p.counts)

-- more events were accepted
abbrev pub with_events : PlaneParts → List Event → PlaneParts
with_events p more = record p { events = p.events ++ more }

-- the names of the ports of which something else is known in a family after all events than was at
-- the last sync
abbrev pub next_dirty : Family → PlaneParts → List PortKey
next_dirty family p =
    dirty_keys (setting_of family p.config) (objects_in p) (objects_after p.events)

-- what some objects tell a family of the ports of these names
abbrev pub infos_by : Family → PlaneParts → Objects → List PortKey → List PortInfo
infos_by family p o keys = filter_map (info_at family (config_for family p.config) o) keys

-- whether one of the events that no sync covers yet touches the Service of this key
abbrev pub is_touched_since : PlaneParts → ObjectKey → Bool
is_touched_since p = touches_one (settings_in p) (objects_in p) (drop (sum p.counts) p.events)

-- what is known of these ports after all events
abbrev pub dirty_infos : Family → PlaneParts → List PortInfo
dirty_infos family p = infos_by family p (objects_after p.events) (next_dirty family p)

-- how many rules they have after all events, in their own chains and in the shared ones
abbrev pub dirty_rules : Family → PlaneParts → ℕ
dirty_rules family p =
    own_rule_count (setting_of family p.config) (dirty_infos family p)
    + shared_rule_count (setting_of family p.config) (dirty_infos family p)

-- the most steps that a sync of all events takes: one for each of these rules, in each family that
-- the node has tables of
abbrev pub most_steps : PlaneParts → ℕ
most_steps p = sum_by (λ family. dirty_rules family p) (table_families p.config)

-- the most ports that a sync of all events asks the objects about: those that these Services have,
-- in each of these families
abbrev pub most_asked : PlaneParts → ℕ
most_asked p =
    length (table_families p.config) * touched_count (objects_after p.events) (is_touched_since p)

-- The record of a sync: it covers all events, has the next number, and leads to the full table
-- of all objects, which have no clash.
pub record IsNextRecord (p : PlaneParts) (r : SyncRecord) : Type 0 where
  pub events : r.events ≡ uncovered_in p
  pub exact : IsExactRecord (settings_in p) (objects_in p) (objects_after p.events)
      (suc (syncs_in p)) r

-- the objects that the syncs before the last cover
abbrev pub objects_before : PlaneParts → Objects
objects_before p = objects_covered p.events p.counts (syncs_in p - 1)

-- the ports of which something else is known in a family after the last sync than before it
abbrev pub dirty_after : Family → PlaneParts → List DirtyPort
dirty_after family p =
    dirty_ports (setting_of family p.config) (objects_before p) (objects_in p)

-- where the node has tables of the family, else none
abbrev pub dirty_in : Family → PlaneParts → List DirtyPort
dirty_in family p = cond (has_tables_of family (settings_in p)) (dirty_after family p) []

-- the journal
abbrev pub journal_in : PlaneParts → Contents
journal_in p = record { events = p.events; most = p.config.max_events }

-- the decision on a packet by the objects that the last sync covers
abbrev pub decided_in : PlaneParts → Packet → (ℕ → ℕ) → RecentParts → Decided
decided_in p packet draws lists = decision_of (settings_in p) (objects_in p) packet draws lists

-- what is told of it
abbrev pub explained_in : PlaneParts → Packet → (ℕ → ℕ) → RecentParts → Decision
explained_in p packet draws lists =
    let d = decided_in p packet draws lists in
    record { verdict = d.verdict; reason = d.reason }

-- the walk of a packet through their full table
abbrev pub walked_in : PlaneParts → Packet → (ℕ → ℕ) → RecentParts → Walked
walked_in p packet draws lists =
    walk_of (λ at. finite.get (chains_in p) at) p.config.addresses packet draws lists
