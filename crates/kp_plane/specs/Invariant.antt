-- What holds of a plane's fields, by the parts that contracts see.
use Rattle.std.specs.Prelude.{◌≡◌, ◌≤◌, ◌<◌, ◌+◌, ℕ, List, length, sum, take, drop}
use Rattle.std.specs.Prelude.{◌||◌, Bool, true, false, cond, is_some}
use Rattle.std.specs.List.{flat_map}
use Rattle.kp_base.specs.declared.config.Config.{Config}
use Rattle.kp_base.specs.declared.key.ObjectKey.{ObjectKey}
use Rattle.kp_types.specs.declared.event.Event.{Event}
use Rattle.kp_types.specs.Setting.{Settings, both_families}
use Rattle.kp_choice_defs.specs.Settings.{setting_of, settings_of}
use Rattle.kp_object_defs.specs.Objects.{Objects, objects_after}
use Rattle.kp_object_defs.specs.SlicesNow.{slices_now}
use Rattle.kp_events.specs.JournalContents.{Contents}
use Rattle.kp_history_defs.specs.DirtyPorts.{dirty_ports}
use Rattle.kp_history_defs.specs.declared.dirty.DirtyPort.{DirtyPort}
use Rattle.kp_history.specs.Invariant.{IsHistory, LeadsToNext}
use Rattle.kp_history.specs.declared.history.History.{History}
use Rattle.kp_settle_laws.specs.Settled.{IsControlledBut}
use Rattle.kp_store.specs.Touched.{is_touched}
use Rattle.kp_touch_laws.specs.TouchLaws.{touches_one}
use Rattle.kp_writer.specs.Known.{pending_ports}
use Rattle.kp_writer.specs.Written as written
use Rattle.kp_writer.specs.Written.{WriterParts}
use Rattle.kp_plane.specs.Collected.{is_collected}
use Rattle.kp_plane.specs.Families.{Both, HasNoClash, IsNewest, IsWritten, KnowsRest, listed}
use Rattle.kp_plane.specs.Families.{map_both, per_family}
use Rattle.kp_plane.specs.Parts.{PlaneParts, dirty_after, objects_before, objects_in, settings_in}
use Rattle.kp_plane.specs.Parts.{uncovered_in}
use Rattle.kp_plane.specs.Past.{GoesOnPast, LeadPastOthers}
use Rattle.kp_plane.specs.declared.collected.Collected.{Collected}
use Rattle.kp_plane.specs.declared.next.Next.{Next}
use Rattle.kp_plane.specs.declared.per_family.PerFamily.{PerFamily}
use Rattle.kp_plane.specs.declared.place.ObjectsAt.{ObjectsAt}
use Rattle.kp_plane.specs.declared.ports_at.PortsAt.{PortsAt}
use Rattle.kp_plane.specs.declared.slices_at.SlicesAt.{SlicesAt}

-- what contracts see of a plane's fields
abbrev pub parts_of : Config → Contents → History → PlaneParts
parts_of config journal history = record {
  config = config;
  events = journal.events;
  counts = history.counts.items;
}

-- objects at a place of the journal are those of the events before it
pub record IsAtPlace (events : List Event) (o : ObjectsAt) : Type 0 where
  pub within : o.at ≤ length events
  pub objects : o.objects ≡ objects_after (take o.at events)

-- the slices are as the controller would leave them, but for the Services that were touched since
abbrev pub IsControlled : Config → SlicesAt → Type 0
IsControlled config s = IsControlledBut (is_touched s.touched) config s.place.objects s.slices

-- Slices at a place of the journal are those of the events and of the syncs before it: it stands
-- after what these syncs cover, and at or before what one more covers.
pub record IsSlicesAt
    (config : Config) (events : List Event) (counts : List ℕ) (s : SlicesAt) : Type 0 where
  pub place : IsAtPlace events s.place
  pub syncs : s.syncs ≤ length counts
  pub covered : s.covered ≡ sum (take s.syncs counts)
  pub from : s.covered ≤ s.place.at
  pub to : s.syncs < length counts → s.place.at ≤ sum (take (s.syncs + 1) counts)
  pub slices : s.slices ≡ slices_now both_families config (take s.place.at events) (take s.syncs counts)
  pub controlled : IsControlled config s

-- the slices are those of the events before their place, and of syncs that cover so many
abbrev pub IsNowBy : Config → List Event → SlicesAt → List ℕ → Type 0
IsNowBy config events s counts =
    s.slices ≡ slices_now both_families config (take s.place.at events) counts

-- slices at a later place of the journal, after no more syncs
pub record IsFed (config : Config) (events : List Event) (to : ℕ) (before after : SlicesAt)
    : Type 0 where
  pub place : IsAtPlace events after.place
  pub at : after.place.at ≡ to
  pub later : before.place.at ≤ to
  pub syncs : after.syncs ≡ before.syncs
  pub covered : after.covered ≡ before.covered
  pub slices : (counts : List ℕ) → sum counts ≤ before.place.at
      → IsNowBy config events before counts → IsNowBy config events after counts
  pub controlled : IsControlled config after

-- whether one of the events from one place of the journal to another touches the Service of this
-- key
abbrev pub touched_between : Settings → List Event → ℕ → ℕ → ObjectKey → Bool
touched_between settings events from to =
    touches_one settings (objects_after (take from events)) (drop from (take to events))

-- each Service that was touched is one that such an event touches
pub record AreTouchedBetween
    (settings : Settings) (events : List Event) (from to : ℕ) (t : Collected) : Type 0 where
  pub later : from ≤ to
  pub few : (key : ObjectKey) → is_collected t key ≡ true
      → touched_between settings events from to key ≡ true

-- so it stays where more events are gone over, from wherever they are counted
abbrev pub GoesOnTouching : Settings → List Event → ℕ → Collected → ℕ → Collected → Type 0
GoesOnTouching settings events at before to after =
    (from : ℕ) → AreTouchedBetween settings events from at before
    → AreTouchedBetween settings events from to after

-- an event since the last accepted sync may have touched the Service of this key
abbrev pub may_have_touched : PortsAt → ObjectKey → Bool
may_have_touched s service = is_touched s.since service || is_collected s.touched service

-- What is known of ports: in each family that the node has tables of the writer knows, by the names
-- of ports whose Service wasn't touched, what the latest objects tell, which stand at a place of
-- the journal at or after what the last sync covers; an event between these touched each Service
-- that was; what it wrote is what the objects tell that the last sync covers. From these events
-- lead past all Services but some, and those of the last sync past all but others.
pub record IsPortsAt (p : PlaneParts) (s : PortsAt) : Type 0 where
  pub place : IsAtPlace p.events s.latest
  pub dual : is_some s.writers.six ≡ p.config.dual
  pub written : Both (IsWritten p.config (objects_in p)) s.writers
  pub untouched : Both (KnowsRest s.latest.objects (is_collected s.touched)) s.writers
  pub since : AreTouchedBetween (settings_in p) p.events (sum p.counts) s.latest.at s.touched
  pub past : LeadPastOthers (settings_in p) (objects_in p) s.latest.objects (may_have_touched s)
  pub last : LeadPastOthers (settings_in p) (objects_before p) (objects_in p) (is_touched s.last)
  pub dirty : s.dirty ≡ per_family p.config (λ family. dirty_after family p)

-- what is known of ports at a later place of the journal, where nothing was written
pub record IsBroughtOn
    (config : Config) (events : List Event) (before after : PortsAt) : Type 0 where
  pub place : IsAtPlace events after.latest
  pub untouched : Both (KnowsRest after.latest.objects (is_collected after.touched)) after.writers
  pub since : GoesOnTouching (settings_of config) events before.latest.at before.touched
      after.latest.at after.touched
  pub past : GoesOnPast (settings_of config) before.latest.objects (may_have_touched before)
      after.latest.objects (may_have_touched after)
  pub last : after.last ≡ before.last
  pub dual : is_some after.writers.six ≡ is_some before.writers.six
  pub written : (o : Objects) → Both (IsWritten config o) before.writers
      → Both (IsWritten config o) after.writers
  pub dirty : after.dirty ≡ before.dirty

-- what is known of ports is brought up to all events, so that no Service is touched any more
pub record IsUpToDate (events : List Event) (s : PortsAt) : Type 0 where
  pub at : s.latest.at ≡ length events
  pub none : (key : ObjectKey) → is_collected s.touched key ≡ false
  pub newest : Both (IsNewest (objects_after events)) s.writers

-- what is known of ports once a sync is kept, which covers new events or none
pub record IsSettled (is_new : Bool) (told : PerFamily (List DirtyPort)) (before after : PortsAt)
    : Type 0 where
  pub latest : after.latest ≡ before.latest
  pub touched : after.touched ≡ before.touched
  pub since : (key : ObjectKey) → is_touched after.since key ≡ false
  pub last : after.last ≡ before.since
  pub writers : after.writers
      ≡ cond is_new (map_both written.all_written before.writers) before.writers
  pub dirty : after.dirty ≡ told

-- what is held of the syncs, and what is known of ports
pub record Holds (p : PlaneParts) (h : History) (s : PortsAt) : Type 0 where
  pub history : IsHistory p h
  pub ports : IsPortsAt p s

-- what writers make of a sync: the edits of each, one after the other, and its dirty ports
pub record IsMade (writers : PerFamily WriterParts) (next : Next) : Type 0 where
  pub edits : next.batch.edits ≡ flat_map written.next_edits (listed writers)
  pub dirty : next.dirty ≡ map_both pending_ports writers
  pub no_clash : Both HasNoClash writers

-- What one more sync keeps: the batch, and the ports of which something else is known. Where it
-- covers new events the ports that are known are those of all events' objects.
pub record IsNext (p : PlaneParts) (s : PortsAt) (next : Next) : Type 0 where
  pub leads : LeadsToNext p next.batch
  pub dirty : next.dirty
      ≡ per_family p.config (λ family. dirty_ports (setting_of family p.config) (objects_in p)
      (objects_after p.events))
  pub newest : 0 < uncovered_in p → IsUpToDate p.events s

-- what holds of all fields: the objects for explanations stand at or before what the last sync
-- covers
pub record IsPlane
    (p : PlaneParts) (most : ℕ) (h : History) (s : PortsAt) (explained : ObjectsAt)
    (slices : SlicesAt) : Type 0 where
  pub limit : most ≡ p.config.max_events
  pub room : length p.events ≤ most
  pub holds : Holds p h s
  pub explained_at : IsAtPlace p.events explained
  pub to : explained.at ≤ sum p.counts
  pub slices_at : IsSlicesAt p.config p.events p.counts slices
