-- Interleaved runs: streams feed events into a queue, a taker moves them to the journal and syncs,
-- records are published, and workers read packets by what is published, in any order of steps. A
-- sync makes the contributions of the affected ports anew and no others; that its table is the
-- full one is a law, and no part of a step.
use Rattle.std.specs.Prelude.{◌≡◌, ◌<◌, ◌≤◌, ◌-◌, ◌==◌, ℕ, suc, Bool, true, false, cond, List, [], ◌∷◌, ◌++◌, map, take, length, sum, nat_lt, None, is_some}
use Rattle.std.specs.FinMap as finite
use Rattle.kp_base.specs.declared.address.Family.{Family}
use Rattle.kp_base.specs.declared.key.PortKey.{PortKey}
use Rattle.kp_types.specs.Setting.{Settings, view_of}
use Rattle.kp_types.specs.declared.event.Event.{Event}
use Rattle.kp_types.specs.declared.packet.Packet.{Packet}
use Rattle.kp_types.specs.declared.sync.SyncRecord.{SyncRecord}
use Rattle.kp_choice_defs.specs.Recent.{RecentParts}
use Rattle.kp_object_defs.specs.Objects.{Objects, objects_after}
use Rattle.kp_object_defs.specs.Desired.{is_empty}
use Rattle.kp_table_defs.specs.Edits.{changes_between}
use Rattle.kp_table_defs.specs.Parts.{RulesByPort, tables_of_ports}
use Rattle.kp_table_defs.specs.Rebuild.{clash_of}
use Rattle.kp_table_defs.specs.Walk.{Walked, walk_of}
use Rattle.kp_history_defs.specs.declared.fed.Fed.{Fed}
use Rattle.kp_history_defs.specs.Affected.{affected_ports}
use Rattle.kp_history_defs.specs.History.{counts_of, table_after}
use Rattle.kp_history_defs.specs.KeptRules.{with_rules_of}

-- ---- The state of a run

-- Where a run stands: what each stream has fed; the queue and the journal; the records, and how
-- many of them are published; the contributions of the ports to the tables of each family, as they
-- were at the last record, and the ports that events affected since; and the records that each
-- worker has seen.
pub record RunState : Type 0 where
  pub fed : ℕ → List Event
  pub queue : List Fed
  pub journal : List Fed
  pub records : List SyncRecord
  pub published : ℕ
  pub kept : Family → RulesByPort
  pub touched : List PortKey
  pub seen : ℕ → List SyncRecord

-- before the first step
abbrev pub initial : RunState
initial = record {
  fed = λ stream. [];
  queue = [];
  journal = [];
  records = [];
  published = 0;
  kept = λ family. finite.empty;
  touched = [];
  seen = λ worker. [];
}

-- the events of a journal
abbrev pub events_of : List Fed → List Event
events_of fed = map (λ f. f.event) fed

-- the objects after all that was taken
abbrev pub objects_now : RunState → Objects
objects_now s = objects_after (events_of s.journal)

-- the records that are published
abbrev pub published_records : RunState → List SyncRecord
published_records s = take s.published s.records

-- ---- Steps

-- A step, by one actor: a stream feeds an event; the queue's front is taken; a sync is accepted,
-- or refused; the records are published; a worker reads a packet, with these draws and recent
-- lists, and has this answer; or a worker is told of so many records.
pub data Step : Type 0 where
  Feed : ℕ → Event → Step
  Take : Step
  Sync : Step
  Refuse : Step
  Publish : Step
  Read : ℕ → Packet → (ℕ → ℕ) → RecentParts → Walked → Step
  Tell : ℕ → ℕ → Step

-- a value in place of that at a number
abbrev pub at_number : {A : Type 0} → (ℕ → A) → ℕ → A → ℕ → A
at_number f n x m = cond (m == n) x (f m)

-- a stream feeds an event, with the stream's next number
abbrev pub after_feed : ℕ → Event → RunState → RunState
after_feed stream event s = record s {
  fed = at_number s.fed stream (s.fed stream ++ event ∷ []);
  queue = s.queue
      ++ record { feeder = stream; number = suc (length (s.fed stream)); event = event } ∷ [];
}

-- the queue's front is taken, and the ports that it affects are touched
abbrev pub after_take : Settings → List Fed → RunState → RunState
after_take settings [] s = s
after_take settings (f ∷ rest) s = record s {
  queue = rest;
  journal = s.journal ++ f ∷ [];
  touched = s.touched ++ affected_ports settings (objects_now s) f.event;
}

-- the contributions once those of the touched ports are made anew
abbrev pub kept_after_sync : Settings → RunState → Family → RulesByPort
kept_after_sync settings s family =
    with_rules_of (view_of family settings) (objects_now s) s.touched (s.kept family)

-- the record of a sync: the events since the last record, and the changes between the tables of
-- the contributions before and after
abbrev pub next_record : Settings → RunState → SyncRecord
next_record settings s = record {
  sync = suc (length s.records);
  events = length s.journal - sum (counts_of s.records);
  batch = record {
    edits = changes_between (tables_of_ports settings s.kept)
        (tables_of_ports settings (kept_after_sync settings s));
  };
}

-- an accepted sync
abbrev pub after_sync : Settings → RunState → RunState
after_sync settings s = record s {
  records = s.records ++ next_record settings s ∷ [];
  kept = kept_after_sync settings s;
  touched = [];
}

-- the longer of two lists
abbrev pub longer : {A : Type 0} → List A → List A → List A
longer xs ys = cond (nat_lt (length xs) (length ys)) ys xs

-- what a packet is answered: the walk of the published table
abbrev pub answer_of : Settings → RunState → Packet → (ℕ → ℕ) → RecentParts → Walked
answer_of settings s packet draws lists =
    walk_of (λ at. finite.get (table_after settings (published_records s)).chains at)
    settings.config.addresses packet draws lists

-- Where a step may be made: the queue has a front to take; a sync is accepted where the objects have
-- no clash, and else refused; there are records to publish; a read has the answer of the published
-- table; and a worker is told of published records alone.
abbrev pub IsAllowed : Settings → RunState → Step → Type 0
IsAllowed settings s (Feed stream event) = Unit {0}
IsAllowed settings s Take = is_empty s.queue ≡ false
IsAllowed settings s Sync = clash_of settings (objects_now s) ≡ None
IsAllowed settings s Refuse = is_some (clash_of settings (objects_now s)) ≡ true
IsAllowed settings s Publish = s.published < length s.records
IsAllowed settings s (Read worker packet draws lists answer) =
    answer ≡ answer_of settings s packet draws lists
IsAllowed settings s (Tell worker n) = n ≤ s.published

-- the state after a step
abbrev pub state_after : Settings → RunState → Step → RunState
state_after settings s (Feed stream event) = after_feed stream event s
state_after settings s Take = after_take settings s.queue s
state_after settings s Sync = after_sync settings s
state_after settings s Refuse = s
state_after settings s Publish = record s { published = length s.records }
state_after settings s (Read worker packet draws lists answer) =
    record s { seen = at_number s.seen worker (published_records s) }
state_after settings s (Tell worker n) =
    record s { seen = at_number s.seen worker (longer (s.seen worker) (take n s.records)) }

-- ---- Runs

module _ (settings : Settings) where
  -- a step leads from one state to another
  pub record IsStep (before : RunState) (step : Step) (after : RunState) : Type 0 where
    pub allowed : IsAllowed settings before step
    pub leads : after ≡ state_after settings before step

-- steps lead from one state to another, one after the other
abbrev pub IsRunFrom : Settings → RunState → List Step → RunState → Type 0
IsRunFrom settings before [] after = after ≡ before
IsRunFrom settings before (step ∷ steps) after =
    (next : RunState) × IsStep settings before step next × IsRunFrom settings next steps after

-- a run: steps from the first state on, to this state
abbrev pub IsRun : Settings → List Step → RunState → Type 0
IsRun settings steps state = IsRunFrom settings initial steps state

-- ---- What was fed

-- an event was fed by this stream
abbrev pub is_of_stream : ℕ → Fed → Bool
is_of_stream stream f = stream == f.feeder

-- the events of a stream with their numbers, from the next after n on
abbrev pub numbered : ℕ → ℕ → List Event → List Fed
numbered stream n [] = []
numbered stream n (e ∷ es) =
    record { feeder = stream; number = suc n; event = e } ∷ numbered stream (suc n) es
