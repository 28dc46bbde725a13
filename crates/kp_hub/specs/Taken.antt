-- What a hub has taken: the journal, with who fed each of its events, and the event behind it that
-- waits.
use Rattle.std.specs.Prelude.{◌≡◌, ◌≤◌, ◌<◌, ℕ, List, [], ◌∷◌, ◌++◌, Option, IfSome, length, map, not, refl, sum, count_by}
use Rattle.std.specs.Coded.{Coded, code_by, coded×, coded_ℕ, coded_list, coded_option}
use Rattle.std.specs.Option.{option_to_list}
use Rattle.kp_base.specs.declared.config.Config.{Config}
use Rattle.kp_types.specs.declared.event.Event.{Event}
use Rattle.kp_types.specs.declared.sync.SyncRecord.{SyncRecord}
use Rattle.kp_table_defs.specs.Edits.{is_write}
use Rattle.kp_history_defs.specs.declared.fed.Fed.{Fed}
use Rattle.kp_history_defs.specs.contracts.fed.Fed as fed_row
use Rattle.kp_history_defs.specs.Runs.{events_of}
use Rattle.kp_feed.specs.declared.rule.Ended.{Ended}
use Rattle.kp_feed.specs.contracts.rule.Ended as ended_row
use Rattle.kp_feed.specs.Passes.{QueueId}
use Rattle.kp_feed.specs.Taking.{Taker}
use Rattle.kp_plane.specs.Parts.{PlaneParts, records_in, uncovered_in}
use Rattle.kp_hub.specs.declared.notes.Origin.{Origin}
use Rattle.kp_hub.specs.declared.notes.RecordNote.{RecordNote}

-- The journal; the event behind it that was taken and not accepted, if there is one; how many
-- events each sync covers more than the one before it; how many feeders there are, and what those
-- that ended have fed.
pub record Taken : Type 0 where
  pub journal : List Fed
  pub waits : Option Fed
  pub counts : List ℕ
  pub feeders : ℕ
  pub ended : List Ended

-- it is stored as a tuple
abbrev pub taken_code : Coded Taken
taken_code =
    code_by (List Fed × (Option Fed × (List ℕ × (ℕ × List Ended))))
    (coded× (coded_list fed_row.the_row.coded) (coded× (coded_option fed_row.the_row.coded)
    (coded× (coded_list coded_ℕ) (coded× coded_ℕ (coded_list ended_row.the_row.coded)))))
    (λ t. (t.journal, (t.waits, (t.counts, (t.feeders, t.ended)))))
    (λ p. record {
      journal = p.0;
      waits = p.1.0;
      counts = p.1.1.0;
      feeders = p.1.1.1.0;
      ended = p.1.1.1.1;
    }) (λ _. refl)

-- events, with who fed each and as which
abbrev pub fed_of : List Origin → List Event → List Fed
fed_of [] events = []
fed_of (o ∷ origins) [] = []
fed_of (o ∷ origins) (e ∷ events) =
    record { feeder = o.feeder; number = o.number; event = e } ∷ fed_of origins events

-- what was taken, by who fed the events of a plane, the event that waits, and the taker
abbrev pub taken_in : List Origin → Option Fed → PlaneParts → Taker → Taken
taken_in origins waits plane taker = record {
  journal = fed_of origins plane.events;
  waits = waits;
  counts = plane.counts;
  feeders = taker.feeders;
  ended = taker.ended;
}

-- all that was taken, in order
abbrev pub all_taken : Taken → List Fed
all_taken t = t.journal ++ option_to_list t.waits

-- the plane of the journal
abbrev pub plane_of : Config → Taken → PlaneParts
plane_of config t = record { config = config; events = events_of t.journal; counts = t.counts }

-- what the taker knows
abbrev pub taker_of : QueueId → Taken → Taker
taker_of queue t = record {
  queue = queue;
  feeders = t.feeders;
  taken = all_taken t;
  ended = t.ended;
}

-- the records of the syncs
abbrev pub records_at : Config → Taken → List SyncRecord
records_at config t = records_in (plane_of config t)

-- a sync that covers the whole journal
abbrev pub with_sync : Config → Taken → Taken
with_sync config t = record t { counts = t.counts ++ uncovered_in (plane_of config t) ∷ [] }

-- what is kept of a record: its events, and how many chains it wrote and removed
abbrev pub note_of : SyncRecord → RecordNote
note_of r = record {
  events = r.events;
  written = count_by is_write r.batch.edits;
  removed = count_by (λ e. not (is_write e)) r.batch.edits;
}

-- What holds of a plane, of the taker's pass and of the notes of what was taken. Every sync covers
-- events of the journal. It has no more than it may, and an event waits only where it has room.
pub record IsTaken
    (config : Config) (queue : QueueId) (t : Taken) (plane : PlaneParts) (taker : Taker)
    (notes : List RecordNote) : Type 0 where
  pub plane_is : plane ≡ plane_of config t
  pub taker_is : taker ≡ taker_of queue t
  pub notes_are : notes ≡ map note_of (records_at config t)
  pub covers : sum t.counts ≤ length t.journal
  pub few : length t.journal ≤ config.max_events
  pub room : IfSome t.waits (λ f. length t.journal < config.max_events)
