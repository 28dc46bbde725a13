-- How what a hub does is steps of an interleaved run.
use Rattle.std.specs.Prelude.{◌≡◌, ◌-◌, ℕ, List, [], ◌∷◌, ◌++◌, None, length, replicate}
use Rattle.std.specs.Option.{option_to_list}
use mathlib.Core.List.{IsPrefix}
use Rattle.kp_base.specs.declared.config.Config.{Config}
use Rattle.kp_choice_defs.specs.Recent.{RecentParts}
use Rattle.kp_choice_defs.specs.Settings.{settings_of}
use Rattle.kp_types.specs.declared.chain.Clash.{Clash}
use Rattle.kp_types.specs.declared.event.Event.{Event}
use Rattle.kp_history_defs.specs.Runs.{RunState, Step, Take, Sync, Refuse, Publish, IsRun}
use Rattle.kp_history_defs.specs.Runs.{after_feed, answer_of, initial, published_records}
use Rattle.kp_publish.specs.declared.entry.Entry.{Entry}
use Rattle.kp_publish.specs.Entries.{records_of}
use Rattle.kp_run_defs.specs.AnswerText.{draws_at}
use Rattle.kp_text_defs.specs.declared.packet.PacketLine.{PacketLine}
use Rattle.kp_hub.specs.Growing.{TakesMore}
use Rattle.kp_hub.specs.Reading.{walk_after}
use Rattle.kp_hub.specs.State.{HubState, first_table}
use Rattle.kp_hub.specs.Syncs.{Accepts, Refuses}
use Rattle.kp_hub.specs.Taken.{Taken, all_taken, records_at}

-- A run stands where a hub does. The event that waits is still the front of its queue.
pub record StandsAt (config : Config) (s : RunState) (h : HubState) : Type 0 where
  pub journal : s.journal ≡ h.taken.journal
  pub waits : IsPrefix (option_to_list h.taken.waits) s.queue
  pub records : s.records ≡ records_at config h.taken
  pub published : s.published ≡ length (records_of h.outlet.published)

-- all that was taken by then is the journal and the front of the queue
abbrev pub WasQueued : RunState → Taken → Type 0
WasQueued s t = IsPrefix (all_taken t) (s.journal ++ s.queue)

-- the events that a sync adds to the journal are taken, and these steps follow
abbrev pub steps_of : HubState → HubState → List Step → List Step
steps_of before after last =
    replicate (length after.taken.journal - length before.taken.journal) Take ++ last

-- a run that stands where a hub does goes on by steps to where the hub stands later
abbrev pub LeadsOn : Config → List Step → List Step → HubState → Type 0
LeadsOn config steps more after =
    (t : RunState) × IsRun (settings_of config) (steps ++ more) t × StandsAt config t after

-- A hub that took nothing and made no record stands where a run begins.
abbrev pub NewHubsStandAtTheStart : Type 0
NewHubsStandAtTheStart =
    (config : Config) (h : HubState) → h.taken.journal ≡ [] → h.taken.waits ≡ None
    → h.taken.counts ≡ [] → records_of h.outlet.published ≡ [] → StandsAt config initial h

-- Where a stream feeds an event, the hub stands where it stood.
abbrev pub FeedsAreSteps : Type 0
FeedsAreSteps =
    (config : Config) (s : RunState) (h : HubState) (stream : ℕ) (event : Event)
    → StandsAt config s h → StandsAt config (after_feed stream event s) h

-- An accepted sync takes events, makes a record and publishes.
abbrev pub SyncsAreSteps : Type 0
SyncsAreSteps =
    (config : Config) (steps : List Step) (s : RunState) (before after : HubState) (sync : ℕ)
    → IsRun (settings_of config) steps s → StandsAt config s before
    → WasQueued s after.taken → TakesMore before.taken after.taken
    → Accepts config sync before after
    → LeadsOn config steps (steps_of before after (Sync ∷ Publish ∷ [])) after

-- A refused one takes events, and is refused.
abbrev pub RefusalsAreSteps : Type 0
RefusalsAreSteps =
    (config : Config) (steps : List Step) (s : RunState) (before after : HubState) (clash : Clash)
    → IsRun (settings_of config) steps s → StandsAt config s before
    → WasQueued s after.taken → TakesMore before.taken after.taken
    → Refuses config clash before after
    → LeadsOn config steps (steps_of before after (Refuse ∷ [])) after

-- What a pass is answered from the records that it sees is what a worker reads of a run where these
-- are published.
abbrev pub WalksAreReads : Type 0
WalksAreReads =
    (config : Config) (s : RunState) (seen : List Entry) (number : ℕ) (line : PacketLine)
    (lists : RecentParts) → published_records s ≡ records_of seen
    → walk_after (first_table config) config seen number line lists
    ≡ answer_of (settings_of config) s line.packet (draws_at number line.draws) lists
