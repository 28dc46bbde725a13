-- What holds in every interleaving: of each state that a run leads to, whatever its steps.
use Rattle.std.specs.Prelude.{◌≡◌, ◌≤◌, ℕ, true, List, [], ◌∷◌, ◌++◌, take, length}
use Rattle.std.specs.List.{filter}
use Rattle.kp_base.specs.declared.address.Family.{Family}
use Rattle.kp_base.specs.declared.config.Config.{Config}
use Rattle.kp_base.specs.declared.key.PortKey.{PortKey}
use Rattle.kp_types.specs.Setting.{Settings}
use Rattle.kp_types.specs.declared.packet.Packet.{Packet}
use Rattle.kp_choice_defs.specs.Recent.{RecentParts}
use Rattle.kp_choice_defs.specs.Settings.{pick_by_draws, settings_of}
use Rattle.kp_object_defs.specs.Objects.{Objects}
use Rattle.kp_object_defs.specs.SlicesNow.{Slices, slices_step, controller_step}
use Rattle.kp_door_defs.specs.Decision.{decision_of}
use Rattle.kp_table_defs.specs.Walk.{Walked}
use Rattle.kp_walk_laws.specs.Laws.{Agree, IsPrefixed}
use Rattle.kp_history_defs.specs.declared.fed.Fed.{Fed}
use Rattle.kp_history_defs.specs.History.{IsExactHistory, counts_of, objects_covered, chains_covered, slices_after, table_after}
use Rattle.kp_history_defs.specs.Inputs.{changed_ports}
use Rattle.kp_history_defs.specs.Runs.{RunState, Step, Feed, Take, Sync, Refuse, Publish, Read, Tell, IsAllowed, IsRun, IsRunFrom, IsStep, events_of, objects_now, state_after, is_of_stream, numbered}
use Rattle.kp_history_laws.specs.EventLaws.{has_port}
use Rattle.kp_history_laws.specs.HistoryLaws.{all_covered}

-- Steps may be joined to steps.
abbrev pub RunsJoin : Type 0
RunsJoin =
    (settings : Settings) (first second : List Step) (s t u : RunState)
    → IsRunFrom settings s first t → IsRunFrom settings t second u
    → IsRunFrom settings s (first ++ second) u

-- The first of some steps lead to a state, from which the others lead on.
abbrev pub RunsSplit : Type 0
RunsSplit =
    (settings : Settings) (first second : List Step) (s u : RunState)
    → IsRunFrom settings s (first ++ second) u
    → (t : RunState) × IsRunFrom settings s first t × IsRunFrom settings t second u

-- the slices where the front of a queue is taken
abbrev pub slices_after_take : List Fed → Slices → Slices
slices_after_take [] slices = slices
slices_after_take (f ∷ rest) slices = slices_step slices f.event

-- the slices in a state of a run, under these families and this configuration
abbrev pub slices_in : List Family → Config → RunState → Slices
slices_in families config s = slices_after families config (events_of s.journal) s.records

-- the slices after a step: an event that is taken changes them at once, and a sync as the
-- controller packs them over the objects that it covers
abbrev pub slices_after_step : List Family → Config → RunState → Step → Slices
slices_after_step families config s (Feed stream event) = slices_in families config s
slices_after_step families config s Take = slices_after_take s.queue (slices_in families config s)
slices_after_step families config s Sync =
    controller_step families config (objects_now s) (slices_in families config s)
slices_after_step families config s Refuse = slices_in families config s
slices_after_step families config s Publish = slices_in families config s
slices_after_step families config s (Read worker packet draws lists answer) =
    slices_in families config s
slices_after_step families config s (Tell worker n) = slices_in families config s

-- what holds of each state that a run leads to
abbrev pub HoldsOfRuns : (Settings → RunState → Type 0) → Type 0
HoldsOfRuns P =
    (settings : Settings) (steps : List Step) (s : RunState) → IsRun settings steps s → P settings s

-- The history is exact, though a sync makes the contributions of touched ports alone anew.
abbrev pub HistoryIsExact : Type 0
HistoryIsExact =
    HoldsOfRuns (λ settings s. IsExactHistory settings (events_of s.journal) s.records)

-- the objects that all records cover
abbrev pub objects_recorded : RunState → Objects
objects_recorded s = all_covered (events_of s.journal) s.records

-- The touched ports hold each port that changed since the last record.
abbrev pub TouchedHoldChanged : Type 0
TouchedHoldChanged =
    HoldsOfRuns (λ settings s. (key : PortKey)
    → has_port (changed_ports settings (objects_recorded s) (objects_now s)) key ≡ true
    → has_port s.touched key ≡ true)

-- The table after each of the first records is the full table of what they cover.
abbrev pub TablesAreFull : Type 0
TablesAreFull =
    HoldsOfRuns (λ settings s. (n : ℕ) → n ≤ length s.records
    → (table_after settings (take n s.records)).chains
    ≡ chains_covered settings (events_of s.journal) (counts_of s.records) n)

-- Along a run, whatever the families and the configuration, the slices change so at each step.
abbrev pub SlicesOfSteps : Type 0
SlicesOfSteps =
    (families : List Family) (config : Config)
    → HoldsOfRuns (λ settings s. (step : Step) → IsAllowed settings s step
    → slices_in families config (state_after settings s step)
    ≡ slices_after_step families config s step)

-- Each stream's events in the journal and then the queue are what it fed, in order, each once.
abbrev pub StreamsKeepOrder : Type 0
StreamsKeepOrder =
    HoldsOfRuns (λ settings s. (stream : ℕ)
    → filter (is_of_stream stream) (s.journal ++ s.queue) ≡ numbered stream 0 (s.fed stream))

-- What a worker has seen are the first of the published records.
abbrev pub SeenIsPublished : Type 0
SeenIsPublished =
    HoldsOfRuns (λ settings s. (worker : ℕ)
    → (n : ℕ) × (n ≤ s.published) × (s.seen worker ≡ take n s.records))

-- Only records that there are, are published.
abbrev pub PublishedAreRecords : Type 0
PublishedAreRecords = HoldsOfRuns (λ settings s. s.published ≤ length s.records)

-- a list begins with another
abbrev pub BeginsWith : {A : Type 0} → List A → List A → Type 0
BeginsWith {A} xs ys = (rest : List A) × (xs ≡ ys ++ rest)

-- Whatever steps follow, what a worker has seen begins with what it had seen before.
abbrev pub SeenOnlyGrows : Type 0
SeenOnlyGrows =
    (settings : Settings) (steps more : List Step) (s t : RunState)
    → IsRun settings steps s → IsRunFrom settings s more t
    → (worker : ℕ) → BeginsWith (t.seen worker) (s.seen worker)

-- Under some settings, each packet that is read has the answer of the decision on the objects that
-- the published records cover.
abbrev pub ReadsDecideUnder : Settings → Type 0
ReadsDecideUnder settings =
    (steps : List Step) (s t : RunState)
    (worker : ℕ) (packet : Packet) (draws : ℕ → ℕ) (lists : RecentParts) (answer : Walked)
    → IsRun settings steps s → IsStep settings s (Read worker packet draws lists answer) t
    → Agree answer
    (decision_of settings (objects_covered (events_of s.journal) (counts_of s.records) s.published)
    packet draws lists)

-- So it is under all settings that pick by draws, and whose names begin as kube-proxy's do.
abbrev pub ReadsDecide : Type 0
ReadsDecide =
    (settings : Settings) → settings.pick ≡ pick_by_draws → IsPrefixed settings.name_of
    → ReadsDecideUnder settings

-- Under the product's names and picks nothing is asked.
abbrev pub ProductReadsDecide : Type 0
ProductReadsDecide =
    (config : Config) → ReadsDecideUnder (settings_of config)
