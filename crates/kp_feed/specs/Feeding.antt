-- The rule of the event queue: what was taken and then what the queue holds is, for each feeder,
-- what it fed, numbered from 1. A feeder that isn't yet made has fed nothing, and what one that
-- ended has fed stays.
use Rattle.std.specs.Prelude.{◌≡◌, ℕ, suc, ◌<◌, ◌≤◌, true, false, List, [], ◌∷◌, ◌++◌, filter, length}
use Rattle.std.specs.List.{AllByRecursion}
use mathlib.Core.Option.{Option, some, none}
use lib.ListN.{get_elem?}
use Rattle.kp_types.specs.declared.event.Event.{Event}
use Rattle.kp_history_defs.specs.declared.fed.Fed.{Fed}
use Rattle.kp_history_defs.specs.Runs.{is_of_stream, numbered}
use Rattle.kp_feed.specs.declared.rule.Known.{Known}
use Rattle.kp_feed.specs.declared.rule.Ended.{Ended}

-- ---- What events are

-- those of a feeder among these events are what it fed, in order and each once, numbered from 1
abbrev pub Delivers : List Fed → ℕ → List Event → Type 0
Delivers events feeder fed = filter (is_of_stream feeder) events ≡ numbered feeder 0 fed

-- these events are, for each feeder that ended, what it fed, and there are none of feeders that
-- were not made
abbrev pub AreWhole : List Fed → List Ended → ℕ → Type 0
AreWhole events ended made =
    AllByRecursion (λ e. Delivers events e.feeder e.fed) ended
    × ((p : ℕ) → made ≤ p → Delivers events p [])

-- the event is the next of its feeder, which was made
abbrev pub IsNext : List Fed → ℕ → Fed → Type 0
IsNext taken made f =
    (f.number ≡ suc (length (filter (is_of_stream f.feeder) taken))) × (f.feeder < made)

-- ---- The rule

-- a feeder's pass is the only one of its number, and knows what the feeder has fed
abbrev pub FitsFeeder : (ℕ → Option ℕ) → (ℕ → List Event) → ℕ → Known → Type 0
FitsFeeder pass fed at v = v.feeds ≡ true → (pass v.feeder ≡ some at) × (v.fed ≡ fed v.feeder)

-- a feeder that ended has no pass any more, and this is what it has fed
abbrev pub FitsEnded : (ℕ → Option ℕ) → (ℕ → List Event) → ℕ → Ended → Type 0
FitsEnded pass fed made e = (pass e.feeder ≡ none) × (e.fed ≡ fed e.feeder) × (e.feeder < made)

-- The first pass is the taker's. It knows what was taken, that feeders which it hasn't made have
-- no pass and have fed nothing, and what those that ended have fed.
abbrev pub FitsTaker : (ℕ → Option ℕ) → (ℕ → List Event) → List Fed → ℕ → Known → Type 0
FitsTaker pass fed taken at v =
    at ≡ 0
    → (v.taken ≡ taken)
    × ((p : ℕ) → v.made ≤ p → (pass p ≡ none) × (fed p ≡ []))
    × AllByRecursion (FitsEnded pass fed v.made) v.ended

-- what is known in a view fits both
abbrev pub Fits : (ℕ → Option ℕ) → (ℕ → List Event) → List Fed → ℕ → Known → Type 0
Fits pass fed taken at v = FitsFeeder pass fed at v × FitsTaker pass fed taken at v

-- the pass of each feeder, what each has fed, and what was taken
abbrev pub Kept : List Fed → List Known → Type 0
Kept items views =
    (pass : ℕ → Option ℕ) × (fed : ℕ → List Event) × (taken : List Fed)
    × ((p : ℕ) → Delivers (taken ++ items) p (fed p))
    × ((at : ℕ) (v : Known) → get_elem? views at ≡ some v → Fits pass fed taken at v)

-- ---- Steps

-- before any step, and after a feeder's pass has ended
abbrev pub at_first : Known
at_first = record { feeds = false; feeder = 0; fed = []; taken = []; made = 0; ended = [] }

-- the taker makes a feeder, which has the next number and has fed nothing
abbrev pub made_one : Known → Known
made_one v = record v { made = suc v.made }

-- the feeder that is made
abbrev pub newcomer : Known → Known
newcomer v = record at_first { feeds = true; feeder = v.made }

-- the taker ends a feeder
abbrev pub ended_one : Known → Known → Known
ended_one v w = record v { ended = v.ended ++ record { feeder = w.feeder; fed = w.fed } ∷ [] }

-- a feeder feeds the event
abbrev pub Feeds : Known → Fed → Known → Type 0
Feeds v f w = w ≡ record v { fed = v.fed ++ f.event ∷ [] }

-- the taker takes the event
abbrev pub Takes : Known → Fed → Known → Type 0
Takes v f w = (w ≡ record v { taken = v.taken ++ f ∷ [] }) × IsNext v.taken v.made f

-- what was taken and these items are whole
abbrev pub Learned : Known → List Fed → Type 0
Learned v items = AreWhole (v.taken ++ items) v.ended v.made
