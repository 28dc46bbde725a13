-- What a replay shows, and what a line does to it.
use Rattle.std.specs.Prelude.{◌≡◌, ◌-◌, ◌⊎◌, ◌++◌, ℕ, List, Result, Ok, Err}
use Rattle.kp_base.specs.declared.config.Config.{Config}
use Rattle.kp_base.specs.declared.memory.NoMemory.{NoMemory}
use Rattle.kp_object_defs.specs.Objects.{Objects}
use Rattle.kp_history_defs.specs.History.{objects_covered}
use Rattle.kp_workers.specs.Texts.{BeginsWith}
use Rattle.kp_run_defs.specs.ReplayText.{Standing, Line, objects_in, syncs_in}
use Rattle.kp_mode_defs.specs.Mode.{LineIn, Place}
pub use Rattle.kp_line_laws.specs.Lines.{HasNoEvents, IsReady, MaySay, MayTake}
use Rattle.kp_replay.specs.declared.replay.Replay.{Replay}

-- where a replay stands: what its plane holds, and what is kept beside it
abbrev pub standing_of : Replay → Standing
standing_of r = record {
  fresh = r.fresh;
  config = r.plane.config;
  events = r.plane.events;
  counts = r.plane.counts;
  lists = r.lists;
  refused = r.refused;
}

-- the program took a line: it stands where the line leads, and the text grew by what the line prints
pub record Takes (line : Line) (new : Standing) (before now : List ℕ) : Type 0 where
  pub stands : new ≡ line.next
  pub text : now ≡ before ++ line.text

-- No event and no record is lost, and the configuration stays. There may be more of them.
abbrev pub LosesNothing : Standing → Standing → Type 0
LosesNothing before after =
    (after.config ≡ before.config) × BeginsWith after.events before.events
    × BeginsWith after.counts before.counts

-- What a call did by its result: done, it took the line; without memory nothing is lost, and the text begins with what
-- stood there.
abbrev pub Took : Result (Unit {0}) NoMemory → Line → Standing → Standing → List ℕ → List ℕ → Type 0
Took (Ok done) line old new before now = Takes line new before now
Took (Err refused) line old new before now = LosesNothing old new × BeginsWith now before

-- ---- In a mode

-- where a replay stands with a state
abbrev pub place_of : {S : Type 0} → Replay → S → Place S
place_of r state = record { standing = standing_of r; state = state }

-- what a mode keeps stands for a place, with the objects that the last sync covers
abbrev pub Follows : {S : Type 0} → (Config → Objects → S → Type 0) → Place S → Type 0
Follows stands at = stands at.standing.config (objects_in at.standing) at.state

-- the program took a line in a mode: what the mode keeps stands for where it leads, too
pub record TakesIn {S : Type 0} (kept : Config → Objects → S → Type 0) (line : LineIn S) (new : Standing)
    (before now : List ℕ) : Type 0 where
  pub stands : new ≡ line.next.standing
  pub text : now ≡ before ++ line.text
  pub follows : Follows kept line.next

-- What a mode keeps is as before, or each part of it is of the objects that the last sync covers, or of those that it
-- covers and others that the one before it does.
abbrev pub StaysOrBetween : {Kept : Type 0} → (Kept → Config → Objects → Objects → Type 0) → Kept → Kept → Standing
    → Type 0
StaysOrBetween between old new s =
    (new ≡ old) ⊎ between new s.config (objects_in s) (objects_in s)
    ⊎ between new s.config (objects_covered s.events s.counts (syncs_in s - 1)) (objects_in s)

-- What a call did in a mode by its result, as `Took` says of a replay. Without memory this holds of what is kept.
abbrev pub TookIn : {S : Type 0} → Result (Unit {0}) NoMemory → (Config → Objects → S → Type 0) → Type 0 → LineIn S
    → Standing → Standing → List ℕ → List ℕ → Type 0
TookIn (Ok done) stands partly line old new before now = TakesIn stands line new before now
TookIn (Err refused) stands partly line old new before now =
    LosesNothing old new × BeginsWith now before × partly
