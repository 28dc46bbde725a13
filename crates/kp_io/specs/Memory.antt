-- Sources and sinks in memory (this project's choice), which tests hand to the program: they cut
-- what they give and take into pieces, and fail where they are told to.
use Rattle.std.specs.Prelude.{◌≡◌, ℕ, ◌+◌, ◌≤◌, ◌↔◌, Bool, true, if◌then◌else◌, List, [], length, Option, None, Some, Result, is_err, IsErr, Contains}
use Rattle.kp_io.specs.Ends.{Input, Output}
use Rattle.kp_io.specs.Faults.{one_more}

-- the calls, from 1, that are to fail, and how many there were and how many of them failed
pub record FaultPlan : Type 0 where
  pub fails : List ℕ
  pub calls : ℕ
  pub faults : ℕ

-- the plan that no call has met yet
abbrev pub fresh_plan : List ℕ → FaultPlan
fresh_plan fails = record { fails = fails; calls = 0; faults = 0 }

-- the call is counted, and fails exactly where it is one of those that are to fail
pub record Meets {T E : Type 0} (result : Result T E) (old new : FaultPlan) : Type 0 where
  pub same : new.fails ≡ old.fails
  pub called : new.calls ≡ one_more old.calls
  pub failed : IsErr result ↔ Contains old.fails new.calls
  pub counted : new.faults ≡ (if is_err result then one_more old.faults else old.faults)

-- a source: the bytes that are left, the most that one read gives, and how many reads there were
pub record SourceParts : Type 0 where
  pub left : List ℕ
  pub piece : ℕ
  pub asked : ℕ

-- a sink: the bytes that it keeps, whether they are all that was written, how many of them were
-- flushed, the most that one write takes, and for how many bytes it had memory from the start
pub record SinkParts : Type 0 where
  pub kept : List ℕ
  pub complete : Bool
  pub flushed : ℕ
  pub piece : ℕ
  pub room : ℕ

-- what was written to the sink, unless memory was refused for some of it
abbrev pub told_bytes : SinkParts → Option (List ℕ)
told_bytes sink = if sink.complete then Some sink.kept else None

-- how much of it was flushed
abbrev pub told_flushed : SinkParts → Option ℕ
told_flushed sink = if sink.complete then Some sink.flushed else None

-- what a source shows that has these bytes left
abbrev pub shown_left : List ℕ → ℕ → ℕ → Input
shown_left left faults asked = record { left = Some left; faults = faults; asked = asked }

-- what a sink shows, of which so many calls have failed; it keeps nothing back
abbrev pub shown_sink : SinkParts → ℕ → Output
shown_sink sink faults =
    record { written = told_bytes sink; flushed = told_flushed sink; kept_back = 0; faults = faults }

-- a sink that nothing was written to
abbrev pub fresh_sink : ℕ → ℕ → SinkParts
fresh_sink piece room = record { kept = []; complete = true; flushed = 0; piece = piece; room = room }

-- the sink keeps telling where so many bytes more are within its room
abbrev pub KeepsTelling : SinkParts → SinkParts → ℕ → Type 0
KeepsTelling old new more = length old.kept + more ≤ old.room → new.complete ≡ old.complete

-- a source that fails by plan
pub record PlannedSource : Type 0 where
  pub source : SourceParts
  pub plan : FaultPlan

-- a sink that fails by plan
pub record PlannedSink : Type 0 where
  pub sink : SinkParts
  pub plan : FaultPlan
