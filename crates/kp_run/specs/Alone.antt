-- What a run by one thread comes to.
use Rattle.std.specs.Prelude.{Option, Some, None}
use Rattle.kp_words.specs.declared.mode.Mode.{Mode as Asked}
use Rattle.kp_words.specs.declared.mode.Mode.TheVariants as mode
use Rattle.kp_run.specs.declared.program.Alone.{Alone}
use Rattle.kp_run.specs.declared.program.Alone.TheVariants.{Ran, Live, Replay}
use Rattle.kp_run.specs.declared.status.Status.{Status}

-- how it ended
abbrev pub status_of : Alone → Option Status
status_of (Ran status) = Some status
status_of Live = None
status_of (Replay workers) = None

-- what the words ask for where it did nothing
abbrev pub left_by : Alone → Option Asked
left_by (Ran status) = None
left_by Live = Some mode.Live
left_by (Replay workers) = Some (mode.Replay workers)
