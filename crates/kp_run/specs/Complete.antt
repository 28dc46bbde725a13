-- How a run ends that nothing hinders.
use Rattle.std.specs.Prelude.{◌≡◌, ◌⊎◌, Some}
use Rattle.kp_base.specs.declared.memory.NoMemory.{NoMemory as Want}
use Rattle.kp_io.specs.Ends.{Input, Output}
use Rattle.kp_io.specs.Faults.{Rose}
use Rattle.kp_words.specs.declared.mode.Mode.{Mode}
use Rattle.kp_run.specs.Outcome.{IsTooLong, Runs}
use Rattle.kp_run.specs.declared.status.Status.{Status}
use Rattle.kp_run.specs.declared.status.Status.TheVariants.{Done, NoMemory, LinesRefused}

-- all was done, or a line was refused, or memory was wanted
abbrev pub EndsByLines : Status → Type 0
EndsByLines status =
    (status ≡ Done) ⊎ (status ≡ LinesRefused) ⊎ ((refused : Want) × (status ≡ NoMemory refused))

-- no read, write or flush has failed, and the input isn't longer than the limit
pub record IsUnhindered (from : Input) (to : Output) (input : Input) (output : Output) : Type 0 where
  pub read : Rose from.faults input.faults → ⊥
  pub written : Rose to.faults output.faults → ⊥
  pub short : IsTooLong from.left → ⊥

-- Where the words ask for something, a run that nothing hinders ends by its lines. What is written
-- then, and that all of it is, its end says.
abbrev pub UnhinderedRunsEndByLines : Type 0
UnhinderedRunsEndByLines =
    (mode : Mode) (status : Status) (from : Input) (to : Output) (input : Input) (output : Output)
    → Runs (Some mode) status from to input output → IsUnhindered from to input output
    → EndsByLines status
