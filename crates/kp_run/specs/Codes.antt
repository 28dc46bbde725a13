-- The exit statuses of the program (this project's choice).
use Rattle.std.specs.Prelude.{ℕ}
use Rattle.kp_run.specs.declared.status.Status.{Status}
use Rattle.kp_run.specs.declared.status.Status.TheVariants.{Done, NoMemory, Usage, LinesRefused, ReadFault, WriteFault, InputTooLong}

-- the exit status of an outcome
abbrev pub code_of : Status → ℕ
code_of Done = 0
code_of (NoMemory refused) = 1
code_of Usage = 2
code_of LinesRefused = 3
code_of ReadFault = 4
code_of WriteFault = 5
code_of InputTooLong = 6
