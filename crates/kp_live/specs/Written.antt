-- What a live run has written.
use Rattle.std.specs.Prelude.{◌≡◌, ◌≤◌, ◌⊎◌, ℕ, Bool, List, [], length, take, Result, Ok, Err, IfOk, IfErr, OnOk, OnErr, IsErrOf, ⊤}
use Rattle.kp_base.specs.declared.memory.NoMemory as memory
use Rattle.kp_io.specs.Ends.{Output}
use Rattle.kp_io.specs.Faults.{Rose}
use Rattle.kp_io.specs.Lines.{lines_of}
use Rattle.kp_io.specs.Told.{Grows}
use Rattle.kp_io.specs.declared.next_line.TheConstants.{INPUT_LIMIT}
use Rattle.kp_run_defs.specs.LiveLines.{Reading, reading_of}
use Rattle.kp_run_defs.specs.CountedRuns.{IsCountedRun}
use Rattle.kp_run_defs.specs.LegalRuns.{LiveRun}
use Rattle.kp_run_defs.specs.LiveText.{live_text, is_refused_run}
use Rattle.kp_live.specs.declared.fault.LiveFault.{LiveFault}
use Rattle.kp_live.specs.declared.fault.LiveFault.TheVariants.{InputTooLong, NoMemory, ReadFault, WriteFault}

-- a front of a text was written
abbrev pub GrowsFront : Output → Output → List ℕ → Type 0
GrowsFront before now text = (n : ℕ) × Grows before.written now.written (take n text)

-- what may keep a text from being written whole
abbrev pub IsOfPrinting : LiveFault → Type 0
IsOfPrinting WriteFault = ⊤
IsOfPrinting (NoMemory refused) = ⊤
IsOfPrinting ReadFault = ⊥
IsOfPrinting InputTooLong = ⊥

-- A text was written whole, or a front of it, by a call that only wants memory or fails to write.
-- A fault of writing is told only where the count of them rose; without one it stays.
pub record Prints {T : Type 0} (result : Result T LiveFault) (text : List ℕ)
    (before now : Output) : Type 0 where
  pub whole : OnOk result (Grows before.written now.written text)
  pub front : OnErr result (GrowsFront before now text)
  pub later : before.faults ≤ now.faults
  pub sure : OnOk result (now.faults ≡ before.faults)
  pub failed : IsErrOf result WriteFault → Rose before.faults now.faults
  pub wanted : (refused : memory.NoMemory) → IsErrOf result (NoMemory refused)
      → now.faults ≡ before.faults
  pub other : IfErr result IsOfPrinting

-- a flag for what was written
abbrev pub said_of : Result (Unit {0}) LiveFault → Bool → Result Bool LiveFault
said_of (Ok u) b = Ok b
said_of (Err fault) b = Err fault

-- a run of this reading that is legal by counts
pub record RunsReading (reading : Reading) (run : LiveRun) : Type 0 where
  pub reads : run.reading ≡ reading
  pub counted : IsCountedRun run

-- The whole text of a run of a reading that is legal by counts was written, and this is whether a
-- line or the sync that ends it was refused.
pub record WritesRun (refused : Bool) (reading : Reading) (before now : Output) : Type 0 where
  pub run : LiveRun
  pub runs : RunsReading reading run
  pub grown : Grows before.written now.written (live_text run)
  pub told : refused ≡ is_refused_run run

-- nothing was written, or a front of the text of such a run
abbrev pub WritesFront : Reading → Output → Output → Type 0
WritesFront reading before now =
    Grows before.written now.written []
    ⊎ ((run : LiveRun) × RunsReading reading run × GrowsFront before now (live_text run))

-- How a run of what was read ends, where that is some input: its whole text was written, or nothing
-- or a front of it. A fault of writing is told only where the count of them rose; without one it
-- stays. Else only memory was wanted.
pub record EndsRun (result : Result Bool LiveFault) (reading : Reading) (before now : Output)
    : Type 0 where
  pub whole : IfOk result (λ refused. (input : List (List ℕ)) → reading ≡ reading_of input
      → WritesRun refused reading before now)
  pub front : OnErr result ((input : List (List ℕ)) → reading ≡ reading_of input
      → WritesFront reading before now)
  pub later : before.faults ≤ now.faults
  pub sure : OnOk result (now.faults ≡ before.faults)
  pub failed : IsErrOf result WriteFault → Rose before.faults now.faults
  pub wanted : (refused : memory.NoMemory) → IsErrOf result (NoMemory refused)
      → now.faults ≡ before.faults
  pub other : IfErr result IsOfPrinting

-- the text of a run of the input that is legal by counts was written, where that is told, which is
-- no longer than may be read
pub record WritesInput (refused : Bool) (text : List ℕ) (before now : Output) : Type 0 where
  pub writes : WritesRun refused (reading_of (lines_of text)) before now
  pub short : length text ≤ INPUT_LIMIT
