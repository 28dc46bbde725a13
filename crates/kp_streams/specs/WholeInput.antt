-- How far the input of a live run was read (this project's choice).
use Rattle.std.specs.Prelude.{◌≡◌, ◌+◌, ◌≤◌, ◌<◌, ℕ, true, List, length, Option, IfSome, Result, IsErrOf}
use Rattle.std.specs.Io.KnownBytes.{IsAtEnd}
use Rattle.kp_io.specs.Faults.{Rose}
use Rattle.kp_io.specs.Lines.{lines_of}
use Rattle.kp_io.specs.Reader.{ReaderState, HandedOut, LosesTaken, to_come}
use Rattle.kp_io.specs.Told.{FromTold}
use Rattle.kp_io.specs.declared.next_line.TheConstants.{INPUT_LIMIT}
use Rattle.kp_run_defs.specs.LiveLines.{Reading, reading_of}
use Rattle.kp_streams.specs.Streams.{reading_given}
use Rattle.kp_streams.specs.declared.input.InputFault.{InputFault}
use Rattle.kp_streams.specs.declared.input.InputFault.TheVariants.{ReadFault}

-- all lines of a text were read, which has no more bytes than it may
pub record ReadsWhole (reading : Reading) (text : List ℕ) : Type 0 where
  pub reads : reading ≡ reading_of (lines_of text)
  pub short : length text ≤ INPUT_LIMIT

-- an input has more bytes than it may, where that is told
abbrev pub IsTooLong : Option (List ℕ) → Type 0
IsTooLong left = IfSome left (λ text. INPUT_LIMIT < length text)

-- bytes were taken from the front of an input, one more at most than it may have
abbrev pub LosesFront : Option (List ℕ) → Option (List ℕ) → Type 0
LosesFront before after =
    (taken : ℕ) × (taken ≤ INPUT_LIMIT + 1) × FromTold (LosesTaken 0 taken) before after

-- The count of a source's faults did not fall, a fault of reading is told only where it rose, and
-- any other answer leaves it as it was.
pub record HasInputCause {T : Type 0} (result : Result T InputFault) (before now : ℕ) : Type 0 where
  pub later : before ≤ now
  pub failed : IsErrOf result ReadFault → Rose before now
  pub kept : ¬ IsErrOf result ReadFault → now ≡ before

-- This was read of the first lines of an input, and its rest is what the reader holds and what is
-- left: as many lines were read as the reader has given, and at its end none is left.
pub record HasRead (reading : Reading) (reader : ReaderState) (input left : Option (List ℕ))
    : Type 0 where
  pub given : List (Option (List ℕ))
  pub handed : HandedOut given input (to_come reader left)
  pub stands : reading ≡ reading_given given
  pub counted : reading.number ≡ reader.number
  pub taken : FromTold (LosesTaken 0 reader.taken) input left
  pub ended : reader.ended ≡ true → IsAtEnd left
