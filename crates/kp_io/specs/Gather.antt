-- The search for the end of a line, inside a reader.
use Rattle.std.specs.Prelude.{◌≡◌, ℕ, ◌+◌, ◌≤◌, ◌||◌, nat_lt, Bool, true, false, cond, List, [], ◌∷◌, ◌++◌, length, Option, None, Some, option_map, Result, Ok, Err}
use Rattle.std.specs.List.{list_any}
use Rattle.kp_io.specs.Lines.{is_line_feed, given_lines}
use Rattle.kp_io.specs.Reader.{given_behind}
use Rattle.kp_io.specs.Told.{FromTold}
use Rattle.kp_io.specs.declared.next_line.TheConstants.{LINE_LIMIT}
use Rattle.kp_io.specs.declared.next_line.LineFault.{LineFault}

-- what was gathered of a line: its bytes, or none where they are more than a line may have
pub record LinePart : Type 0 where
  pub bytes : List ℕ
  pub skipping : Bool

-- nothing of a line
abbrev pub no_part : LinePart
no_part = record { bytes = []; skipping = false }

-- a line that is too long
abbrev pub long_part : LinePart
long_part = record { bytes = []; skipping = true }

-- a part and more bytes of its line
abbrev pub longer : LinePart → List ℕ → LinePart
longer part more =
    cond (part.skipping || nat_lt LINE_LIMIT (length (part.bytes ++ more)))
    long_part (record { bytes = part.bytes ++ more; skipping = false })

-- a part of one line, of which no byte is kept where it is too long
pub record IsPart (part : LinePart) : Type 0 where
  pub feedless : list_any is_line_feed part.bytes ≡ false
  pub short : length part.bytes ≤ LINE_LIMIT
  pub dropped : part.skipping ≡ true → part.bytes ≡ []

-- how many bytes a part stands for at least
abbrev pub part_size : LinePart → ℕ
part_size part = cond part.skipping 1 (length part.bytes)

-- what a reader gives of a line that was gathered
abbrev pub given_part : LinePart → Option (List ℕ)
given_part part = cond part.skipping None (Some part.bytes)

-- what a reader gives of a part and a text behind it
abbrev pub given_from : LinePart → List ℕ → List (Option (List ℕ))
given_from part text = given_behind part.skipping (part.bytes ++ text)

-- the same, where the source tells what it has left behind a chunk
abbrev pub told_from : LinePart → List ℕ → Option (List ℕ) → Option (List (Option (List ℕ)))
told_from part chunk left = option_map (λ bytes. given_from part (chunk ++ bytes)) left

-- what is to come begins with the line that was gathered, or is that of the gathered bytes alone, or of all
-- that is held and left
abbrev pub Gathers : Result Bool LineFault → LinePart → List ℕ → Option (List (Option (List ℕ))) → Option (List ℕ) → Type 0
Gathers (Ok true) part chunk before left =
    FromTold (λ old rest. old ≡ given_part part ∷ given_lines (chunk ++ rest)) before left
Gathers (Ok false) part chunk before left = FromTold (λ old rest. old ≡ given_from part []) before left
Gathers (Err fault) part chunk before left =
    FromTold (λ old rest. old ≡ given_from part (chunk ++ rest)) before left

-- how many line feeds were taken away
abbrev pub feeds_of : Result Bool LineFault → ℕ
feeds_of (Ok true) = 1
feeds_of (Ok false) = 0
feeds_of (Err fault) = 0

-- a text loses the bytes that were taken between two counts of them, of which no line feed stands before a chunk that
-- ends them
pub record LosesRead (before now : ℕ) (chunk xs ys : List ℕ) : Type 0 where
  pub bytes : List ℕ
  pub front : xs ≡ bytes ++ ys
  pub size : before + length bytes ≡ now
  pub whole : list_any is_line_feed bytes ≡ true → list_any is_line_feed chunk ≡ true
