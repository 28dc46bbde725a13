-- A reader of lines, over a source of bytes (this project's choice).
use Rattle.std.specs.Prelude.{◌≡◌, ℕ, ◌+◌, ◌-◌, ◌≤◌, ◌<◌, ◌↔◌, ◌||◌, nat_lt, Bool, true, false, if◌then◌else◌, List, [], ◌∷◌, ◌++◌, length, map, take, drop, count_by, Option, None, Some, option_map, Result, Ok, Err, IsErrOf}
use Rattle.std.specs.List.{list_any, after_first}
use Rattle.kp_io.specs.Ends.{Input}
use Rattle.kp_io.specs.Faults.{Rose}
use Rattle.kp_io.specs.Lines.{is_line_feed, ended_lines, given_of, given_lines}
use Rattle.kp_io.specs.Told.{FromTold}
use Rattle.kp_io.specs.declared.chunk.TheConstants.{BUFFER_SIZE}
use Rattle.kp_io.specs.declared.next_line.TheConstants.{INPUT_LIMIT, LINE_LIMIT}
use Rattle.kp_io.specs.declared.next_line.LineFault.{LineFault}
use Rattle.kp_io.specs.declared.next_line.LineFault.TheVariants.{TooLongLine, ReadFault, InputTooLong, NoMemory}
use Rattle.kp_io.specs.declared.next_line.NextLine.{NextLine}
use Rattle.kp_io.specs.declared.next_line.NextLine.TheVariants.{Line, End}

-- ---- Where a reader stands

-- how far a reader has come: the bytes that it took and has not handed out, whether they go on a line that
-- is too long, of which the bytes before were dropped, the last line, where the last answer was one, how many
-- bytes it asks for at most, how many lines and how many bytes there were, and whether the source has ended
pub record ReaderState : Type 0 where
  pub held : List ℕ
  pub skipping : Bool
  pub line : List ℕ
  pub room : ℕ
  pub number : ℕ
  pub taken : ℕ
  pub ended : Bool

-- a reader that has taken nothing
abbrev pub fresh_with : ℕ → ReaderState
fresh_with room =
    record { held = []; skipping = false; line = []; room = room; number = 0; taken = 0; ended = false }

-- the same, with a buffer of the usual size
abbrev pub fresh_reader : ReaderState
fresh_reader = fresh_with BUFFER_SIZE

-- what a reader gives of a text, by whether that goes on a line that is too long
abbrev pub given_behind : Bool → List ℕ → List (Option (List ℕ))
given_behind true text = None ∷ given_lines (after_first is_line_feed text)
given_behind false text = given_lines text

-- what is still to come, where the source tells what it has left: the lines of the bytes that the reader
-- holds and then of those that are left, as they will be given. After the end none is to come.
abbrev pub to_come : ReaderState → Option (List ℕ) → Option (List (Option (List ℕ)))
to_come reader left =
    option_map (λ bytes. if reader.ended then [] else given_behind reader.skipping (reader.held ++ bytes)) left

-- a reader that has passed over so many bytes and lines
abbrev pub passed : ℕ → ℕ → ReaderState → ReaderState
passed bytes lines reader =
    record reader { held = drop bytes reader.held; line = []; number = reader.number + lines }

-- these lines are the first that were to come, and the rest is to come
abbrev pub GivesShort : List (List ℕ) → Option (List (Option (List ℕ))) → Option (List (Option (List ℕ))) → Type 0
GivesShort lines before after = FromTold (λ old new. old ≡ map Some lines ++ new) before after

-- this was given of the first lines of a text, where that is told, and the rest is to come
abbrev pub HandedOut : List (Option (List ℕ)) → Option (List ℕ) → Option (List (Option (List ℕ))) → Type 0
HandedOut given text rest = FromTold (λ xs ys. given_lines xs ≡ given ++ ys) text rest

-- ---- Answers

-- A line is the first that is to come, and so is one that is too long, of which nothing is given. The end
-- comes where none is to come, and any other fault leaves what is to come.
abbrev pub Answers : Result NextLine LineFault → List ℕ → Option (List (Option (List ℕ))) → Option (List (Option (List ℕ))) → Type 0
Answers (Ok (Line number)) line before after = FromTold (λ old new. old ≡ Some line ∷ new) before after
Answers (Ok (End lines)) line before after = FromTold (λ old new. (old ≡ []) × (new ≡ [])) before after
Answers (Err (TooLongLine number)) line before after = FromTold (λ old new. old ≡ None ∷ new) before after
Answers (Err ReadFault) line before after = FromTold (λ old new. new ≡ old) before after
Answers (Err InputTooLong) line before after = FromTold (λ old new. new ≡ old) before after
Answers (Err (NoMemory refused)) line before after = FromTold (λ old new. new ≡ old) before after

-- the number of the line before stays, there is no last line, and the end was not met
abbrev pub Stays : ReaderState → ReaderState → Type 0
Stays old new = (new.number ≡ old.number) × (new.line ≡ []) × (new.ended ≡ false)

-- the lines have numbers from 1, too long ones too, and the end tells the last one; after another answer
-- than a line there is no last line
abbrev pub Counts : Result NextLine LineFault → ReaderState → ReaderState → Type 0
Counts (Ok (Line number)) old new = (number ≡ old.number + 1) × (new.number ≡ number)
Counts (Ok (End lines)) old new =
    (lines ≡ old.number) × (new.number ≡ lines) × (new.line ≡ []) × (new.ended ≡ true)
Counts (Err (TooLongLine number)) old new =
    (number ≡ old.number + 1) × (new.number ≡ number) × (new.line ≡ [])
Counts (Err ReadFault) old new = Stays old new
Counts (Err InputTooLong) old new = Stays old new
Counts (Err (NoMemory refused)) old new = Stays old new

-- a line has no line feed, and no more bytes than it may have
pub record IsShortLine (line : List ℕ) : Type 0 where
  pub feedless : list_any is_line_feed line ≡ false
  pub short : length line ≤ LINE_LIMIT

-- the reader answers from what it holds and knows: it holds a whole line, has met the end, or has
-- taken more than the limit
abbrev pub answers_unasked : ReaderState → Bool
answers_unasked reader =
    list_any is_line_feed reader.held || (reader.ended || nat_lt INPUT_LIMIT reader.taken)

-- ---- Memory and input

-- Each line took a byte at least. One byte at most goes past the input limit, a line and what is asked for
-- at a time are held at most, and of a line that is too long only the latter.
pub record IsBounded (reader : ReaderState) : Type 0 where
  pub lines : reader.number ≤ reader.taken
  pub input : reader.taken ≤ INPUT_LIMIT + 1
  pub memory : length reader.held ≤ LINE_LIMIT + reader.room
  pub dropped : reader.skipping ≡ true → length reader.held ≤ reader.room

-- a text loses the bytes that were taken between two counts of them
pub record LosesTaken (before now : ℕ) (xs ys : List ℕ) : Type 0 where
  pub bytes : List ℕ
  pub front : xs ≡ bytes ++ ys
  pub size : before + length bytes ≡ now

-- The bytes that were taken are those that are no longer left. More than the input limit is answered
-- as such, exactly where and as long as more was taken.
pub record TakesInput {T : Type 0} (result : Result T LineFault) (old new : ℕ) (before after : Option (List ℕ)) : Type 0 where
  pub more : old ≤ new
  pub all : FromTold (LosesTaken old new) before after
  pub limit : IsErrOf result InputTooLong ↔ (INPUT_LIMIT < new)

-- the text that a reader that took so many bytes holds, and then what is left, up to a limit of the input
abbrev pub up_to : ℕ → List ℕ → ℕ → List ℕ → List ℕ
up_to limit held taken left = take (limit + length held - taken) (held ++ left)

-- how many line feeds are to come up to the limit
abbrev pub feeds_up_to : ℕ → List ℕ → ℕ → List ℕ → ℕ
feeds_up_to limit held taken left = count_by is_line_feed (up_to limit held taken left)

-- until the end, as many line feeds no longer come as lines came
abbrev pub TakesFeeds : ReaderState → ReaderState → Option (List ℕ) → Option (List ℕ) → Type 0
TakesFeeds old new before after =
    FromTold (λ xs ys. feeds_up_to INPUT_LIMIT old.held old.taken xs + old.number
    ≡ feeds_up_to INPUT_LIMIT new.held new.taken ys + new.number) before after

-- no whole line is held of the input up to the limit
abbrev pub HoldsNoLine : List ℕ → ℕ → Type 0
HoldsNoLine held taken = list_any is_line_feed (up_to INPUT_LIMIT held taken []) ≡ false

-- this was given of the lines that ended in the bytes that a text lost, as far as these stand within a limit
pub record GivesEnded (limit : ℕ) (given : List (Option (List ℕ))) (text rest : List ℕ) : Type 0 where
  pub lost : List ℕ
  pub front : text ≡ lost ++ rest
  pub ended : given ≡ map given_of (ended_lines (take limit lost))

-- By a fault of reading or of the input's length all whole lines of what was taken have been handed out.
pub record HandsOutBefore {T : Type 0} (result : Result T LineFault) (held : List ℕ) (taken : ℕ) : Type 0 where
  pub read : IsErrOf result ReadFault → HoldsNoLine held taken
  pub long : IsErrOf result InputTooLong → HoldsNoLine held taken

-- ---- The source

-- The count did not fall, a fault of reading is told only where it rose, and any other answer leaves it as
-- it was.
pub record HasReadCause {T : Type 0} (result : Result T LineFault) (before now : ℕ) : Type 0 where
  pub later : before ≤ now
  pub failed : IsErrOf result ReadFault → Rose before now
  pub kept : ¬ IsErrOf result ReadFault → now ≡ before

-- no line feed is among the bytes that a text loses
pub record LosesNoFeed (xs ys : List ℕ) : Type 0 where
  pub bytes : List ℕ
  pub front : xs ≡ bytes ++ ys
  pub feedless : list_any is_line_feed bytes ≡ false

-- The source is asked only as long as no line feed has come: there is a point, at most one read before the
-- end of the call, up to which none came.
pub record AsksUntilFeed {S : Type 0} (input : S → Input) (old new : S) : Type 0 where
  pub last : S
  pub once : (input new).asked ≤ (input last).asked + 1
  pub none : FromTold LosesNoFeed (input old).left (input last).left
