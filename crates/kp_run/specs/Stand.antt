-- How a replay stands between its lines, and what a step of it comes to.
use Rattle.std.specs.Prelude.{◌≡◌, ◌+◌, ◌≤◌, ℕ, Bool, false, true, List, [], length, Option, Some, None, Result, Ok, Err, IfErr, IfSome, OnErr, OnOk, ⊤}
use Rattle.std.specs.Io.KnownBytes.{IsAtEnd}
use Rattle.kp_io.specs.Ends.{Input, Output}
use Rattle.kp_io.specs.Faults.{Rose}
use Rattle.kp_io.specs.Reader.{ReaderState, IsBounded, LosesTaken, feeds_up_to, to_come}
use Rattle.kp_io.specs.Lines.{lines_of}
use Rattle.kp_io.specs.Told.{FromTold, Grows}
use Rattle.kp_io.specs.declared.next_line.TheConstants.{INPUT_LIMIT, LINE_LIMIT}
use Rattle.kp_run_defs.specs.ReplayText.{Standing}
use Rattle.kp_mode_defs.specs.Mode.{LineIn, Mode, Place, replay_in}
use Rattle.kp_run.specs.Given.{place}
use Rattle.kp_run.specs.Outcome.{Come, EndsFront, GrowsFront, IsStatusOr, IsSure, IsTooLong, WritesAll, WritesRead}
use Rattle.kp_run.specs.Texts.{Texts, by_lines}
use Rattle.kp_run.specs.declared.ending.Stop.{Stop}
use Rattle.kp_run.specs.declared.ending.Stop.TheVariants.{NoMemory, Write, Read, InputTooLong}
use Rattle.kp_run.specs.declared.status.Status.{Status}

-- ---- Between two lines

-- as many lines came as line feeds no longer come
abbrev pub CountsFeeds : ReaderState → Option (List ℕ) → Option (List ℕ) → Type 0
CountsFeeds reader first left =
    FromTold (λ xs ys. feeds_up_to INPUT_LIMIT [] 0 xs
    ≡ feeds_up_to INPUT_LIMIT reader.held reader.taken ys + reader.number) first left

-- Where a replay stands that began with such ends: it has come as far as the lines that were handed
-- out, and nothing has failed.
pub record Stands {S : Type 0} (m : Mode S) (follows : Place S → Type 0) (from : Input) (to : Output) (s : Standing) (reader : ReaderState) (input : Input) (output : Output) : Type 0 where
  pub come : Come m follows s reader.number from.left (to_come reader input.left) to.written output.written
  pub taken : FromTold (LosesTaken 0 reader.taken) from.left input.left
  pub feeds : reader.ended ≡ false → CountsFeeds reader from.left input.left
  pub ended : reader.ended ≡ true → IsAtEnd input.left
  pub room : reader.room ≤ LINE_LIMIT
  pub sure : IsSure from to input output

-- ---- Stops

-- Why an output stopped: a write has failed, where that is told, and where memory was wanted, none has.
abbrev pub StopsOutput : Stop → ℕ → ℕ → Type 0
StopsOutput (NoMemory refused) before now = now ≡ before
StopsOutput Write before now = Rose before now
StopsOutput Read before now = ⊥
StopsOutput InputTooLong before now = ⊥

-- a text was written whole, or what stopped the output came behind a front of it
pub record WritesOrStops {T : Type 0} (result : Result T Stop) (text : List ℕ) (to output : Output)
    : Type 0 where
  pub whole : OnOk result (Grows to.written output.written text)
  pub front : OnErr result (GrowsFront to.written output.written text)
  pub sure : OnOk result (output.faults ≡ to.faults)
  pub cause : IfErr result (λ stop. StopsOutput stop to.faults output.faults)

-- a line was taken in a mode, and its text was written, or a front of it
pub record TakesOrStops {S T : Type 0} (result : Result T Stop) (follows : Place S → Type 0) (line : LineIn S)
    (new : Standing) (to output : Output) : Type 0 where
  pub stands : OnOk result (new ≡ line.next.standing)
  pub kept : OnOk result (follows line.next)
  pub writes : WritesOrStops result line.text to output

-- nothing was added to what was written, and only a write stops that
pub record HandsOn {T : Type 0} (result : Result T Stop) (to output : Output) : Type 0 where
  pub kept : Grows to.written output.written []
  pub sure : OnOk result (output.faults ≡ to.faults)
  pub cause : IfErr result (λ stop. (stop ≡ Write) × Rose to.faults output.faults)

-- Nothing was added to what was written at last. The status is the one given, where this holds and
-- no write failed, or a fault of writing.
pub record Closes (result given : Status) (P : Type 0) (to output : Output) : Type 0 where
  pub kept : Grows to.written output.written []
  pub cases : IsStatusOr result given (P × (output.faults ≡ to.faults)) (Rose to.faults output.faults)

-- The text of all lines of an input was written, and the replay is where they lead. The input is
-- no longer than may be read.
pub record WritesLines {S : Type 0} (m : Mode S) (at : Place S) (text : List ℕ) (written now : Option (List ℕ))
    : Type 0 where
  pub grown : Grows written now (replay_in m (lines_of text)).text
  pub stands : at ≡ (replay_in m (lines_of text)).at
  pub short : length text ≤ INPUT_LIMIT

-- the input came to its end, and nothing failed
pub record ComesToEnd {S : Type 0} (m : Mode S) (follows : Place S → Type 0) (s : Standing) (from : Input) (to : Output) (input : Input) (output : Output) : Type 0 where
  pub state : S
  pub kept : follows (place s state)
  pub all : IfSome from.left (λ text. WritesLines m (place s state) text to.written output.written)
  pub sure : IsSure from to input output
  pub ended : IsAtEnd input.left

-- its whole text was written, this is whether a line of it was refused, and nothing failed
abbrev pub EndsWell : Texts → Bool → Input → Output → Input → Output → Type 0
EndsWell t refused from to input output =
    IfSome from.left (λ text. WritesAll t refused text to.written output.written)
    × IsSure from to input output × IsAtEnd input.left

-- What holds where a replay was stopped: a front of the text was written, and where reading stopped it,
-- exactly the text of what was read. What is told has failed, and nothing before it.
abbrev pub Stops : Texts → Stop → Input → Output → Input → Output → Type 0
Stops t (NoMemory wanted) from to input output =
    EndsFront t from to output × IsSure from to input output
Stops t Write from to input output = EndsFront t from to output × Rose to.faults output.faults
Stops t Read from to input output =
    EndsFront t from to output × Rose from.faults input.faults × (output.faults ≡ to.faults)
    × WritesRead t.progress from.left input.left to.written output.written
Stops t InputTooLong from to input output =
    EndsFront t from to output × IsTooLong from.left × IsSure from to input output
    × WritesRead t.progress from.left input.left to.written output.written

-- one of the two
abbrev pub EndsOrStops :
    {T : Type 0} → Texts → Bool → Result T Stop → Input → Output → Input → Output → Type 0
EndsOrStops t refused (Ok done) from to input output = EndsWell t refused from to input output
EndsOrStops t refused (Err stop) from to input output = Stops t stop from to input output

-- the lines of the input came to their end, or the replay was stopped
abbrev pub ComesOrStops :
    {S T : Type 0} → Mode S → (Place S → Type 0) → Standing → Result T Stop → Input → Output → Input → Output → Type 0
ComesOrStops m follows s (Ok done) from to input output = ComesToEnd m follows s from to input output
ComesOrStops m follows s (Err stop) from to input output = Stops (by_lines m) stop from to input output

-- ---- Steps

-- the replay goes on, or was stopped
abbrev pub GoesOn : {S T : Type 0} → Mode S → (Place S → Type 0) → Input → Output → Result T Stop → Standing → ReaderState → Input → Output → Type 0
GoesOn m follows from to (Ok done) s reader input output = Stands m follows from to s reader input output
GoesOn m follows from to (Err stop) s reader input output = Stops (by_lines m) stop from to input output

-- the next line was taken, or the input came to its end, or the replay was stopped
abbrev pub TakesStep : {S : Type 0} → Mode S → (Place S → Type 0) → Input → Output → Result (Option ℕ) Stop → Standing → ReaderState → Input → Output → Type 0
TakesStep m follows from to (Ok (Some number)) s reader input output = Stands m follows from to s reader input output
TakesStep m follows from to (Ok None) s reader input output = ComesToEnd m follows s from to input output
TakesStep m follows from to (Err stop) s reader input output = Stops (by_lines m) stop from to input output

-- a line that was taken has the next number
abbrev pub CountsLine : Option ℕ → ReaderState → ReaderState → Type 0
CountsLine None old new = ⊤
CountsLine (Some number) old new =
    (number ≡ old.number + 1) × (new.number ≡ number) × IsBounded new
