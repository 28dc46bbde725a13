-- What a run has written, and how it ends.
use Rattle.std.specs.Prelude.{◌≡◌, ◌<◌, ◌≤◌, ◌++◌, ℕ, Bool, true, false, List, [], length, nat_lt, take, Option, Some, None, IfSome, ◌⊎◌}
use Rattle.std.specs.Io.KnownBytes.{IsAtEnd}
use Rattle.kp_io.specs.Ends.{Input, Output}
use Rattle.kp_io.specs.Told.{FromTold, Grows, IsFlushed}
use Rattle.kp_io.specs.Lines.{lines_of, ended_lines}
use Rattle.kp_io.specs.Reader.{HandedOut}
use Rattle.kp_io.specs.Faults.{Rose}
use Rattle.kp_io.specs.declared.next_line.TheConstants.{INPUT_LIMIT}
use Rattle.kp_words.specs.declared.mode.Mode.{Mode as Asked}
use Rattle.kp_words.specs.declared.mode.Mode.TheVariants as mode
use Rattle.kp_text_defs.specs.Printed.{usage_text}
use Rattle.kp_gen_defs.specs.declared.plan.ScriptPlan.{ScriptPlan}
use Rattle.kp_run_defs.specs.LiveLines.{reading_of}
use Rattle.kp_run_defs.specs.ReplayText.{Progress, Standing}
use Rattle.kp_mode_defs.specs.Mode.{LineIn, Mode, Place}
use Rattle.kp_mode_defs.specs.Summing.{gen_of, gen_text}
use Rattle.kp_live.specs.Written as live
use Rattle.kp_modes.specs.Mapping.{mapping}
use Rattle.kp_modes.specs.Modes.{changing, healthy}
use Rattle.kp_modes.specs.Paths.{pathing}
use Rattle.kp_track_mode_defs.specs.TrackMode.{tracking}
use Rattle.kp_run.specs.declared.status.Status.{Status}
use Rattle.kp_run.specs.declared.status.Status.TheVariants.{Done, NoMemory, Usage, LinesRefused, ReadFault, WriteFault, InputTooLong}
use Rattle.kp_replay.specs.Steps.{IsReady}
use Rattle.kp_run.specs.Given.{place, replay_given}
use Rattle.kp_run.specs.Texts.{Texts, in_mode, replayed}

-- ---- On the way

-- How far the program has come in a mode: the lines that were given, where it stands after them, ready for the next
-- one, with the state that what the mode keeps stands for, and what it has written.
pub record Come {S : Type 0} (m : Mode S) (follows : Place S → Type 0) (s : Standing) (number : ℕ) (input : Option (List ℕ)) (rest : Option (List (Option (List ℕ)))) (written now : Option (List ℕ)) : Type 0 where
  pub given : List (Option (List ℕ))
  pub handed : HandedOut given input rest
  pub state : S
  pub stands : place s state ≡ (replay_given m given).at
  pub kept : follows (place s state)
  pub ready : IsReady s
  pub grown : Grows written now (replay_given m given).text
  pub counted : (replay_given m given).number ≡ number

-- the program stands where a line leads, and has written what the line prints
pub record TakesLine {S : Type 0} (follows : Place S → Type 0) (line : LineIn S) (new : Standing) (written now : Option (List ℕ)) : Type 0 where
  pub stands : new ≡ line.next.standing
  pub kept : follows line.next
  pub grown : Grows written now line.text

-- The whole text of an input was written, and this is whether a line of it was refused. The input is no longer
-- than may be read.
pub record WritesAll (t : Texts) (refused : Bool) (text : List ℕ) (written now : Option (List ℕ)) : Type 0 where
  pub grown : Grows written now (t.whole (lines_of text))
  pub told : refused ≡ (t.progress (lines_of text)).at.refused
  pub short : length text ≤ INPUT_LIMIT

-- a front of a text was written
abbrev pub GrowsFront : Option (List ℕ) → Option (List ℕ) → List ℕ → Type 0
GrowsFront written now text = (n : ℕ) × Grows written now (take n text)

-- a front of the whole text of an input, where that is told, was written
abbrev pub WritesFront : Texts → Option (List ℕ) → Option (List ℕ) → Option (List ℕ) → Type 0
WritesFront t left written now = IfSome left (λ text. GrowsFront written now (t.whole (lines_of text)))

-- What was written is the text of the lines that a line feed ends in the bytes that an input lost, as far as these
-- stand within a limit.
pub record WritesEnded (progress : List (List ℕ) → Progress) (limit : ℕ) (written now : Option (List ℕ)) (text rest : List ℕ) : Type 0 where
  pub lost : List ℕ
  pub front : text ≡ lost ++ rest
  pub grown : Grows written now (progress (ended_lines (take limit lost))).text

-- where the input is told, exactly the text of the lines was written that ended in what was read of it
abbrev pub WritesRead : (List (List ℕ) → Progress) → Option (List ℕ) → Option (List ℕ) → Option (List ℕ) → Option (List ℕ) → Type 0
WritesRead progress left end written now = FromTold (WritesEnded progress INPUT_LIMIT written now) left end

-- an input has more bytes than may be read
abbrev pub IsTooLong : Option (List ℕ) → Type 0
IsTooLong left = IfSome left (λ text. INPUT_LIMIT < length text)

-- ---- Ends

-- What the ends of the program show is `from` and `to` before a run, and `input` and `output` after it.

-- all that was written is flushed, and nothing is kept back
abbrev pub IsOut : Output → Type 0
IsOut now = IsFlushed now.flushed now.written × (now.kept_back ≡ 0)

-- neither reading nor writing has failed since
abbrev pub IsSure : Input → Output → Input → Output → Type 0
IsSure from to input output = (input.faults ≡ from.faults) × (output.faults ≡ to.faults)

-- the whole text was written and flushed, this is whether a line was refused, nothing failed, and where the source
-- tells what it has left, that is nothing
abbrev pub EndsWhole : Texts → Bool → Input → Output → Input → Output → Type 0
EndsWhole t refused from to input output =
    IfSome from.left (λ text. WritesAll t refused text to.written output.written) × IsOut output
    × IsSure from to input output × IsAtEnd input.left

-- a front of the whole text was written
abbrev pub EndsFront : Texts → Input → Output → Output → Type 0
EndsFront t from to output = WritesFront t from.left to.written output.written

-- exactly the text of the lines was written that ended in what was read, it is flushed, and no write has failed
abbrev pub EndsRead : Texts → Input → Output → Input → Output → Type 0
EndsRead t from to input output =
    WritesRead t.progress from.left input.left to.written output.written
    × IsOut output × (output.faults ≡ to.faults)

-- What holds of each status: where the run read its input to its end and wrote all, the whole text was written
-- and flushed, whether a line was refused is told, and no read or write has failed; else a front of that text was
-- written, and where reading stopped the run, it is the text of the lines that were read to their end, flushed. A
-- fault of a read is told only where the count of its faults rose and no write has failed, one of a write only where
-- the count of its faults rose, an input that is too long only where it is and nothing has failed, and want of
-- memory, which is free else, only where nothing has failed. Nothing is kept back, unless a write failed.
abbrev pub EndsOf : Texts → Status → Input → Output → Input → Output → Type 0
EndsOf t Done from to input output = EndsWhole t false from to input output
EndsOf t LinesRefused from to input output = EndsWhole t true from to input output
EndsOf t (NoMemory refused) from to input output =
    EndsFront t from to output × IsSure from to input output × (output.kept_back ≡ 0)
EndsOf t Usage from to input output = ⊥
EndsOf t ReadFault from to input output =
    Rose from.faults input.faults × EndsFront t from to output × EndsRead t from to input output
EndsOf t WriteFault from to input output = Rose to.faults output.faults × EndsFront t from to output
EndsOf t InputTooLong from to input output =
    IsTooLong from.left × (input.faults ≡ from.faults) × EndsFront t from to output
    × EndsRead t from to input output

-- for a replay
abbrev pub Ends : Status → Input → Output → Input → Output → Type 0
Ends = EndsOf replayed

-- and for a mode
abbrev pub EndsIn : {S : Type 0} → Mode S → Status → Input → Output → Input → Output → Type 0
EndsIn m = EndsOf (in_mode m)

-- the status of an input that was read to its end
abbrev pub status_if : Bool → Status
status_if true = LinesRefused
status_if false = Done

-- the status is the one given, and P holds, or it is a fault of writing, and Q holds
abbrev pub IsStatusOr : Status → Status → Type 0 → Type 0 → Type 0
IsStatusOr result given P Q = ((result ≡ given) × P) ⊎ ((result ≡ WriteFault) × Q)

-- a line was written and flushed, and nothing failed
abbrev pub EndsPrinted : List ℕ → Output → Output → Type 0
EndsPrinted line to output =
    Grows to.written output.written line × IsOut output × (output.faults ≡ to.faults)

-- how a run ends that writes the usage line: it was written and flushed, or a write failed after a front of it
abbrev pub EndsUsage : Status → Output → Output → Type 0
EndsUsage Usage to output = EndsPrinted usage_text to output
EndsUsage WriteFault to output =
    Rose to.faults output.faults × GrowsFront to.written output.written usage_text
EndsUsage Done to output = ⊥
EndsUsage (NoMemory refused) to output = ⊥
EndsUsage LinesRefused to output = ⊥
EndsUsage ReadFault to output = ⊥
EndsUsage InputTooLong to output = ⊥

-- ---- The generator

-- how a run ends that writes one line: it was written and flushed, and whether a line of the script was refused is
-- told, or a write failed, or memory was wanted and no write failed, behind a front of it; then nothing is kept back
-- that wasn't before
abbrev pub EndsLine : Bool → List ℕ → Status → Output → Output → Type 0
EndsLine refused line Done to output = (refused ≡ false) × EndsPrinted line to output
EndsLine refused line LinesRefused to output = (refused ≡ true) × EndsPrinted line to output
EndsLine refused line (NoMemory wanted) to output =
    GrowsFront to.written output.written line × (output.faults ≡ to.faults)
    × (to.kept_back ≡ 0 → output.kept_back ≡ 0)
EndsLine refused line Usage to output = ⊥
EndsLine refused line ReadFault to output = ⊥
EndsLine refused line WriteFault to output =
    Rose to.faults output.faults × GrowsFront to.written output.written line
EndsLine refused line InputTooLong to output = ⊥

-- how a run of the generator ends
abbrev pub EndsGen : ScriptPlan → Status → Output → Output → Type 0
EndsGen plan status to output = EndsLine (gen_of plan).at.standing.refused (gen_text plan) status to output

-- ---- A live run

-- the whole text of a run that is legal by counts was written and flushed, this is whether a line
-- or the sync that ends the run was refused, nothing failed, and where the source tells what it has left, that is
-- nothing
abbrev pub EndsLiveWhole : Bool → Input → Output → Input → Output → Type 0
EndsLiveWhole refused from to input output =
    IfSome from.left (λ text. live.WritesInput refused text to output)
    × IsOut output × IsSure from to input output × IsAtEnd input.left

-- where the input is told, nothing was written, or a front of the text of a run of it that is legal by
-- counts
abbrev pub EndsLiveFront : Input → Output → Output → Type 0
EndsLiveFront from to output =
    IfSome from.left (λ text. live.WritesFront (reading_of (lines_of text)) to output)

-- nothing was written, what there is is flushed, and no write has failed
abbrev pub EndsUnread : Output → Output → Type 0
EndsUnread to output = EndsPrinted [] to output

-- What holds of each status of a live run: where it read its input to its end and wrote all, the
-- whole text of a run that is legal by counts was written and flushed, and whether a line was refused is told. Where
-- memory was wanted or a write failed, nothing or a front of such a text was written. Where reading
-- stopped it, nothing was run or written, and no write has failed. Nothing is kept back, unless a
-- write failed.
abbrev pub EndsLive : Status → Input → Output → Input → Output → Type 0
EndsLive Done from to input output = EndsLiveWhole false from to input output
EndsLive LinesRefused from to input output = EndsLiveWhole true from to input output
EndsLive (NoMemory refused) from to input output =
    EndsLiveFront from to output × IsSure from to input output × (output.kept_back ≡ 0)
EndsLive Usage from to input output = ⊥
EndsLive ReadFault from to input output =
    Rose from.faults input.faults × EndsUnread to output
EndsLive WriteFault from to input output = Rose to.faults output.faults × EndsLiveFront from to output
EndsLive InputTooLong from to input output =
    IsTooLong from.left × (input.faults ≡ from.faults) × EndsUnread to output

-- ---- By words

-- the words ask for a run that reads the source
abbrev pub reads_source : Option Asked → Bool
reads_source None = false
reads_source (Some (mode.Replay workers)) = true
reads_source (Some mode.Changes) = true
reads_source (Some mode.Health) = true
reads_source (Some mode.Track) = true
reads_source (Some mode.Vmap) = true
reads_source (Some mode.Paths) = true
reads_source (Some mode.Live) = true
reads_source (Some (mode.Gen seed services pods)) = false

-- the words ask for a run that waits, or that starts threads
abbrev pub needs_threads : Option Asked → Bool
needs_threads None = false
needs_threads (Some (mode.Replay workers)) = nat_lt 1 workers
needs_threads (Some mode.Changes) = false
needs_threads (Some mode.Health) = false
needs_threads (Some mode.Track) = false
needs_threads (Some mode.Vmap) = false
needs_threads (Some mode.Paths) = false
needs_threads (Some mode.Live) = true
needs_threads (Some (mode.Gen seed services pods)) = false

-- how a run ends, by what the words ask for
abbrev pub EndsBy : Option Asked → Status → Input → Output → Input → Output → Type 0
EndsBy None status from to input output = EndsUsage status to output
EndsBy (Some (mode.Replay workers)) status from to input output = Ends status from to input output
EndsBy (Some mode.Changes) status from to input output = EndsIn changing status from to input output
EndsBy (Some mode.Health) status from to input output = EndsIn healthy status from to input output
EndsBy (Some mode.Track) status from to input output = EndsIn tracking status from to input output
EndsBy (Some mode.Vmap) status from to input output = EndsIn mapping status from to input output
EndsBy (Some mode.Paths) status from to input output = EndsIn pathing status from to input output
EndsBy (Some mode.Live) status from to input output = EndsLive status from to input output
EndsBy (Some (mode.Gen seed services pods)) status from to input output =
    EndsGen (record { seed = seed; services = services; pods = pods }) status to output

-- memory was wanted before anything was read, written or handed on
abbrev pub IsUnbegun : Status → Input → Output → Input → Output → Type 0
IsUnbegun (NoMemory refused) from to input output = (input ≡ from) × (output ≡ to)
IsUnbegun status from to input output = ⊥

-- A run ends by what the words ask for, or for want of memory for them. So nothing is kept back that
-- wasn't before, unless a write failed.
abbrev pub Runs : Option Asked → Status → Input → Output → Input → Output → Type 0
Runs asked status from to input output =
    EndsBy asked status from to input output ⊎ IsUnbegun status from to input output
