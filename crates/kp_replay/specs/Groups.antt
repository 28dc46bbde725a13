-- Lines that are taken together: what they say, and what they do one after the other.
use Rattle.std.specs.Prelude.{◌≡◌, ◌<◌, ℕ, suc, ◌+◌, Bool, true, false, List, [], ◌∷◌, ◌++◌, length, get_or, Some, Result, Ok, Err}
use Rattle.std.specs.List.{list_all}
use Rattle.kp_base.specs.declared.memory.NoMemory.{NoMemory}
use Rattle.kp_run_defs.specs.ReplayText.{Line, Standing, given_line, op_line, quiet, refuse}
use Rattle.kp_text_defs.specs.SaidLines.{said}
use Rattle.kp_text_defs.specs.declared.said.Said.{Said}
use Rattle.kp_text_defs.specs.declared.said.Said.TheVariants.{Nothing, Asks, Refuses}
use Rattle.kp_text_defs.specs.declared.script.Op.{Op}
use Rattle.kp_text_defs.specs.declared.script.Op.TheVariants as op
use Rattle.kp_replay.specs.declared.reads.Read.{Read}

-- ---- What lines say

-- what a line says that isn't the first, unless there was no memory to read it
abbrev pub ReadAs : Type 0
ReadAs = Result Said NoMemory

-- what a line says that isn't the first
abbrev pub later_said : List ℕ → Said
later_said bytes = said (Some bytes) false

-- a line with its number
abbrev pub read_of : ℕ → List ℕ → Read
read_of number bytes = record { number = number; said = Ok (later_said bytes) }

-- lines with their numbers, from the first one's on
abbrev pub reads_from : ℕ → List (List ℕ) → List Read
reads_from number [] = []
reads_from number (bytes ∷ lines) = read_of number bytes ∷ reads_from (suc number) lines

-- there was memory to read it
abbrev pub was_read : ReadAs → Bool
was_read (Ok says) = true
was_read (Err refused) = false

-- a line says this, if there was memory to read it
abbrev pub IsReadAs : ℕ → List ℕ → Read → Type 0
IsReadAs number bytes read = was_read read.said ≡ true → read ≡ read_of number bytes

-- each of these lines says what stands in its place, if there was memory to read it
pub record AreReadAs (number : ℕ) (lines : List (List ℕ)) (reads : List Read) : Type 0 where
  pub long : length reads ≡ length lines
  pub each : (i : ℕ) (d : Read) → i < length reads
      → IsReadAs (number + i) (get_or lines i []) (get_or reads i d)

abbrev pub WereRead : List Read → Type 0
WereRead reads = list_all (λ read. was_read read.said) reads ≡ true

-- ---- What lines do

-- what is said behind the first line does this to a replay
abbrev pub later_line : ℕ → Said → Standing → Line
later_line number Nothing s = quiet s
later_line number (Asks line) s = op_line number line.op s
later_line number (Refuses refusal) s = refuse number refusal s

abbrev pub as_read : ℕ → ReadAs → Standing → Line
as_read number (Ok says) s = later_line number says s
as_read number (Err refused) s = quiet s

abbrev pub read_line : Read → Standing → Line
read_line read s = as_read read.number read.said s

-- a line, and then more
abbrev pub and_then : Line → (Standing → Line) → Line
and_then line more = record { text = line.text ++ (more line.next).text; next = (more line.next).next }

-- lines that were read, one after the other
abbrev pub reads_line : List Read → Standing → Line
reads_line [] s = quiet s
reads_line (read ∷ reads) s = and_then (read_line read s) (reads_line reads)

-- lines one after the other, of which none is too long
abbrev pub lines_from : ℕ → List (List ℕ) → Standing → Line
lines_from number [] s = quiet s
lines_from number (bytes ∷ lines) s = and_then (given_line number (Some bytes) s) (lines_from (suc number) lines)

-- nothing asks for a configuration
abbrev pub may_come_later : Op → Bool
may_come_later (op.Config config) = false
may_come_later (op.Events events) = true
may_come_later op.Sync = true
may_come_later (op.Packet packet) = true
may_come_later (op.Explain packet) = true
may_come_later (op.Show what) = true

abbrev pub asks_later : Said → Bool
asks_later Nothing = true
asks_later (Asks line) = may_come_later line.op
asks_later (Refuses refusal) = true

abbrev pub says_later : ReadAs → Bool
says_later (Ok says) = asks_later says
says_later (Err refused) = true

abbrev pub AreLater : List Read → Type 0
AreLater reads = list_all (λ read. says_later read.said) reads ≡ true

-- ---- Beside each other

-- a line may be answered beside others: it is blank or refused, or asks for a packet
abbrev pub is_packet : Op → Bool
is_packet (op.Config config) = false
is_packet (op.Events events) = false
is_packet op.Sync = false
is_packet (op.Packet packet) = true
is_packet (op.Explain packet) = false
is_packet (op.Show what) = false

abbrev pub goes_aside : Said → Bool
goes_aside Nothing = true
goes_aside (Asks line) = is_packet line.op
goes_aside (Refuses refusal) = true

abbrev pub may_go_aside : ReadAs → Bool
may_go_aside (Ok says) = goes_aside says
may_go_aside (Err refused) = false

abbrev pub is_aside : Read → Bool
is_aside read = may_go_aside read.said

abbrev pub refuses : Said → Bool
refuses Nothing = false
refuses (Asks line) = false
refuses (Refuses refusal) = true

abbrev pub is_refusal : ReadAs → Bool
is_refusal (Ok says) = refuses says
is_refusal (Err refused) = false

abbrev pub is_refused : Read → Bool
is_refused read = is_refusal read.said

-- all of them may
abbrev pub AreAside : List Read → Type 0
AreAside reads = list_all is_aside reads ≡ true
