-- What holds of the lines that were read: they are numbered in their order, each is of a stream that
-- there is, and no more events were accepted than the journal may hold.
use Rattle.std.proofs.Common.{◌≡◌, ◌<◌, ◌≤◌, ◌+◌, ◌&&◌, ℕ, suc, Bool, true, false, cond, not, nat_lt, List, [], ◌∷◌, ◌++◌, length, refl, arith, length-append}
use Rattle.std.specs.Prelude.{Option, Some, None, is_none, bytes_eq, codes, Ok}
use Rattle.std.specs.List.{AllByRecursion, fold, sum_by}
use Rattle.std.proofs.lemmas.Bool.Decides.{nat_tests}
use Rattle.std.proofs.lemmas.List.Quantifiers.{position-Some}
use Rattle.std.proofs.lemmas.List.Sums.{sum_by-append}
use Rattle.kp_lemmas.proofs.ListFacts.{all_weaker}
use Rattle.kp_text_defs.specs.SaidLines.{given_as, said}
use Rattle.kp_text_defs.specs.ScriptLines.{line_of}
use Rattle.kp_text_defs.specs.StreamNames.{stream_name}
use Rattle.kp_text_defs.specs.declared.line_refusal.LineRefusal.{LineRefusal}
use Rattle.kp_text_defs.specs.declared.line_refusal.LineRefusal.TheVariants.{JournalFull, NotLive, StreamsFull}
use Rattle.kp_text_defs.specs.declared.said.Said.{Said}
use Rattle.kp_text_defs.specs.declared.said.Said.TheVariants.{Nothing, Asks, Refuses}
use Rattle.kp_text_defs.specs.declared.script.Op.{Op}
use Rattle.kp_text_defs.specs.declared.script.Op.TheVariants as op
use Rattle.kp_text_defs.specs.declared.script.ScriptLine.{ScriptLine}
use Rattle.kp_run_defs.specs.LiveLines.{Reading, nothing_read, reading_of, after_live_line, after_said, add_op, accept_within, accept_at, accept_line, refuse_line, next_line, events_fed, stream_at, stream_limit, is_past_streams}
use Rattle.kp_run_defs.specs.ReplayText.{Standing, beginning}
use Rattle.kp_run_defs.specs.declared.live.StreamLine.{StreamLine}
use Rattle.kp_run_defs.specs.declared.live.Work.{Work}
use Rattle.kp_run_defs.specs.declared.live.Work.TheVariants.{Feeds, Syncs, Sends}
use Rattle.kp_line_laws.specs.Lines.{MayTake}
use Rattle.kp_line_laws.proofs.FirstLines.{asked_by, may_take}

-- ---- Lists

pub all_more : {A : Type 0} (P : A → Type 0) (xs : List A) (x : A) → AllByRecursion P xs → P x
    → AllByRecursion P (xs ++ x ∷ [])
all_more P [] x all p = (p, tt)
all_more P (y ∷ xs) x all p = (all.0, all_more P xs x all.1 p)

-- the numbers of lines rise
abbrev pub AreRising : List StreamLine → Type 0
AreRising [] = Unit {0}
AreRising (line ∷ lines) =
    AllByRecursion (λ (next : StreamLine). line.number < next.number) lines × AreRising lines

rising_more : (lines : List StreamLine) (line : StreamLine) → AreRising lines
    → AllByRecursion (λ (l : StreamLine). l.number < line.number) lines
    → AreRising (lines ++ line ∷ [])
rising_more [] line rising low = (tt, tt)
rising_more (l ∷ lines) line rising low = (
  all_more (λ (next : StreamLine). l.number < next.number) lines line rising.0 low.0,
  rising_more lines line rising.1 low.1,
)

-- how many events lines feed
abbrev pub fed_by : StreamLine → ℕ
fed_by line = length (events_fed line.work)

-- ---- What holds of a reading

pub record IsRead (r : Reading) : Type 0 where
  pub rising : AreRising r.lines
  pub numbers : AllByRecursion (λ (l : StreamLine). l.number ≤ r.number) r.lines
  pub places : AllByRecursion (λ (l : StreamLine). l.stream < length r.streams) r.lines
  pub few : length r.streams ≤ stream_limit
  pub accepted : r.accepted ≡ sum_by fed_by r.lines
  pub room : r.accepted ≤ r.config.max_events
  pub first : r.fresh ≡ true → r.accepted ≡ 0

-- the next line was counted, and isn't yet done with
record IsNext (r : Reading) : Type 0 where
  rising : AreRising r.lines
  numbers : AllByRecursion (λ (l : StreamLine). l.number < r.number) r.lines
  places : AllByRecursion (λ (l : StreamLine). l.stream < length r.streams) r.lines
  few : length r.streams ≤ stream_limit
  accepted : r.accepted ≡ sum_by fed_by r.lines
  room : r.accepted ≤ r.config.max_events
  later : r.fresh ≡ false

nothing_is_read : IsRead nothing_read
nothing_is_read = record {
  rising = tt;
  numbers = tt;
  places = tt;
  few = omega arith;
  accepted = refl;
  room = omega arith;
  first = λ fresh. refl;
}

next_is : (r : Reading) → IsRead r → IsNext (next_line r)
next_is r read = record {
  rising = read.rising;
  numbers = all_weaker (λ (l : StreamLine). l.number ≤ r.number) (λ (l : StreamLine). l.number < suc r.number)
      (λ l le. omega (arith, le)) r.lines read.numbers;
  places = read.places;
  few = read.few;
  accepted = read.accepted;
  room = read.room;
  later = refl;
}

refused_is : (why : LineRefusal) (r : Reading) → IsNext r → IsRead (refuse_line why r)
refused_is why r next = record {
  rising = next.rising;
  numbers = all_weaker (λ (l : StreamLine). l.number < r.number) (λ (l : StreamLine). l.number ≤ r.number)
      (λ l lt. omega (arith, lt)) r.lines next.numbers;
  places = next.places;
  few = next.few;
  accepted = next.accepted;
  room = next.room;
  first = λ fresh. absurd (cc (fresh, next.later));
}

-- ---- A line that is accepted

-- the line that work makes
abbrev work_line : Reading → ℕ → Work → StreamLine
work_line r stream work = record { number = r.number; stream = stream; work = work }

-- what is read with it
abbrev with_work_line : Reading → List (List ℕ) → ℕ → Work → Reading
with_work_line r names stream work = record r {
  streams = names;
  accepted = r.accepted + length (events_fed work);
  lines = r.lines ++ work_line r stream work ∷ [];
}

more_events : (r : Reading) (names : List (List ℕ)) (stream : ℕ) (work : Work)
    → r.accepted ≡ sum_by fed_by r.lines
    → r.accepted + length (events_fed work)
    ≡ sum_by fed_by (r.lines ++ work_line r stream work ∷ [])
more_events r names stream work old =
    let more : sum_by fed_by (r.lines ++ work_line r stream work ∷ [])
    ≡ sum_by fed_by r.lines + (0 + length (events_fed work)) =
    sum_by-append fed_by r.lines (work_line r stream work ∷ []) in
    omega (arith, old, more)

accepted_is : (r : Reading) (names : List (List ℕ)) (stream : ℕ) (work : Work) → IsNext r
    → length r.streams ≤ length names → length names ≤ stream_limit → stream < length names
    → r.accepted + length (events_fed work) ≤ r.config.max_events
    → IsRead (with_work_line r names stream work)
accepted_is r names stream work next more few there room =
    let line = work_line r stream work in record {
      rising = rising_more r.lines line next.rising next.numbers;
      numbers =
          all_more (λ (l : StreamLine). l.number ≤ r.number) r.lines line
          (all_weaker (λ (l : StreamLine). l.number < r.number) (λ (l : StreamLine). l.number ≤ r.number)
          (λ l lt. omega (arith, lt)) r.lines next.numbers) (omega arith);
      places =
          all_more (λ (l : StreamLine). l.stream < length names) r.lines line
          (all_weaker (λ (l : StreamLine). l.stream < length r.streams)
          (λ (l : StreamLine). l.stream < length names) (λ l lt. omega (arith, lt, more)) r.lines
          next.places) there;
      few = few;
      accepted = more_events r names stream work next.accepted;
      room = room;
      first = λ fresh. absurd (cc (fresh, next.later));
    }

-- the stream has a place, or is the next one
placed : (r : Reading) (name : List ℕ) (work : Work) → IsNext r → (place : Option ℕ)
    → stream_at r.streams name ≡ place
    → (is_none place && not (nat_lt (length r.streams) stream_limit)) ≡ false
    → r.accepted + length (events_fed work) ≤ r.config.max_events
    → IsRead (accept_at place name work r)
placed r name work next (Some place) is past room =
    accepted_is r r.streams place work next (omega arith) next.few
    (position-Some (λ n. bytes_eq n name) r.streams place [] is).0 room
placed r name work next None is past room =
    let few : length r.streams < stream_limit = grind (arith, nat_tests, past) in
    let long = length-append r.streams (name ∷ []) in
    accepted_is r (r.streams ++ name ∷ []) (length r.streams) work next (omega (arith, long))
    (omega (arith, long, few)) (omega (arith, long)) room

-- ---- One line

within_is : (r : Reading) (name : List ℕ) (work : Work) → IsNext r
    → is_past_streams r.streams name ≡ false → (b : Bool)
    → nat_lt r.config.max_events (r.accepted + length (events_fed work)) ≡ b
    → IsRead (cond b (refuse_line (JournalFull r.accepted) r) (accept_line name work r))
within_is r name work next past true is = refused_is (JournalFull r.accepted) r next
within_is r name work next past false is =
    placed r name work next (stream_at r.streams name) refl past (grind (arith, nat_tests, is))

work_is : (r : Reading) (name : List ℕ) (work : Work) → IsNext r → (b : Bool)
    → is_past_streams r.streams name ≡ b
    → IsRead (cond b (refuse_line StreamsFull r) (accept_within name work r))
work_is r name work next true is = refused_is StreamsFull r next
work_is r name work next false is =
    within_is r name work next is
    (nat_lt r.config.max_events (r.accepted + length (events_fed work))) refl

-- a configuration comes before all events
abbrev MayBe : Reading → Op → Type 0
MayBe r (op.Config config) = r.accepted ≡ 0
MayBe r (op.Events events) = Unit {0}
MayBe r op.Sync = Unit {0}
MayBe r (op.Packet p) = Unit {0}
MayBe r (op.Explain p) = Unit {0}
MayBe r (op.Show what) = Unit {0}

op_is : (name : List ℕ) (o : Op) (r : Reading) → IsNext r → MayBe r o → IsRead (add_op name o r)
op_is name (op.Config config) r next none = record {
  rising = next.rising;
  numbers = all_weaker (λ (l : StreamLine). l.number < r.number) (λ (l : StreamLine). l.number ≤ r.number)
      (λ l lt. omega (arith, lt)) r.lines next.numbers;
  places = next.places;
  few = next.few;
  accepted = next.accepted;
  room = omega (arith, none);
  first = λ fresh. absurd (cc (fresh, next.later));
}
op_is name (op.Events events) r next may =
    work_is r name (Feeds events) next (is_past_streams r.streams name) refl
op_is name op.Sync r next may = work_is r name Syncs next (is_past_streams r.streams name) refl
op_is name (op.Packet p) r next may =
    work_is r name (Sends p) next (is_past_streams r.streams name) refl
op_is name (op.Explain p) r next may = refused_is (NotLive (codes "explain")) r next
op_is name (op.Show what) r next may = refused_is (NotLive (codes "show")) r next

-- a standing that has a sync
abbrev late : Standing
late = record beginning { counts = 1 ∷ [] }

may_be : (r : Reading) (o : Op) → r.accepted ≡ 0 → MayBe r o
may_be r (op.Config config) none = none
may_be r (op.Events events) none = tt
may_be r op.Sync none = tt
may_be r (op.Packet p) none = tt
may_be r (op.Explain p) none = tt
may_be r (op.Show what) none = tt

later_may : (r : Reading) (o : Op) → MayTake late o → MayBe r o
later_may r (op.Config config) may = absurd (cc may.counts)
later_may r (op.Events events) may = tt
later_may r op.Sync may = tt
later_may r (op.Packet p) may = tt
later_may r (op.Explain p) may = tt
later_may r (op.Show what) may = tt

may_read : (r : Reading) (bytes : List ℕ) (first : Bool) (line : ScriptLine) → IsRead r
    → r.fresh ≡ first → line_of bytes first ≡ Ok line → MayBe (next_line r) line.op
may_read r bytes true line read fresh is = may_be (next_line r) line.op (read.first fresh)
may_read r bytes false line read fresh is =
    later_may (next_line r) line.op (may_take late bytes false line (λ e. absurd (cc e)) is)

blank_is : (r : Reading) → IsRead r → IsRead (record r { number = suc r.number })
blank_is r read = record {
  rising = read.rising;
  numbers = all_weaker (λ (l : StreamLine). l.number ≤ r.number) (λ (l : StreamLine). l.number ≤ suc r.number)
      (λ l le. omega (arith, le)) r.lines read.numbers;
  places = read.places;
  few = read.few;
  accepted = read.accepted;
  room = read.room;
  first = read.first;
}

said_is : (r : Reading) (given : Option (List ℕ)) → IsRead r → (says : Said)
    → said given r.fresh ≡ says → IsRead (after_said r says)
said_is r given read Nothing is = blank_is r read
said_is r given read (Asks line) is =
    let asked = asked_by given r.fresh line is in
    op_is (stream_name line.by) line.op (next_line r) (next_is r read)
    (may_read r asked.0 r.fresh line read refl asked.1)
said_is r given read (Refuses why) is = refused_is why (next_line r) (next_is r read)

line_is : (r : Reading) (bytes : List ℕ) → IsRead r → IsRead (after_live_line r bytes)
line_is r bytes read =
    said_is r (given_as bytes) read (said (given_as bytes) r.fresh) refl

lines_are : (lines : List (List ℕ)) (r : Reading) → IsRead r → IsRead (fold after_live_line r lines)
lines_are [] r read = read
lines_are (bytes ∷ lines) r read = lines_are lines (after_live_line r bytes) (line_is r bytes read)

-- of each input
pub input_is_read : (lines : List (List ℕ)) → IsRead (reading_of lines)
input_is_read lines = lines_are lines nothing_read nothing_is_read
