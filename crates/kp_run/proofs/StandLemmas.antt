-- How a replay stands, from one call of its reader to the next.
use Rattle.std.proofs.Common.{◌≡◌, ℕ, ◌+◌, ◌<◌, ◌≤◌, Bool, true, false, List, ◌∷◌, Ok, Err, Result, Option, Some, None, refl, ap, sym, ◌∙◌, subst, arith}
use Rattle.std.specs.Prelude.{nat_lt}
use Rattle.std.specs.Io.KnownBytes.{IsAtEnd}
use Rattle.std.proofs.lemmas.Bool.Decides.{nat_tests}
use Rattle.kp_io.specs.Ends.{Input, Output}
use Rattle.kp_io.specs.Faults.{Rose}
use Rattle.kp_io.specs.Reader.{ReaderState, Answers, Counts, HoldsNoLine, TakesInput, LosesTaken, fresh_with, to_come}
use Rattle.kp_io.specs.Told.{FromTold}
use Rattle.kp_io.specs.declared.next_line.LineFault.{LineFault}
use Rattle.kp_io.specs.declared.next_line.LineFault.TheVariants.{TooLongLine, ReadFault, InputTooLong, NoMemory}
use Rattle.kp_io.specs.declared.next_line.NextLine.{NextLine}
use Rattle.kp_io.specs.declared.next_line.NextLine.TheVariants.{Line, End}
use Rattle.kp_io.specs.declared.next_line.TheConstants.{INPUT_LIMIT, LINE_LIMIT}
use Rattle.kp_io.proofs.HandedOut.{taken_more, taken_none}
use Rattle.kp_base.specs.declared.memory.NoMemory as memory
use Rattle.kp_run_defs.specs.ReplayText.{Standing, beginning}
use Rattle.kp_mode_defs.specs.Mode.{LineIn, Mode, Place, given_in, place_at_start}
use Rattle.kp_run.specs.Given.{place}
use Rattle.kp_run.specs.Next.{TakesNext}
use Rattle.kp_run.specs.Outcome.{Come, EndsFront, WritesRead}
use Rattle.kp_run.specs.Stand.{ComesToEnd, HandsOn, Stands, Stops, StopsOutput, TakesOrStops, TakesStep}
use Rattle.kp_run.specs.Texts.{Texts, by_lines}
use Rattle.kp_run.specs.declared.ending.Stop.{Stop}
use Rattle.kp_run.specs.declared.ending.Stop.TheVariants as why
use Rattle.kp_run.proofs.ComeLemmas.{by_end, come_all, come_ended, come_front, come_more, come_none, come_on, come_part, counts_more, counts_none, ended_unasked, too_long}
use Rattle.kp_run.proofs.EndLemmas.{same_rose}

-- before the first line
pub stands_first : {S : Type 0} (m : Mode S) (follows : Place S → Type 0) (s : Standing) (reader : ReaderState)
    (from : Input) (to : Output) → s ≡ beginning → follows (place_at_start m) → reader ≡ fresh_with reader.room
    → reader.room ≤ LINE_LIMIT → Stands m follows from to s reader from to
stands_first m follows s reader from to start kept fresh room = record {
  come =
      subst (λ r. Come m follows s r.number from.left (to_come r from.left) to.written to.written)
      (sym fresh) (come_none m follows s from.left to.written start kept);
  taken = subst (λ r. FromTold (LosesTaken 0 r.taken) from.left from.left) (sym fresh) (taken_none from.left);
  feeds = λ _open. counts_none reader from.left fresh;
  ended = λ ended. let h = ap (λ r. r.ended) (sym fresh) ∙ ended in absurd (cc);
  room = room;
  sure = (refl, refl);
}

-- an answer that tells no fault is within the limit of the input
within_limit : {T : Type 0} (x : T) (old new : ℕ) (a b : Option (List ℕ))
    → TakesInput (Ok x) old new a b → new ≤ INPUT_LIMIT
within_limit x old new a b input = by_more (nat_lt INPUT_LIMIT new) refl
  where
    by_more : (more : Bool) → nat_lt INPUT_LIMIT new ≡ more → new ≤ INPUT_LIMIT
    by_more true h =
        let past : INPUT_LIMIT < new = grind (arith, nat_tests) in
        let told = input.limit.1 past in
        absurd (cc)
    by_more false h = grind (arith, nat_tests)

-- an output that stopped, before which nothing had failed
pub stops_output : (t : Texts) (stop : Stop) (from : Input) (to : Output) (input : Input) (was now : Output)
    → input.faults ≡ from.faults → was.faults ≡ to.faults
    → EndsFront t from to now → StopsOutput stop was.faults now.faults
    → Stops t stop from to input now
stops_output t (why.NoMemory wanted) from to input was now read wrote front cause =
    (front, (read, cause ∙ wrote))
stops_output t why.Write from to input was now read wrote front cause =
    (front, same_rose to.faults was.faults now.faults wrote cause)
stops_output t why.Read from to input was now read wrote front cause = absurd cause
stops_output t why.InputTooLong from to input was now read wrote front cause = absurd cause

module _ {S : Type 0} (m : Mode S) (follows : Place S → Type 0) (from : Input) (to : Output) (s : Standing)
    (reader : ReaderState) (input : Input) (output : Output) where
  -- a step that took a line
  pub took : {t : Option ℕ} {number : ℕ} → t ≡ Some number
      → TakesStep m follows from to (Ok t) s reader input output → Stands m follows from to s reader input output
  took is step = subst (λ o. TakesStep m follows from to (Ok o) s reader input output) is step

  -- a step that came to the end
  pub came : {t : Option ℕ} → t ≡ None → TakesStep m follows from to (Ok t) s reader input output
      → ComesToEnd m follows s from to input output
  came is step = subst (λ o. TakesStep m follows from to (Ok o) s reader input output) is step

  -- memory is wanted where a replay stands
  pub stops_same : (wanted : memory.NoMemory) → Stands m follows from to s reader input output
      → Stops (by_lines m) (why.NoMemory wanted) from to input output
  stops_same wanted stands = (
    come_front m follows s reader.number from.left (to_come reader input.left) to.written output.written stands.come,
    stands.sure,
  )

-- the reader gave this as the next line, and no read has failed
pub record Gives (old new : ReaderState) (before after : Option (List (Option (List ℕ)))) (failed fails : ℕ) (one : Option (List ℕ)) (number : ℕ) : Type 0 where
  pub open_ : old.ended ≡ false
  pub gives : FromTold (λ xs ys. xs ≡ one ∷ ys) before after
  pub next_one : number ≡ old.number + 1
  pub counted : new.number ≡ number
  pub sure : failed ≡ fails

-- ---- A call of the reader, before which what is known was handed on

module _ {S : Type 0} (m : Mode S) (follows : Place S → Type 0) {from : Input} {to : Output} {s : Standing}
    {old : ReaderState} {before : Input} {was : Output} (stands : Stands m follows from to s old before was) where
  -- what is known can't be handed on
  pub stops_unread : {T : Type 0} (stop : Stop) (after : Input) (later : Output)
      → HandsOn {T = T} (Err stop) was later → Stops (by_lines m) stop from to after later
  stops_unread stop after later hands =
      let come =
      come_on m follows s old.number from.left (to_come old before.left) to.written was.written later.written stands.come hands.kept in
      subst (λ t. Stops (by_lines m) t from to after later) (sym hands.cause.0) (
        come_front m follows s old.number from.left (to_come old before.left) to.written later.written come,
        same_rose to.faults was.faults later.faults stands.sure.1 hands.cause.1,
      )

  module _ {new : ReaderState} {after : Input} (later : Output) {told : Result NextLine LineFault}
      (next : TakesNext told old new before after) (hands : HandsOn (Ok told) was later) where
    abbrev pub on : Come m follows s old.number from.left (to_come old before.left) to.written later.written
    on =
        come_on m follows s old.number from.left (to_come old before.left) to.written was.written later.written stands.come hands.kept

    taken_on : FromTold (LosesTaken 0 new.taken) from.left after.left
    taken_on =
        taken_more old.taken new.taken from.left before.left after.left stands.taken next.input.all

    not_ended : ((lines : ℕ) → told ≡ Ok (End lines) → ⊥) → old.ended ≡ false
    not_ended other =
        by_end (old.ended ≡ false) old.ended (λ yes. absurd (other old.number (next.again yes)))
        (λ no. no)

    -- no read failed unless that is told
    read_as : (t : Result NextLine LineFault) → told ≡ t → (t ≡ Err ReadFault → ⊥)
        → after.faults ≡ from.faults
    read_as t is other = next.cause.kept (λ failed. other (sym is ∙ failed)) ∙ stands.sure.0

    wrote_on : later.faults ≡ to.faults
    wrote_on = hands.sure ∙ stands.sure.1

    -- nothing more was written
    front_on : EndsFront (by_lines m) from to later
    front_on = come_front m follows s old.number from.left (to_come old before.left) to.written later.written on

    -- exactly what was read is answered
    read_to : old.ended ≡ false → new.number ≡ old.number → new.ended ≡ false
        → HoldsNoLine new.held new.taken
        → WritesRead (by_lines m).progress from.left after.left to.written later.written
    read_to open_ number is_open none =
        come_ended m follows old new s (to_come old before.left) from.left before.left after.left
        to.written later.written on stands.taken (stands.feeds open_) number
        next.input.all (next.feeds is_open) none

    -- ---- A line, or nothing of one that is too long

    abbrev pub GivesNow : Option (List ℕ) → ℕ → Type 0
    GivesNow one number =
        Gives old new (to_come old before.left) (to_come new after.left) after.faults from.faults one number

    pub gives_line : (number : ℕ) (bytes : List ℕ) → told ≡ Ok (Line number) → bytes ≡ new.line
        → GivesNow (Some bytes) number
    gives_line number bytes is line =
        let counts = subst (λ t. Counts t old new) is next.counts in record {
          open_ = not_ended (λ lines ended. let clash = sym is ∙ ended in absurd (cc));
          gives =
              subst (λ b. FromTold (λ xs ys. xs ≡ Some b ∷ ys) (to_come old before.left) (to_come new after.left))
              (sym line)
              (subst (λ t. Answers t new.line (to_come old before.left) (to_come new after.left)) is next.answer);
          next_one = counts.0;
          counted = counts.1;
          sure = read_as (Ok (Line number)) is (λ e. absurd (cc));
        }

    pub gives_none : (number : ℕ) → told ≡ Err (TooLongLine number) → GivesNow None number
    gives_none number is =
        let counts = subst (λ t. Counts t old new) is next.counts in record {
          open_ = not_ended (λ lines ended. let clash = sym is ∙ ended in absurd (cc));
          gives =
              subst (λ t. Answers t new.line (to_come old before.left) (to_come new after.left)) is next.answer;
          next_one = counts.0;
          counted = counts.1;
          sure = read_as (Err (TooLongLine number)) is (λ e. absurd (cc));
        }

    module _ {one : Option (List ℕ)} {number : ℕ} (given : GivesNow one number) (last : Output) where
      -- as it is taken
      abbrev pub line : LineIn S
      line = given_in m number one (place s stands.come.state)

      -- after it
      pub after_given : {T : Type 0} {x : T} (keeps : Place S → Type 0) (t : Standing)
          → TakesOrStops (Ok x) keeps line t later last → Stands m keeps from to t new after last
      after_given keeps t takes = record {
        come =
            subst (λ k. Come m keeps t k from.left (to_come new after.left) to.written last.written) (sym given.counted)
            (come_more m follows s old.number from.left (to_come old before.left) to.written later.written on
            number one (to_come new after.left) last.written given.next_one given.gives keeps t
            (record { stands = takes.stands; kept = takes.kept; grown = takes.writes.whole }));
        taken = taken_on;
        feeds = λ is_open.
            counts_more old new from.left before.left after.left
            (stands.feeds given.open_) (next.feeds is_open);
        ended = λ ended. next.ended given.open_ ended;
        room = subst (λ r. r ≤ LINE_LIMIT) (sym next.room) stands.room;
        sure = (given.sure, takes.writes.sure ∙ wrote_on);
      }

      -- within it
      pub stops_given : {T : Type 0} (stop : Stop) (keeps : Place S → Type 0) (t : Standing)
          → TakesOrStops {T = T} (Err stop) keeps line t later last → Stops (by_lines m) stop from to after last
      stops_given stop keeps t takes =
          stops_output (by_lines m) stop from to after later last given.sure wrote_on
          (come_part m follows s old.number from.left (to_come old before.left) to.written later.written on
          number one (to_come new after.left) last.written given.next_one given.gives takes.writes.front)
          takes.writes.cause

    -- ---- No line

    -- the end
    pub comes_to_end : (lines : ℕ) → told ≡ Ok (End lines) → ComesToEnd m follows s from to after later
    comes_to_end lines is =
        let counts = subst (λ t. Counts t old new) is next.counts in
        let input = subst (λ t. TakesInput t old.taken new.taken before.left after.left) is next.input in
        let at_end =
        by_end (IsAtEnd after.left) old.ended
        (λ yes. subst (λ x. IsAtEnd x.left) (sym (next.unasked (ended_unasked old yes))) (stands.ended yes))
        (λ no. next.ended no counts.3) in
        record {
          state = stands.come.state;
          kept = stands.come.kept;
          all =
              come_all m follows s old.number from.left (to_come old before.left) to.written later.written on
              new.taken (to_come new after.left) after.left
              (subst (λ t. Answers t new.line (to_come old before.left) (to_come new after.left)) is next.answer)
              taken_on at_end (within_limit (End lines) old.taken new.taken before.left after.left input);
          sure = (read_as (Ok (End lines)) is (λ e. absurd (cc)), wrote_on);
          ended = at_end;
        }

    -- a read failed
    pub stops_read : told ≡ Err ReadFault → Stops (by_lines m) why.Read from to after later
    stops_read is =
        let counts = subst (λ t. Counts t old new) is next.counts in
        let open_ = not_ended (λ lines ended. let clash = sym is ∙ ended in absurd (cc)) in (
          front_on,
          subst (λ n. Rose n after.faults) stands.sure.0 (next.cause.failed is),
          wrote_on,
          read_to open_ counts.0 counts.2 (next.handed.read is),
        )

    -- the input is too long
    pub stops_long : told ≡ Err InputTooLong → Stops (by_lines m) why.InputTooLong from to after later
    stops_long is =
        let counts = subst (λ t. Counts t old new) is next.counts in
        let open_ = not_ended (λ lines ended. let clash = sym is ∙ ended in absurd (cc)) in (
          front_on,
          too_long INPUT_LIMIT from.left after.left new.taken taken_on (next.input.limit.0 is),
          (read_as (Err InputTooLong) is (λ e. absurd (cc)), wrote_on),
          read_to open_ counts.0 counts.2 (next.handed.long is),
        )

    -- memory is wanted for a line
    pub stops_wanted : (wanted : memory.NoMemory) → told ≡ Err (NoMemory wanted)
        → Stops (by_lines m) (why.NoMemory wanted) from to after later
    stops_wanted wanted is =
        (front_on, (read_as (Err (NoMemory wanted)) is (λ e. absurd (cc)), wrote_on))
