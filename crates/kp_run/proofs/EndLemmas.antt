-- How a run ends: what was written, and then a flush.
use Rattle.std.proofs.Common.{◌≡◌, ℕ, Bool, true, false, List, [], refl, sym, ◌∙◌, subst, append-nil, take, inl, inr}
use Rattle.std.specs.Prelude.{◌⊎◌, Option, Some, None, IfSome}
use Rattle.kp_base.specs.declared.memory.NoMemory as memory
use Rattle.kp_io.specs.Ends.{Input, Output}
use Rattle.kp_io.specs.Told.{FromTold, Grows}
use Rattle.kp_io.specs.Faults.{Rose}
use Rattle.kp_io.specs.Lines.{lines_of}
use Rattle.kp_io.specs.declared.next_line.TheConstants.{INPUT_LIMIT}
use Rattle.kp_io.proofs.Told.{Grows-nil, FromTold-map}
use Rattle.kp_text_defs.specs.Printed.{usage_text}
use Rattle.kp_run_defs.specs.ReplayText.{Progress}
use Rattle.kp_run.specs.declared.status.Status.{Status}
use Rattle.kp_run.specs.declared.status.Status.TheVariants.{NoMemory, Usage, ReadFault, WriteFault, InputTooLong}
use Rattle.kp_run.specs.declared.ending.Stop.TheVariants as why
use Rattle.kp_run.specs.Outcome.{GrowsFront, WritesAll, WritesEnded, WritesFront, WritesRead, EndsFront, EndsOf, EndsRead, EndsWhole, EndsUsage, EndsLine, EndsPrinted, IsOut, IsStatusOr, status_if}
use Rattle.kp_run.specs.Stand.{Closes, EndsWell, Stops}
use Rattle.kp_run.specs.Texts.{Texts}
use Rattle.kp_run.proofs.ComeLemmas.{front_is, grows_on}

-- a count that rose after it had stayed rose since the beginning
pub same_rose : (w a b : ℕ) → a ≡ w → Rose a b → Rose w b
same_rose w a b same rose = subst (λ n. Rose n b) same rose

-- ---- What is handed on or flushed was written before

-- nothing was written yet
pub none_written : (text : List ℕ) (written : Option (List ℕ)) → GrowsFront written written text
none_written text written = (0, Grows-nil written)

pub whole_front : (text : List ℕ) (written now : Option (List ℕ)) → Grows written now text → GrowsFront written now text
whole_front text written now grown = front_is text text [] written now (sym (append-nil text)) grown

front_none : (t : Texts) (left written : Option (List ℕ)) → WritesFront t left written written
front_none t None written = tt
front_none t (Some text) written = none_written (t.whole (lines_of text)) written

-- memory was wanted before anything was read
pub stops_unbegun : (t : Texts) (wanted : memory.NoMemory) (from : Input) (to : Output)
    → Stops t (why.NoMemory wanted) from to from to
stops_unbegun t wanted from to = (front_none t from.left to.written, (refl, refl))

fronts_on : (t : Texts) (left written now later : Option (List ℕ)) → WritesFront t left written now → Grows now later [] → WritesFront t left written later
fronts_on t None written now later front kept = tt
fronts_on t (Some text) written now later front kept =
    (front.0, grows_on written now later (take front.0 (t.whole (lines_of text))) front.1 kept)

all_on : (t : Texts) (refused : Bool) (left written now later : Option (List ℕ)) → IfSome left (λ text. WritesAll t refused text written now) → Grows now later [] → IfSome left (λ text. WritesAll t refused text written later)
all_on t refused None written now later all kept = tt
all_on t refused (Some text) written now later all kept = record {
  grown = grows_on written now later (t.whole (lines_of text)) all.grown kept;
  told = all.told;
  short = all.short;
}

-- a whole text is a front of it
all_front : (t : Texts) (refused : Bool) (left written now : Option (List ℕ))
    → IfSome left (λ text. WritesAll t refused text written now) → WritesFront t left written now
all_front t refused None written now all = tt
all_front t refused (Some text) written now all =
    whole_front (t.whole (lines_of text)) written now all.grown

read_on : (progress : List (List ℕ) → Progress) (limit : ℕ) (left end written now later : Option (List ℕ)) → FromTold (WritesEnded progress limit written now) left end → Grows now later [] → FromTold (WritesEnded progress limit written later) left end
read_on progress limit left end written now later read kept =
    FromTold-map (WritesEnded progress limit written now) (WritesEnded progress limit written later)
    (λ xs ys ended. record { lost = ended.lost; front = ended.front; grown = grows_on written now later _ ended.grown kept })
    left end read

-- ---- A replay

ends_as : (t : Texts) (refused : Bool) (from : Input) (to : Output) (input : Input) (output : Output)
    → EndsWhole t refused from to input output
    → EndsOf t (status_if refused) from to input output
ends_as t true from to input output h = h
ends_as t false from to input output h = h

-- A replay, and then a call of the sink that told this and kept what was written.
module _ (t : Texts) (result : Status) (from : Input) (to : Output) (input : Input) (was now : Output) where
  -- a write failed at last, and a front of the text was written
  failed : Grows was.written now.written [] → result ≡ WriteFault → was.faults ≡ to.faults
      → EndsFront t from to was → Rose was.faults now.faults → EndsOf t result from to input now
  failed kept is same front rose =
      subst (λ s. EndsOf t s from to input now) (sym is) (
        same_rose to.faults was.faults now.faults same rose,
        fronts_on t from.left to.written was.written now.written front kept,
      )

  -- by what the call told
  by_call : {given : Status} {P : Type 0} → Closes result given P was now → was.faults ≡ to.faults
      → EndsFront t from to was
      → (Grows was.written now.written [] → P → now.faults ≡ was.faults → EndsOf t given from to input now)
      → EndsOf t result from to input now
  by_call {given = given} {P = P} closes same front ends = by_case closes.cases
    where
      by_case : IsStatusOr result given (P × (now.faults ≡ was.faults)) (Rose was.faults now.faults)
          → EndsOf t result from to input now
      by_case (inl h) =
          subst (λ s. EndsOf t s from to input now) (sym h.0) (ends closes.kept h.1.0 h.1.1)
      by_case (inr h) = failed closes.kept h.0 same front h.1

  -- the input was read to its end
  pub ends_whole : (refused : Bool) (told : Status) → told ≡ status_if refused
      → EndsWell t refused from to input was → Closes result told (IsOut now) was now
      → EndsOf t result from to input now
  ends_whole refused told is all closes =
      by_call closes all.1.1 (all_front t refused from.left to.written was.written all.0) (λ kept out same.
      subst (λ s. EndsOf t s from to input now) (sym is) (ends_as t refused from to input now (
        all_on t refused from.left to.written was.written now.written all.0 kept,
        out,
        (all.1.0, same ∙ all.1.1),
        all.2,
      )))

  -- memory was wanted
  pub ends_wanted : (wanted : memory.NoMemory) → Stops t (why.NoMemory wanted) from to input was
      → Closes result (NoMemory wanted) (now.kept_back ≡ 0) was now
      → EndsOf t result from to input now
  ends_wanted wanted stopped closes = by_call closes stopped.1.1 stopped.0 (λ kept out same. (
    fronts_on t from.left to.written was.written now.written stopped.0 kept,
    (stopped.1.0, same ∙ stopped.1.1),
    out,
  ))

  -- reading stopped
  read_out : WritesRead t.progress from.left input.left to.written was.written
      → was.faults ≡ to.faults → Grows was.written now.written [] → IsOut now → now.faults ≡ was.faults
      → EndsRead t from to input now
  read_out read same kept out wrote = (
    read_on t.progress INPUT_LIMIT from.left input.left to.written was.written now.written read kept,
    out,
    wrote ∙ same,
  )

  pub ends_failed : Stops t why.Read from to input was → Closes result ReadFault (IsOut now) was now
      → EndsOf t result from to input now
  ends_failed stopped closes = by_call closes stopped.2 stopped.0 (λ kept out wrote. (
    stopped.1,
    fronts_on t from.left to.written was.written now.written stopped.0 kept,
    read_out stopped.3 stopped.2 kept out wrote,
  ))

  pub ends_long : Stops t why.InputTooLong from to input was
      → Closes result InputTooLong (IsOut now) was now → EndsOf t result from to input now
  ends_long stopped closes = by_call closes stopped.2.1 stopped.0 (λ kept out wrote. (
    stopped.1,
    stopped.2.0,
    fronts_on t from.left to.written was.written now.written stopped.0 kept,
    read_out stopped.3 stopped.2.1 kept out wrote,
  ))

-- ---- One line

line_as : (refused : Bool) (line : List ℕ) (to output : Output) → EndsPrinted line to output → EndsLine refused line (status_if refused) to output
line_as true line to output h = (refl, h)
line_as false line to output h = (refl, h)

-- A line was written whole, and then a call of the sink told this.
module _ (result : Status) (to was now : Output) (line : List ℕ) (grown : Grows to.written was.written line)
    (same : was.faults ≡ to.faults) where
  -- it was flushed, or a write failed
  pub printed : {given : Status} → Closes result given (IsOut now) was now
      → ((result ≡ given) × EndsPrinted line to now)
      ⊎ ((result ≡ WriteFault) × Rose to.faults now.faults × GrowsFront to.written now.written line)
  printed {given = given} closes = by_case closes.cases
    where
      on : Grows to.written now.written line
      on = grows_on to.written was.written now.written line grown closes.kept

      by_case : IsStatusOr result given (IsOut now × (now.faults ≡ was.faults)) (Rose was.faults now.faults)
          → ((result ≡ given) × EndsPrinted line to now)
          ⊎ ((result ≡ WriteFault) × Rose to.faults now.faults × GrowsFront to.written now.written line)
      by_case (inl h) = inl (h.0, (on, h.1.0, h.1.1 ∙ same))
      by_case (inr h) =
          inr (h.0, same_rose to.faults was.faults now.faults same h.1, whole_front line to.written now.written on)

  -- of a run that writes one line
  pub line_ends : (refused : Bool) (told : Status) → told ≡ status_if refused
      → Closes result told (IsOut now) was now → EndsLine refused line result to now
  line_ends refused told is closes = by_case (printed closes)
    where
      by_case : ((result ≡ told) × EndsPrinted line to now)
          ⊎ ((result ≡ WriteFault) × Rose to.faults now.faults × GrowsFront to.written now.written line)
          → EndsLine refused line result to now
      by_case (inl h) =
          subst (λ s. EndsLine refused line s to now) (sym (h.0 ∙ is)) (line_as refused line to now h.1)
      by_case (inr h) = subst (λ s. EndsLine refused line s to now) (sym h.0) (h.1, h.2)

-- the usage line was written
pub usage_ends : (result : Status) (to was now : Output) → Grows to.written was.written usage_text
    → was.faults ≡ to.faults → Closes result Usage (IsOut now) was now → EndsUsage result to now
usage_ends result to was now grown same closes = by_case (printed result to was now usage_text grown same closes)
  where
    by_case : ((result ≡ Usage) × EndsPrinted usage_text to now)
        ⊎ ((result ≡ WriteFault) × Rose to.faults now.faults × GrowsFront to.written now.written usage_text)
        → EndsUsage result to now
    by_case (inl h) = subst (λ s. EndsUsage s to now) (sym h.0) h.1
    by_case (inr h) = subst (λ s. EndsUsage s to now) (sym h.0) (h.1, h.2)
