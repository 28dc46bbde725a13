-- How a live run ends: what was written, and then a flush.
use Rattle.std.proofs.Common.{◌≡◌, ℕ, Bool, true, false, List, [], ap, take, sym, ◌∙◌, subst, inl, inr}
use Rattle.std.specs.Prelude.{◌⊎◌, Option, Some, None, IfSome}
use Rattle.std.specs.Io.KnownBytes.{IsAtEnd}
use Rattle.kp_base.specs.declared.memory.NoMemory as memory
use Rattle.kp_io.specs.Ends.{Input, Output}
use Rattle.kp_io.specs.Told.{Grows}
use Rattle.kp_io.specs.Faults.{Rose}
use Rattle.kp_io.specs.Lines.{lines_of}
use Rattle.kp_io.proofs.Told.{Grows-nil}
use Rattle.kp_run_defs.specs.LiveLines.{reading_of}
use Rattle.kp_run_defs.specs.LiveText.{live_text}
use Rattle.kp_live.specs.Written as live
use Rattle.kp_run.specs.declared.status.Status.{Status}
use Rattle.kp_run.specs.declared.status.Status.TheVariants.{NoMemory, ReadFault, InputTooLong}
use Rattle.kp_run.specs.Outcome.{EndsLive, EndsLiveWhole, EndsUnread, IsOut, IsStatusOr, IsSure, IsTooLong, status_if}
use Rattle.kp_run.specs.Stand.{Closes}
use Rattle.kp_run.proofs.ComeLemmas.{grows_on}
use Rattle.kp_run.proofs.EndLemmas.{same_rose, whole_front}

-- of two things, one of which is not so, the other is
pub other_of : {A B : Type 0} → A ⊎ B → (A → ⊥) → B
other_of (inl a) not_a = absurd (not_a a)
other_of (inr b) not_a = b

-- ---- A flush writes nothing

-- the text of a run of an input was written, where that is told
abbrev Whole : Bool → Option (List ℕ) → Output → Output → Type 0
Whole refused left to now = IfSome left (λ text. live.WritesInput refused text to now)

-- nothing or a front of such a text was written
abbrev Front : Option (List ℕ) → Output → Output → Type 0
Front left to now = IfSome left (λ text. live.WritesFront (reading_of (lines_of text)) to now)

whole_on : (refused : Bool) (left : Option (List ℕ)) (to was now : Output) → Whole refused left to was
    → Grows was.written now.written [] → Whole refused left to now
whole_on refused None to was now all kept = tt
whole_on refused (Some text) to was now all kept =
    let w = all.writes in
    record {
      writes = record {
        run = w.run;
        runs = w.runs;
        grown = grows_on to.written was.written now.written (live_text w.run) w.grown kept;
        told = w.told;
      };
      short = all.short;
    }

whole_is_front : (refused : Bool) (left : Option (List ℕ)) (to was : Output)
    → Whole refused left to was → Front left to was
whole_is_front refused None to was all = tt
whole_is_front refused (Some text) to was all =
    let w = all.writes in
    inr (w.run, w.runs, whole_front (live_text w.run) to.written was.written w.grown)

front_on : (left : Option (List ℕ)) (to was now : Output) → Front left to was
    → Grows was.written now.written [] → Front left to now
front_on None to was now front kept = tt
front_on (Some text) to was now (inl none) kept =
    inl (grows_on to.written was.written now.written [] none kept)
front_on (Some text) to was now (inr run) kept =
    let front = run.2 in
    inr (
      run.0,
      run.1,
      (
        front.0,
        grows_on to.written was.written now.written (take front.0 (live_text run.0)) front.1 kept,
      ),
    )

none_is_front : (left : Option (List ℕ)) (to : Output) → Front left to to
none_is_front None to = tt
none_is_front (Some text) to = inl (Grows-nil to.written)

-- ---- Ends

live_as : (refused : Bool) (from : Input) (to : Output) (input : Input) (output : Output)
    → EndsLiveWhole refused from to input output
    → EndsLive (status_if refused) from to input output
live_as true from to input output h = h
live_as false from to input output h = h

-- A live run, and then a call of the sink that told this and kept what was written.
module _ (result : Status) (from : Input) (to : Output) (input : Input) (was now : Output) where
  by_call : {given : Status} {P : Type 0} → Closes result given P was now → was.faults ≡ to.faults
      → Front from.left to was
      → (Grows was.written now.written [] → P → now.faults ≡ was.faults → EndsLive given from to input now)
      → EndsLive result from to input now
  by_call {given = given} {P = P} closes same front ends = by_case closes.cases
    where
      by_case : IsStatusOr result given (P × (now.faults ≡ was.faults)) (Rose was.faults now.faults)
          → EndsLive result from to input now
      by_case (inl h) =
          subst (λ s. EndsLive s from to input now) (sym h.0) (ends closes.kept h.1.0 h.1.1)
      by_case (inr h) =
          subst (λ s. EndsLive s from to input now) (sym h.0) (
            same_rose to.faults was.faults now.faults same h.1,
            front_on from.left to was now front closes.kept,
          )

  -- the whole text was written
  pub live_whole : (refused : Bool) (told : Status) → told ≡ status_if refused
      → Whole refused from.left to was → IsSure from to input was → IsAtEnd input.left
      → Closes result told (IsOut now) was now → EndsLive result from to input now
  live_whole refused told is all sure at_end closes =
      by_call closes sure.1 (whole_is_front refused from.left to was all) (λ kept out same.
      subst (λ s. EndsLive s from to input now) (sym is) (live_as refused from to input now (
        whole_on refused from.left to was now all kept,
        out,
        (sure.0, same ∙ sure.1),
        at_end,
      )))

  -- memory was wanted
  pub live_wanted : (refused : memory.NoMemory) → Front from.left to was
      → IsSure from to input was → Closes result (NoMemory refused) (now.kept_back ≡ 0) was now
      → EndsLive result from to input now
  live_wanted refused front sure closes = by_call closes sure.1 front (λ kept out same. (
    front_on from.left to was now front kept,
    (sure.0, same ∙ sure.1),
    out,
  ))

  -- nothing was written
  unread : was ≡ to → Grows was.written now.written [] → IsOut now → now.faults ≡ was.faults → EndsUnread to now
  unread same kept out wrote = subst (λ o. EndsUnread o now) same (kept, out, wrote)

  none_front : was ≡ to → Front from.left to was
  none_front same = subst (Front from.left to) (sym same) (none_is_front from.left to)

  -- a read failed
  pub live_failed : Rose from.faults input.faults → was ≡ to
      → Closes result ReadFault (IsOut now) was now → EndsLive result from to input now
  live_failed rose same closes =
      by_call closes (ap (λ o. o.faults) same) (none_front same) (λ kept out wrote. (rose, unread same kept out wrote))

  -- the input was too long
  pub live_long : IsTooLong from.left → input.faults ≡ from.faults → was ≡ to
      → Closes result InputTooLong (IsOut now) was now → EndsLive result from to input now
  live_long long sure same closes =
      by_call closes (ap (λ o. o.faults) same) (none_front same) (λ kept out wrote. (long, sure, unread same kept out wrote))
