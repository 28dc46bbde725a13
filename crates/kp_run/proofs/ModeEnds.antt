-- How a run in a mode comes to its end.
use Rattle.std.proofs.Common.{◌≡◌, ℕ, List, ◌++◌, take, drop, ap, sym, subst, ◌∙◌, append_assoc}
use Rattle.std.proofs.Common.{take-append-drop}
use Rattle.std.specs.Prelude.{Option, Some, None, IfSome, Result, Ok, Err}
use Rattle.kp_io.specs.Ends.{Input, Output}
use Rattle.kp_io.specs.Lines.{lines_of}
use Rattle.kp_io.specs.Told.{Grows}
use Rattle.kp_io.proofs.Told.{Grows-trans}
use Rattle.kp_run_defs.specs.ReplayText.{Standing}
use Rattle.kp_mode_defs.specs.Mode.{Mode, Place, ended, replay_in, replaying}
use Rattle.kp_mode_defs.proofs.Alike.{replays_alike}
use Rattle.kp_run.specs.Given.{place}
use Rattle.kp_run.specs.Outcome.{GrowsFront, WritesAll, WritesFront}
use Rattle.kp_run.specs.Stand.{ComesOrStops, ComesToEnd, EndsOrStops, Stops, WritesLines, WritesOrStops}
use Rattle.kp_run.specs.Texts.{by_lines, in_mode, replayed}
use Rattle.kp_run.specs.declared.ending.Stop.{Stop}
use Rattle.kp_run.specs.declared.ending.Stop.TheVariants as why
use Rattle.kp_run.proofs.ComeLemmas.{front_is}
use Rattle.kp_run.proofs.StandLemmas.{stops_output}

-- a replay says what its mode says
pub as_replay : in_mode replaying ≡ replayed
as_replay = λ i. record {
  progress = λ lines. (replays_alike lines).comes i;
  whole = λ lines. (replays_alike lines).text i;
}

pub lines_as_replay : by_lines replaying ≡ replayed
lines_as_replay = λ i. record {
  progress = λ lines. (replays_alike lines).comes i;
  whole = λ lines. ((replays_alike lines).comes i).text;
}

module _ {S : Type 0} (m : Mode S) where
  lines_all : (at : Place S) (left written now : Option (List ℕ))
      → IfSome left (λ text. WritesLines m at text written now)
      → IfSome left (λ text. WritesAll (by_lines m) at.standing.refused text written now)
  lines_all at None written now all = tt
  lines_all at (Some text) written now all = record {
    grown = all.grown;
    told = ap (λ (t : Place S). t.standing.refused) all.stands;
    short = all.short;
  }

  -- lines that came to their end are all of a text that ends with them
  pub ends_by_lines : {T : Type 0} (follows : Place S → Type 0) (s : Standing) (result : Result T Stop)
      (from : Input) (to : Output) (input : Input) (output : Output)
      → ComesOrStops m follows s result from to input output
      → EndsOrStops (by_lines m) s.refused result from to input output
  ends_by_lines follows s (Ok done) from to input output all =
      (lines_all (place s all.state) from.left to.written output.written all.all, all.sure, all.ended)
  ends_by_lines follows s (Err stop) from to input output stopped = stopped

  -- ---- What is added at the end

  -- what lines print is a front of the whole text
  fronts_more : (left written now : Option (List ℕ)) → WritesFront (by_lines m) left written now
      → WritesFront (in_mode m) left written now
  fronts_more None written now front = tt
  fronts_more (Some text) written now front =
      let r = replay_in m (lines_of text) in
      let more = ended m r.at in
      front_is (r.text ++ more) (take front.0 r.text) (drop front.0 r.text ++ more) written now
      (ap (λ t. t ++ more) (sym (take-append-drop front.0 r.text))
      ∙ append_assoc (take front.0 r.text) (drop front.0 r.text) more) front.1

  -- so a run that was stopped among the lines was
  pub stops_among : (stop : Stop) (from : Input) (to : Output) (input : Input) (output : Output)
      → Stops (by_lines m) stop from to input output → Stops (in_mode m) stop from to input output
  stops_among (why.NoMemory wanted) from to input output h =
      (fronts_more from.left to.written output.written h.0, h.1)
  stops_among why.Write from to input output h =
      (fronts_more from.left to.written output.written h.0, h.1)
  stops_among why.Read from to input output h =
      (fronts_more from.left to.written output.written h.0, h.1, h.2, h.3)
  stops_among why.InputTooLong from to input output h =
      (fronts_more from.left to.written output.written h.0, h.1, h.2, h.3)

  whole : (at : Place S) (left written now later : Option (List ℕ))
      → IfSome left (λ text. WritesLines m at text written now) → Grows now later (ended m at)
      → IfSome left (λ text. WritesAll (in_mode m) at.standing.refused text written later)
  whole at None written now later all grown = tt
  whole at (Some text) written now later all grown =
      let r = replay_in m (lines_of text) in
      record {
        grown = subst (λ (t : Place S). Grows written later (r.text ++ ended m t)) all.stands
            (Grows-trans written now later r.text (ended m at) all.grown grown);
        told = ap (λ (t : Place S). t.standing.refused) all.stands;
        short = all.short;
      }

  part : (at : Place S) (left written now later : Option (List ℕ))
      → IfSome left (λ text. WritesLines m at text written now)
      → GrowsFront now later (ended m at) → WritesFront (in_mode m) left written later
  part at None written now later all front = tt
  part at (Some text) written now later all front =
      let r = replay_in m (lines_of text) in
      let more = ended m at in
      front_is (r.text ++ ended m r.at) (r.text ++ take front.0 more) (drop front.0 more) written
      later
      (ap (λ (t : Place S). r.text ++ ended m t) (sym all.stands)
      ∙ ap (λ t. r.text ++ t) (sym (take-append-drop front.0 more))
      ∙ sym (append_assoc r.text (take front.0 more) (drop front.0 more)))
      (Grows-trans written now later r.text (take front.0 more) all.grown front.1)

  -- what is added was written, or a front of it
  pub ends_adding : {T : Type 0} (follows : Place S → Type 0) (result : Result T Stop) (s : Standing)
      (from : Input) (to : Output) (input : Input) (was now : Output)
      → (all : ComesToEnd m follows s from to input was)
      → WritesOrStops result (ended m (place s all.state)) was now
      → EndsOrStops (in_mode m) s.refused result from to input now
  ends_adding follows (Ok done) s from to input was now all writes = (
    whole (place s all.state) from.left to.written was.written now.written all.all writes.whole,
    (all.sure.0, writes.sure ∙ all.sure.1),
    all.ended,
  )
  ends_adding follows (Err stop) s from to input was now all writes =
      stops_output (in_mode m) stop from to input was now all.sure.0 all.sure.1
      (part (place s all.state) from.left to.written was.written now.written all.all writes.front) writes.cause
