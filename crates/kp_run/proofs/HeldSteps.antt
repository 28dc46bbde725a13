-- A group of the lines that a reader holds: how the replay stands after it.
use Rattle.std.proofs.Common.{◌≡◌, ◌+◌, ◌≤◌, arith, ℕ, suc, List, length, take, ap, sym, ◌∙◌, subst, add-one, length-append}
use Rattle.std.specs.Prelude.{Option, Result, Ok, Err, OnOk, count_by}
use Rattle.kp_io.specs.Ends.{Input, Output}
use Rattle.kp_io.specs.Lines.{IsFront, IsWhole, ended_lines, is_line_feed}
use Rattle.kp_io.specs.Reader.{GivesShort, LosesTaken, ReaderState, TakesFeeds, passed, to_come}
use Rattle.kp_io.specs.Told.{FromTold, Grows}
use Rattle.kp_io.specs.declared.next_line.TheConstants.{LINE_LIMIT}
use Rattle.kp_restore_defs.specs.TableText.{text_of_lines}
use Rattle.kp_run_defs.specs.ReplayText.{Standing}
use Rattle.kp_replay.specs.Groups.{lines_from}
use Rattle.kp_run.specs.Given.{anywhere}
use Rattle.kp_run.specs.Held.{AnswersGroup}
use Rattle.kp_run.specs.Outcome.{Come, GrowsFront}
use Rattle.kp_run.specs.Stand.{GoesOn, Stands, WritesOrStops}
use Rattle.kp_mode_defs.specs.Mode.{replaying}
use Rattle.kp_run.specs.Texts.{by_lines}
use Rattle.kp_run.specs.declared.ending.Stop.{Stop}
use Rattle.kp_run.proofs.ComeLemmas.{counts_more}
use Rattle.kp_run.proofs.HeldLemmas.{come_group, come_part_group}
use Rattle.kp_run.proofs.HeldTexts.{ended_again, feeds_in, front_within, whole_lines}
use Rattle.kp_run.proofs.StandLemmas.{stops_output}

-- the reader comes further
pub further_group : {T E : Type 0} (old : ReaderState) (bytes count : ℕ) (new : ReaderState)
    → new ≡ passed bytes count old → (result : Result T E)
    → OnOk result (old.number ≤ new.number)
further_group old bytes count new passes (Ok done) =
    let more : new.number ≡ old.number + count = ap (λ r. r.number) passes in omega (arith, more)
further_group old bytes count new passes (Err stop) = tt

module _ (old : ReaderState) (number : ℕ) (held : List ℕ) (bytes count : ℕ) (s t : Standing)
    (text : List ℕ) (group : AnswersGroup (number + 1) held bytes count s t text)
    (at : number ≡ old.number) (front : IsFront held old.held) where
  same_text : take bytes old.held ≡ text_of_lines group.lines
  same_text = front_within bytes held old.held front group.within ∙ group.front

  next : number + 1 ≡ suc old.number
  next = add-one number ∙ ap suc at

  -- the reader may pass over it
  pub within_held : bytes ≤ length old.held
  within_held = omega (arith, group.within, ap length front.1, length-append held front.0)

  pub whole_held : IsWhole (take bytes old.held)
  whole_held = subst IsWhole (sym same_text) (whole_lines group.lines)

  pub count_held : count ≡ count_by is_line_feed (take bytes old.held)
  count_held =
      group.counted ∙ sym (feeds_in group.lines group.feedless)
      ∙ ap (count_by is_line_feed) (sym same_text)

  module _ (new : ReaderState) (passes : new ≡ passed bytes count old)
      (gives : (left : Option (List ℕ)) → GivesShort (ended_lines (take bytes old.held))
      (to_come old left) (to_come new left))
      (from : Input) (to : Output) (input : Input) (was now : Output)
      (stands : Stands replaying anywhere from to s old input was) where
    come : GivesShort group.lines (to_come old input.left) (to_come new input.left)
    come =
        subst (λ lines. GivesShort lines (to_come old input.left) (to_come new input.left))
        (ap ended_lines same_text ∙ ended_again group.lines group.feedless) (gives input.left)

    told : text ≡ (lines_from (suc old.number) group.lines s).text
    told = group.text ∙ ap (λ n. (lines_from n group.lines s).text) next

    counted : new.number ≡ old.number + length group.lines
    counted = ap (λ r. r.number) passes ∙ ap (λ n. old.number + n) group.counted

    -- it was taken, and written or a front of it
    pub goes_group : {T : Type 0} (result : Result T Stop)
        → ((left : Option (List ℕ)) → TakesFeeds old new left left)
        → WritesOrStops result text was now → GoesOn replaying anywhere from to result t new input now
    goes_group (Ok done) feeds writes = record {
      come =
          subst (λ k. Come replaying anywhere t k from.left (to_come new input.left) to.written now.written) (sym counted)
          (come_group s old.number group.lines from.left (to_come old input.left)
          (to_come new input.left) to.written was.written now.written stands.come come t
          (group.stands ∙ ap (λ n. (lines_from n group.lines s).next) next)
          (subst (Grows was.written now.written) told writes.whole));
      taken =
          subst (λ n. FromTold (LosesTaken 0 n) from.left input.left)
          (sym (ap (λ r. r.taken) passes)) stands.taken;
      feeds = λ open_.
          counts_more old new from.left input.left input.left
          (stands.feeds (sym (ap (λ r. r.ended) passes) ∙ open_)) (feeds input.left);
      ended = λ ended. stands.ended (sym (ap (λ r. r.ended) passes) ∙ ended);
      room = subst (λ r. r ≤ LINE_LIMIT) (sym (ap (λ r. r.room) passes)) stands.room;
      sure = (stands.sure.0, writes.sure ∙ stands.sure.1);
    }
    goes_group (Err stop) feeds writes =
        stops_output (by_lines replaying) stop from to input was now stands.sure.0 stands.sure.1
        (come_part_group s old.number group.lines from.left (to_come old input.left)
        (to_come new input.left) to.written was.written now.written stands.come come
        (subst (GrowsFront was.written now.written) told writes.front)) writes.cause
