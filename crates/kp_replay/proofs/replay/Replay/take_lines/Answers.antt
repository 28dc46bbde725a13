use Rattle.std.proofs.Common.{◌+◌, map, refl, take, ap, refl, ◌∙◌, arith, rules}
use Rattle.std.specs.Prelude.{string_bytes}
use Rattle.kp_replay.proofs.KeptLemmas.{begins_as, goes_on_kept, lines_kept}
use Rattle.kp_replay.specs.Steps.{standing_of}
use Rattle.kp_line_laws.proofs.FirstLines.{no_longer}
use Rattle.kp_replay.proofs.StepLemmas.{lines_stand, lines_text}
use Rattle.kp_replay.proofs.TogetherLemmas.{lines_begun}
use Rattle.kp_replay.proofs.replay.Replay.take_lines.Goals as goal

pub take_line-requires : goal.take_line-requires
take_line-requires c = no_longer (standing_of c.loop-line.self) c.loop-line.invariant.begun

-- one more was taken
pub loop-line-preserved : goal.loop-line-preserved
loop-line-preserved c =
    let at = c.loop-line in
    let had = at.invariant in
    let took = c.in_ok-take_line.ensures in
    let start = standing_of c.args.self.now in
    let lines = c.args.lines.now in
    let stands =
    lines_stand (λ l. l.now) c.args.number lines at.line-index _ at.next start (standing_of at.self)
    (standing_of c.take_line.new.self) (string_bytes at.printed)
    (string_bytes c.take_line.new.text) c.loop-line-test.true had.next had.stands had.text
    took.stands took.text in
    record {
      stands = stands;
      text =
          lines_text (λ l. l.now) c.args.number lines at.line-index _ at.next start
          (standing_of at.self) (standing_of c.take_line.new.self) (string_bytes at.printed)
          (string_bytes c.take_line.new.text) c.loop-line-test.true had.next had.stands had.text
          took.stands took.text;
      begun =
          ap (λ s. s.fresh) stands
          ∙ lines_begun c.args.number (map (λ l. l.now) (take (at.line-index + 1) lines)) start
          c.requires.begun;
      next = omega (arith, had.next);
    }

pub returns-in_err-take_line-clause-kept : goal.returns-in_err-take_line-clause-kept
returns-in_err-take_line-clause-kept c =
    let at = c.loop-line in
    let start = standing_of c.args.self.now in
    let kept = goes_on_kept start (standing_of at.self) (standing_of c.take_line.new.self)
    (lines_kept c.args.number (map (λ l. l.now) (take at.line-index c.args.lines.now)) start
    (standing_of at.self) c.requires.begun at.invariant.stands)
    c.in_err-take_line.ensures.0 in
    search rules

pub returns-in_err-extend_from_slice-clause-kept : goal.returns-in_err-extend_from_slice-clause-kept
returns-in_err-extend_from_slice-clause-kept c =
    let at = c.loop-line in
    let kept = lines_kept c.args.number (map (λ l. l.now) (take at.line-index c.args.lines.now))
    (standing_of c.args.self.now) (standing_of at.self) c.requires.begun at.invariant.stands in
    search rules

pub returns-in_err-take_line-clause-front : goal.returns-in_err-take_line-clause-front
returns-in_err-take_line-clause-front c =
    let text = c.args.text.now.items in
    let front = begins_as text text refl in
    search rules

pub returns-in_err-extend_from_slice-clause-front : goal.returns-in_err-extend_from_slice-clause-front
returns-in_err-extend_from_slice-clause-front c =
    let front = begins_as c.extend_from_slice.new.self.items c.args.text.now.items
    c.in_err-extend_from_slice.ensures.items in
    search rules
