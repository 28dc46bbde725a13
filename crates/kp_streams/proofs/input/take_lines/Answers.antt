use Rattle.std.proofs.Common.{◌≡◌, ◌≤◌, ◌∷◌, ◌∙◌, nat_lt, ap, sym, subst, rules}
use Rattle.std.specs.Prelude.{Some, None, ◌||◌}
use Rattle.std.specs.List.{list_any}
use Rattle.std.proofs.lemmas.Bool.{or_left, or_right}
use Rattle.kp_io.specs.Lines.{is_line_feed}
use Rattle.kp_io.specs.Reader.{to_come}
use Rattle.kp_io.specs.Told.{FromTold}
use Rattle.kp_io.specs.declared.next_line.TheConstants.{INPUT_LIMIT}
use Rattle.kp_streams.specs.Streams.{reading_in}
use Rattle.kp_streams.specs.WholeInput.{HasRead}
use Rattle.kp_streams.proofs.ReadLines.{at_end, lost_more, read_all, read_more}
use Rattle.kp_streams.proofs.input.take_lines.Goals as goal

-- the line that was given was read
pub lines-preserved-in-Continue-1 : goal.lines-preserved-in-Continue-1
lines-preserved-in-Continue-1 g c =
    let counts = rw c.in-Ok-Line.field-0-is at c.in-Ok-Line.ensures.counts in
    let answer = rw c.in-Ok-Line.field-0-is at c.in-Ok-Line.ensures.answer in
    let again = rw c.in-Ok-Line.field-0-is at c.in-Ok-Line.ensures.again in
    let reader = c.lines.reader in
    let new = c.next_line.new.self in
    let first = (g.S.Source.input c.args.source.now).left in
    let left = (g.S.Source.input c.lines.source).left in
    let end = (g.S.Source.input c.next_line.new.source).left in
    let given =
    subst (λ b. FromTold (λ xs ys. xs ≡ Some b ∷ ys) (to_come reader left) (to_come new end))
    (sym c.bytes.ensures) answer in
    record {
      read =
          subst (λ r. HasRead r new first end) (sym c.in_ok-take_line-in-Ok-Line.ensures.ok)
          (read_more (reading_in c.lines.lines) reader new c.in-Ok-Line.field-0-0
          (Some c.bytes.result.now) first left end c.lines.invariant.read counts.0 counts.1 given
          c.in-Ok-Line.ensures.input.all
          (λ ended.
          at_end reader.ended left end c.lines.invariant.read.ended
          (λ was. let h = again was in absurd (cc))
          (λ was. c.in-Ok-Line.ensures.ended was ended)));
      sure = c.in-Ok-Line.ensures.cause.kept (λ e. absurd (cc)) ∙ c.lines.invariant.sure;
    }

-- a line that is too long was refused
pub lines-preserved : goal.lines-preserved
lines-preserved g c =
    let counts = rw c.in-Err-TooLongLine.field-0-is at c.in-Err-TooLongLine.ensures.counts in
    let answer = rw c.in-Err-TooLongLine.field-0-is at c.in-Err-TooLongLine.ensures.answer in
    let again = rw c.in-Err-TooLongLine.field-0-is at c.in-Err-TooLongLine.ensures.again in
    let cause = rw c.in-Err-TooLongLine.field-0-is at c.in-Err-TooLongLine.ensures.cause in
    let reader = c.lines.reader in
    let new = c.next_line.new.self in
    let first = (g.S.Source.input c.args.source.now).left in
    let left = (g.S.Source.input c.lines.source).left in
    let end = (g.S.Source.input c.next_line.new.source).left in
    record {
      read =
          subst (λ r. HasRead r new first end) (sym c.in_ok-take_line-in-Err-TooLongLine.ensures.ok)
          (read_more (reading_in c.lines.lines) reader new c.in-Err-TooLongLine.field-0-0 None
          first left end c.lines.invariant.read counts.0 counts.1 answer
          c.in-Err-TooLongLine.ensures.input.all
          (λ ended.
          at_end reader.ended left end c.lines.invariant.read.ended
          (λ was. let h = again was in absurd (cc))
          (λ was. c.in-Err-TooLongLine.ensures.ended was ended)));
      sure = cause.kept (λ e. absurd (cc)) ∙ c.lines.invariant.sure;
    }

-- at the end all lines were read
pub returns-in-Ok-End-clause-whole : goal.returns-in-Ok-End-clause-whole
returns-in-Ok-End-clause-whole g c =
    let counts = rw c.in-Ok-End.field-0-is at c.in-Ok-End.ensures.counts in
    let answer = rw c.in-Ok-End.field-0-is at c.in-Ok-End.ensures.answer in
    let reader = c.lines.reader in
    let taken = c.next_line.new.self.taken in
    let left = (g.S.Source.input c.lines.source).left in
    let end = (g.S.Source.input c.next_line.new.source).left in
    let limit : c.next_line.new.self.taken ≤ INPUT_LIMIT = search rules in
    read_all (reading_in c.lines.lines) reader taken (g.S.Source.input c.args.source.now).left left end
    (to_come c.next_line.new.self end) c.lines.invariant.read answer c.in-Ok-End.ensures.input.all
    (at_end reader.ended left end c.lines.invariant.read.ended
    (λ was.
    ap (λ s. (g.S.Source.input s).left)
    (c.in-Ok-End.ensures.unasked
    (or_right (list_any is_line_feed reader.held) (reader.ended || nat_lt INPUT_LIMIT reader.taken)
    (or_left reader.ended (nat_lt INPUT_LIMIT reader.taken) was))))
    (λ was. c.in-Ok-End.ensures.ended was counts.3))
    limit

-- what was taken is what is no longer left
pub returns-in-Ok-End-clause-left : goal.returns-in-Ok-End-clause-left
returns-in-Ok-End-clause-left g c =
    lost_more c.lines.reader.taken c.next_line.new.self.taken
    (g.S.Source.input c.args.source.now).left (g.S.Source.input c.lines.source).left
    (g.S.Source.input c.next_line.new.source).left c.in-Ok-End.ensures.bounded.input
    c.lines.invariant.read.taken c.in-Ok-End.ensures.input.all

pub returns-in-Err-ReadFault-clause-left : goal.returns-in-Err-ReadFault-clause-left
returns-in-Err-ReadFault-clause-left g c =
    lost_more c.lines.reader.taken c.next_line.new.self.taken
    (g.S.Source.input c.args.source.now).left (g.S.Source.input c.lines.source).left
    (g.S.Source.input c.next_line.new.source).left c.in-Err-ReadFault.ensures.bounded.input
    c.lines.invariant.read.taken c.in-Err-ReadFault.ensures.input.all

pub returns-in-Err-InputTooLong-clause-left : goal.returns-in-Err-InputTooLong-clause-left
returns-in-Err-InputTooLong-clause-left g c =
    lost_more c.lines.reader.taken c.next_line.new.self.taken
    (g.S.Source.input c.args.source.now).left (g.S.Source.input c.lines.source).left
    (g.S.Source.input c.next_line.new.source).left c.in-Err-InputTooLong.ensures.bounded.input
    c.lines.invariant.read.taken c.in-Err-InputTooLong.ensures.input.all

pub returns-in-Err-NoMemory-clause-left : goal.returns-in-Err-NoMemory-clause-left
returns-in-Err-NoMemory-clause-left g c =
    lost_more c.lines.reader.taken c.next_line.new.self.taken
    (g.S.Source.input c.args.source.now).left (g.S.Source.input c.lines.source).left
    (g.S.Source.input c.next_line.new.source).left c.in-Err-NoMemory.ensures.bounded.input
    c.lines.invariant.read.taken c.in-Err-NoMemory.ensures.input.all

pub returns-in_err-take_line-in-Ok-Line-clause-left : goal.returns-in_err-take_line-in-Ok-Line-clause-left
returns-in_err-take_line-in-Ok-Line-clause-left g c =
    lost_more c.lines.reader.taken c.next_line.new.self.taken
    (g.S.Source.input c.args.source.now).left (g.S.Source.input c.lines.source).left
    (g.S.Source.input c.next_line.new.source).left c.in-Ok-Line.ensures.bounded.input
    c.lines.invariant.read.taken c.in-Ok-Line.ensures.input.all

pub returns-in_err-take_line-in-Err-TooLongLine-clause-left : goal.returns-in_err-take_line-in-Err-TooLongLine-clause-left
returns-in_err-take_line-in-Err-TooLongLine-clause-left g c =
    lost_more c.lines.reader.taken c.next_line.new.self.taken
    (g.S.Source.input c.args.source.now).left (g.S.Source.input c.lines.source).left
    (g.S.Source.input c.next_line.new.source).left c.in-Err-TooLongLine.ensures.bounded.input
    c.lines.invariant.read.taken c.in-Err-TooLongLine.ensures.input.all
