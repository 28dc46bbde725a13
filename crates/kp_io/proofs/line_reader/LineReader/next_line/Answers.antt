use Rattle.std.proofs.Common.{rules, ◌≡◌, ◌+◌, ◌≤◌, ◌∷◌, ◌++◌, true, not, length, Ok, refl, ap, sym, arith}
use Rattle.std.specs.List.{list_any}
use Rattle.kp_io.specs.Gather.{feeds_of, given_part}
use Rattle.kp_io.specs.Lines.{is_line_feed}
use Rattle.kp_io.specs.Reader.{ReaderState, to_come}
use Rattle.kp_io.specs.Told.{FromTold}
use Rattle.kp_io.specs.declared.next_line.TheConstants.{INPUT_LIMIT}
use Rattle.kp_io.proofs.ComeLemmas.{line_answers, short_answers, long_answers, feeds_answer, over_fits, one_feed, unasked_source}
use Rattle.kp_io.proofs.line_reader.LineReader.next_line.Goals as goal
use Rattle.kp_io.proofs.line_reader.LineReader.next_line.Goals.{else-not-whole-via-then-not-whole+else-is_empty, else-not-whole-via-else-not-whole, then-hand_out, else-hand_out}

pub returns-then-self-gt-INPUT_LIMIT-clause-asked :
    goal.returns-then-self-gt-INPUT_LIMIT-clause-asked
returns-then-self-gt-INPUT_LIMIT-clause-asked g c = unasked_source g.S.Source.input c.args.source.now

pub returns-then-self-clause-asked : goal.returns-then-self-clause-asked
returns-then-self-clause-asked g c = unasked_source g.S.Source.input c.args.source.now

pub returns-in_err-whole-clause-feeds : goal.returns-in_err-whole-clause-feeds
returns-in_err-whole-clause-feeds g c = λ open_.
    let inside = c.self.inside in
    let low : inside.taken ≤ INPUT_LIMIT = search rules in
    rw (← c.self.view_is)
    (feeds_answer INPUT_LIMIT inside.part.bytes inside.chunk c.gather_line.new.part.bytes c.gather_line.new.chunk inside.taken c.gather_line.new.taken 0 inside.number inside.number
    (g.S.Source.input c.args.source.now).left (g.S.Source.input c.gather_line.new.source).left c.self.invariant.0.feedless c.in_err-whole.ensures.part.feedless
    (omega (arith, low)) (over_fits INPUT_LIMIT c.gather_line.new.taken (length c.gather_line.new.chunk) c.in_err-whole.ensures.over) (omega arith) c.in_err-whole.ensures.feeds)

-- the line that was gathered is the first that was to come
pub returns-clause-answer : goal.returns-clause-answer
returns-clause-answer g c =
    let inside = c.self.inside in
    let part = c.gather_line.new.part in
    let chunk = c.gather_line.new.chunk in
    let next = c.hand_out.ensures.next c.in_ok-whole.ensures.part in
    let was : ReaderState = record { held = inside.part.bytes ++ inside.chunk; skipping = inside.part.skipping; line = inside.line.items; room = inside.room; number = inside.number; taken = inside.taken; ended = inside.ended } in
    let now : ReaderState = record { held = c.hand_out.new.self.bytes ++ chunk; skipping = c.hand_out.new.self.skipping; line = c.hand_out.new.line.items; room = inside.room; number = inside.number + 1; taken = c.gather_line.new.taken; ended = not c.in_ok-whole.whole } in
    let before = to_come was (g.S.Source.input c.args.source.now).left in
    let after = to_come now (g.S.Source.input c.gather_line.new.source).left in
    let come : FromTold (λ come rest. come ≡ given_part part ∷ rest) before after =
    line_answers c.in_ok-whole.whole was now inside.part part inside.chunk chunk (given_part part) (g.S.Source.input c.args.source.now).left (g.S.Source.input c.gather_line.new.source).left
    c.in_ok-whole.ensures.part (record { open_ = c.if-self.false; held = refl; skips = refl })
    (λ yes. record { open_ = ap not yes; held = ap (λ p. p.bytes ++ chunk) next; skips = ap (λ p. p.skipping) next })
    (λ no. ap not no)
    (λ no. elim c.else-not-whole.branch [ else-not-whole-via-then-not-whole+else-is_empty w ↦ search rules | else-not-whole-via-else-not-whole w ↦ search rules ])
    refl c.in_ok-whole.ensures.gathers in
    rw (← c.self.view_is)
    (elim c.if-hand_out.branch [
      | then-hand_out w ↦ short_answers c.if-hand_out.result part c.hand_out.new.line.items (inside.number + 1) before after come c.hand_out.ensures.line (search rules) w.result-is
      | else-hand_out w ↦ long_answers c.if-hand_out.result part c.hand_out.new.line.items (inside.number + 1) before after come (search rules) w.result-is
    ])

pub returns-clause-feeds : goal.returns-clause-feeds
returns-clause-feeds g c = λ open_.
    let inside = c.self.inside in
    let whole : c.in_ok-whole.whole ≡ true = search rules in
    let low : inside.taken ≤ INPUT_LIMIT = search rules in
    let next = c.hand_out.ensures.next c.in_ok-whole.ensures.part in
    rw (← c.self.view_is)
    (feeds_answer INPUT_LIMIT inside.part.bytes inside.chunk c.hand_out.new.self.bytes c.gather_line.new.chunk inside.taken c.gather_line.new.taken (feeds_of (Ok c.in_ok-whole.whole)) inside.number (inside.number + 1)
    (g.S.Source.input c.args.source.now).left (g.S.Source.input c.gather_line.new.source).left c.self.invariant.0.feedless (ap (λ p. list_any is_line_feed p.bytes) next)
    (omega (arith, low)) (over_fits INPUT_LIMIT c.gather_line.new.taken (length c.gather_line.new.chunk) c.in_ok-whole.ensures.over)
    (sym (ap (λ n. inside.number + n) (one_feed c.in_ok-whole.whole whole))) c.in_ok-whole.ensures.feeds)
