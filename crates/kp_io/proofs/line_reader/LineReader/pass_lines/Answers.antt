use Rattle.std.proofs.Common.{rules, ◌≡◌, ◌<◌, ◌≤◌, ◌+◌, ◌-◌, ◌++◌, ◌∙◌, length, take, drop, ap, sym, subst, arith}
use Rattle.kp_io.specs.Lines.{IsWhole, ended_lines}
use Rattle.kp_io.specs.Reader.{GivesShort, TakesFeeds, to_come}
use Rattle.kp_io.proofs.PassLemmas.{part_within, drop_behind, passed_as, passed_come, passed_feeds}
use Rattle.kp_io.proofs.line_reader.LineReader.pass_lines.Goals as goal
use Rattle.kp_io.proofs.line_reader.LineReader.pass_lines.Goals.{then-bytes-gt0, else-bytes-gt0}

pub overflow_sub-bytes : goal.overflow_sub-bytes
overflow_sub-bytes c =
    let inside = c.self.inside in
    let bytes = c.args.bytes in
    let held : inside.part.bytes ++ inside.chunk ≡ c.args.self.now.held = ap (λ r. r.held) c.self.view_is in
    let some : 0 < bytes = search rules in
    rw c.pass-gathered.ensures.count
    (part_within inside.part.bytes inside.chunk bytes c.self.invariant.0.feedless
    (subst (λ h. IsWhole (take bytes h)) (sym held) c.requires.whole)
    (subst (λ h. bytes ≤ length h) (sym held) c.requires.held) some)

pub returns-clause-passed : goal.returns-clause-passed
returns-clause-passed c =
    let inside = c.self.inside in
    let bytes = c.args.bytes in
    let lines = c.args.lines in
    let now = c.args.self.now in
    let view = c.self.view_is in
    let held : inside.part.bytes ++ inside.chunk ≡ now.held = ap (λ r. r.held) view in
    elim c.if-bytes-gt0.branch [
      | then-bytes-gt0 w ↦
          let within =
          part_within inside.part.bytes inside.chunk bytes c.self.invariant.0.feedless
          (subst (λ h. IsWhole (take bytes h)) (sym held) c.requires.whole)
          (subst (λ h. bytes ≤ length h) (sym held) c.requires.held) w.if-bytes-gt0.true in
          let left : w.pass-gathered.new.self.bytes ++ w.advance.new.self ≡ drop bytes now.held =
          ap (λ p. p.bytes ++ w.advance.new.self) w.pass-gathered.ensures.next
          ∙ w.advance.ensures
          ∙ ap (λ n. drop (bytes - n) inside.chunk) w.pass-gathered.ensures.count
          ∙ drop_behind inside.part.bytes inside.chunk bytes within
          ∙ ap (drop bytes) held in
          rw w.self-inside-is
          (passed_as bytes lines now _ left (ap (λ p. p.skipping) w.pass-gathered.ensures.next ∙ sym c.requires.open)
          c.clear.ensures.items (ap (λ r. r.room) view) (ap (λ r. r.number + lines) view) (ap (λ r. r.taken) view) (ap (λ r. r.ended) view))
      | else-bytes-gt0 w ↦
          let none : 0 ≡ bytes = omega (arith, w.if-bytes-gt0.false) in
          rw w.self-inside-is
          (passed_as bytes lines now _ (held ∙ ap (λ n. drop n now.held) none) (ap (λ r. r.skipping) view)
          c.clear.ensures.items (ap (λ r. r.room) view) (ap (λ r. r.number + lines) view) (ap (λ r. r.taken) view) (ap (λ r. r.ended) view))
    ]

pub returns-clause-come : goal.returns-clause-come
returns-clause-come c = λ left.
    let held = ap (λ r. r.held) c.self.view_is in
    subst (λ r. GivesShort (ended_lines (take c.args.bytes c.args.self.now.held)) (to_come c.args.self.now left) (to_come r left))
    (sym (returns-clause-passed c))
    (passed_come c.args.bytes c.args.lines c.args.self.now left c.requires.open
    (λ ended.
    let none = c.self.invariant.7 (ap (λ r. r.ended) c.self.view_is ∙ ended) in
    sym held ∙ (λ i. (none.0 i).bytes ++ none.1 i))
    c.requires.whole c.requires.held c.requires.short)

pub returns-clause-feeds : goal.returns-clause-feeds
returns-clause-feeds c = λ left.
    subst (λ r. TakesFeeds c.args.self.now r left left) (sym (returns-clause-passed c))
    (passed_feeds c.args.bytes c.args.lines c.args.self.now left c.requires.input c.requires.held c.requires.lines)
