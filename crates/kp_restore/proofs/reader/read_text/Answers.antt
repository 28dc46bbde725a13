use Rattle.std.proofs.Common.{subst, IfSome}
use Rattle.std.proofs.lemmas.Option.{IfSome_then}
use Rattle.kp_restore.specs.Reading.{IsRead, IsTaken, Refused, Unfinished}
use Rattle.kp_restore.specs.Steps.{start, step}
use Rattle.kp_restore.proofs.Reading.{read_more, one_number, answered, not_answered}
use Rattle.kp_restore.proofs.reader.read_text.Goals as goal

pub loop-line-preserved : goal.loop-line-preserved
loop-line-preserved c =
    read_more c.loop-line.invariant c.in-Some.line.now c.in-Some.behind.now c.in-Some.ensures.parts
    (subst (λ o. IfSome o (IsTaken c.args.family (step c.args.form) c.loop-line.so_far c.in-Some.line.now)) c.in-Some-2.is c.in_ok-next.ensures.taken)

pub returns-in-None-clause-bad : goal.returns-in-None-clause-bad
returns-in-None-clause-bad c n is = (
  c.loop-line.so_far,
  c.loop-line.rest.now,
  subst (IsRead c.args.family (step c.args.form) start c.args.bytes.now c.loop-line.so_far c.loop-line.rest.now)
      (one_number is) c.loop-line.invariant,
  Refused c.in-Some.line.now c.in-Some.behind.now c.in-Some.ensures.parts c.in-Some.ensures.line
      (c.in_ok-next.ensures.refused c.in-None.is),
)

pub returns-clause-ok : goal.returns-clause-ok
returns-clause-ok c =
    answered _ c.finished.result _ c.ok_or.result c.ok_or.ensures.value
    (IfSome_then c.finished.result c.finished.ensures.value (λ value h. (
      c.loop-line.so_far,
      c.loop-line.number,
      subst (λ rest. IsRead c.args.family (step c.args.form) start c.args.bytes.now c.loop-line.so_far rest c.loop-line.number)
          h.0 c.loop-line.invariant,
      h.1,
      h.2,
    )))

pub returns-clause-bad : goal.returns-clause-bad
returns-clause-bad c n is =
    let none = not_answered c.finished.result c.loop-line.number n c.ok_or.result c.ok_or.ensures.value is in (
      c.loop-line.so_far,
      c.loop-line.rest.now,
      subst (IsRead c.args.family (step c.args.form) start c.args.bytes.now c.loop-line.so_far c.loop-line.rest.now) none.1
          c.loop-line.invariant,
      Unfinished (c.first_line.ensures.none c.in_default.is) (c.finished.ensures.none none.0),
    )
