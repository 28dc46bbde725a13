use Rattle.std.proofs.Common.{arith}
use Rattle.std.specs.Option.{option_to_list}
use Rattle.std.proofs.lemmas.List.Sums.{sum_by-cons}
use Rattle.std.proofs.lemmas.Result.{on_ok_weaker}
use Rattle.kp_base.specs.declared.address.Family.TheVariants.{V4}
use Rattle.kp_plane.specs.Families.{rules_by}
use Rattle.kp_plane.proofs.refresh.refresh_both.Goals as goal

pub returns-in_err-refresh-clause-written : goal.returns-in_err-refresh-clause-written
returns-in_err-refresh-clause-written g c = λ config o is.
    (c.refresh.ensures.written config o V4 is.0, is.1)

pub returns-in_err-refresh-clause-untouched : goal.returns-in_err-refresh-clause-untouched
returns-in_err-refresh-clause-untouched g c =
    (c.refresh.ensures.untouched, c.requires.untouched.1)

pub returns-in_err-refresh-clause-steps : goal.returns-in_err-refresh-clause-steps
returns-in_err-refresh-clause-steps g c = λ dirty have.
    let x = c.args.writers.now in
    omega (
      arith,
      c.refresh.ensures.steps (dirty x.four.family) have.0,
      sum_by-cons (rules_by c.args.objects.now dirty) x.four (option_to_list x.six),
    )

pub returns-in_err-refresh-clause-asked : goal.returns-in_err-refresh-clause-asked
returns-in_err-refresh-clause-asked g c = omega (arith, c.refresh.ensures.asked)

pub returns-clause-written : goal.returns-clause-written
returns-clause-written g c = λ config o is.
    (c.refresh.ensures.written config o V4 is.0, c.refresh_six.ensures.written config o is.1)

pub returns-clause-untouched : goal.returns-clause-untouched
returns-clause-untouched g c = (c.refresh.ensures.untouched, c.refresh_six.ensures.untouched)

pub returns-clause-ok : goal.returns-clause-ok
returns-clause-ok g c =
    on_ok_weaker c.refresh_six.result (λ six. (c.in_ok-refresh.ensures.ok, six))
    c.refresh_six.ensures.ok

pub returns-clause-steps : goal.returns-clause-steps
returns-clause-steps g c = λ dirty have.
    let x = c.args.writers.now in
    omega (
      arith,
      c.refresh.ensures.steps (dirty x.four.family) have.0,
      c.refresh_six.ensures.steps dirty have.1,
      sum_by-cons (rules_by c.args.objects.now dirty) x.four (option_to_list x.six),
    )

pub returns-clause-asked : goal.returns-clause-asked
returns-clause-asked g c = omega (arith, c.refresh.ensures.asked, c.refresh_six.ensures.asked)
