use Rattle.std.proofs.Common.{◌≡◌, ◌+◌, length, ap, ◌∙◌, arith}
use Rattle.std.proofs.lemmas.Result.{IfOk-weaker, on_ok_weaker}
use Rattle.kp_vmap_defs.specs.VerdictMap.{doors_of_service}
use Rattle.kp_vmap.specs.Places.{doors_if}
use Rattle.kp_vmap.proofs.doors.doors_of.Goals as goal

pub returns-clause-doors : goal.returns-clause-doors
returns-clause-doors g c =
    IfOk-weaker c.doors_if_known.result
    (λ ds. ds ≡ doors_if c.in_ok-info.info)
    (λ ds. ds ≡ doors_of_service c.args.family c.args.service.now c.args.port.now)
    (λ ds is. is ∙ c.in_ok-info.ensures)
    c.doors_if_known.ensures.doors

pub returns-clause-steps : goal.returns-clause-steps
returns-clause-steps g c =
    on_ok_weaker c.doors_if_known.result (λ is.
    is ∙ ap (λ ds. c.args.steps.now + length ds) c.in_ok-info.ensures)
    c.doors_if_known.ensures.steps

pub returns-clause-bound : goal.returns-clause-bound
returns-clause-bound g c =
    omega (arith, c.doors_if_known.ensures.bound, ap length c.in_ok-info.ensures)
