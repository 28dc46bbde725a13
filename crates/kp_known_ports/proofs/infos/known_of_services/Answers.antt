use Rattle.std.proofs.Common.{◌+◌, arith}
use Rattle.kp_known_ports.proofs.Counted.{next_count, some_count}
use Rattle.kp_known_ports.proofs.infos.known_of_services.Goals as goal

pub returns-in_err-add_service-clause-bound : goal.returns-in_err-add_service-clause-bound
returns-in_err-add_service-clause-bound g c =
    let services = c.args.services.now in
    let i = c.loop-service.service-index in
    omega (
      arith,
      c.in_err-add_service.ensures.bound,
      c.loop-service.invariant.asked,
      next_count services i c.service-item.result c.loop-service-test.true c.service-item.is,
      some_count services (i + 1),
    )
