use Rattle.kp_desired.specs.Numbers.{named}
use Rattle.kp_desired.proofs.PortNumbers.{numbers_step}
use Rattle.kp_desired.proofs.ports.numbers_by_name.Goals as goal

pub loop-port-preserved : goal.loop-port-preserved
loop-port-preserved c =
    numbers_step c.args.ports.now c.loop-port.port-index c.port-item.result c.loop-port-test.true c.port-item.is (named c.loop-port.numbers.entries) _ c.in_ok-add_number.ensures c.loop-port.invariant
