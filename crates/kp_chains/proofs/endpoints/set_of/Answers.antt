use Rattle.kp_chains.proofs.OtherEndpoints.{next_in}
use Rattle.kp_chains.proofs.endpoints.set_of.Goals as goal

pub loop-endpoint-preserved : goal.loop-endpoint-preserved
loop-endpoint-preserved c =
    next_in c.args.endpoints.now c.loop-endpoint.endpoint-index c.endpoint-item.result _ _
    c.loop-endpoint.invariant c.in_ok-insert.ensures.updates c.loop-endpoint-test.true c.endpoint-item.is
