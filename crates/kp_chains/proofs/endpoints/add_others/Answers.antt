use Rattle.kp_table_defs.specs.Keys.{has_endpoint}
use Rattle.kp_chains.proofs.OtherEndpoints.{next_kept}
use Rattle.kp_chains.proofs.endpoints.add_others.Goals as goal

pub loop-endpoint-preserved : goal.loop-endpoint-preserved
loop-endpoint-preserved c =
    let e = c.endpoint-item.result in
    next_kept (has_endpoint c.args.others.now) c.args.endpoints.now c.loop-endpoint.endpoint-index e _ _ _ _
    (c.in_ok-others.ensures e) c.in_ok-push_unless_among.ensures.added c.loop-endpoint.invariant
    c.loop-endpoint-test.true c.endpoint-item.is
