use Rattle.std.proofs.Common.{ap, ◌∙◌}
use Rattle.kp_table_defs.specs.Keys.{has_endpoint}
use Rattle.kp_chains.specs.Named.{endpoint_row}
use Rattle.kp_chains.proofs.OtherEndpoints.{next_mapped}
use Rattle.kp_chains.proofs.endpoints.add_other_chains.Goals as goal

pub loop-endpoint-preserved : goal.loop-endpoint-preserved
loop-endpoint-preserved c =
    let info = c.args.info.now in
    let e = c.endpoint-item.result in
    next_mapped (λ x. has_endpoint info.lists.cluster x.endpoint) (endpoint_row c.args.family info) c.args.endpoints.now
    c.loop-endpoint.endpoint-index e _ _ _ _
    (c.in_ok-others.ensures e.endpoint ∙ ap (λ os. has_endpoint os e.endpoint) c.as_slice.ensures) c.in_ok-add_unless_among.ensures c.loop-endpoint.invariant
    c.loop-endpoint-test.true c.endpoint-item.is
