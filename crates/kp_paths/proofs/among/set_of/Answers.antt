use Rattle.std.proofs.Common.{ap, ◌∙◌}
use Rattle.std.proofs.lemmas.List.{take_all}
use Rattle.kp_table_defs.specs.Keys as keys
use Rattle.kp_chains.proofs.OtherEndpoints.{next_in}
use Rattle.kp_paths.proofs.EndpointTests.{either_way}
use Rattle.kp_paths.proofs.among.set_of.Goals as goal

pub loop-endpoint-preserved : goal.loop-endpoint-preserved
loop-endpoint-preserved c =
    next_in c.args.endpoints.now c.loop-endpoint.endpoint-index c.endpoint-item.result _ _
    c.loop-endpoint.invariant c.in_ok-insert.ensures.updates c.loop-endpoint-test.true
    c.endpoint-item.is

pub returns : goal.returns
returns c = λ e.
    c.loop-endpoint.invariant e
    ∙ ap (λ es. keys.has_endpoint es e)
    (take_all c.loop-endpoint.endpoint-index c.args.endpoints.now c.loop-endpoint-test.false)
    ∙ either_way c.args.endpoints.now e
