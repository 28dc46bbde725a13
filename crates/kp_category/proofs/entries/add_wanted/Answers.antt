use Rattle.std.proofs.Common.{◌++◌, ap, ◌∙◌}
use Rattle.std.specs.Option.{option_to_list}
use Rattle.kp_object_defs.specs.Entries.{candidate_of, number_at, wanted_candidate}
use Rattle.kp_lemmas.proofs.ListFacts.{filter_map_step}
use Rattle.kp_category.proofs.entries.add_wanted.Goals as goal

pub loop-endpoint-preserved : goal.loop-endpoint-preserved
loop-endpoint-preserved c =
    let make = wanted_candidate c.args.family c.args.node.now c.args.port.now in
    c.in_ok-add_endpoint.ensures
    ∙ ap (λ n. c.loop-endpoint.found.items ++ option_to_list (candidate_of c.args.family c.args.node.now n c.endpoint-item.result.entry)) (c.number_at-number.ensures ∙ ap (number_at c.args.port.now.port_name c.args.port.now.proto) c.as_slice.ensures)
    ∙ ap (λ made. made ++ option_to_list (make c.endpoint-item.result)) c.loop-endpoint.invariant
    ∙ filter_map_step make c.args.found.now.items c.args.wanted.now c.loop-endpoint.endpoint-index c.endpoint-item.result c.loop-endpoint-test.true c.endpoint-item.is
