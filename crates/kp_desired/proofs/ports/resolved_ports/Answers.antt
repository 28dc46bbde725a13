use Rattle.std.proofs.Common.{[], ◌++◌, ap, ◌∙◌}
use Rattle.std.specs.List.{filter_map}
use Rattle.std.specs.Option.{option_to_list}
use Rattle.std.proofs.lemmas.List.{take_all}
use Rattle.kp_desired.specs.Numbers.{named, number_among, resolved_in}
use Rattle.kp_desired.proofs.PortNumbers.{resolved-same}
use Rattle.kp_lemmas.proofs.ListFacts.{filter_map_step}
use Rattle.kp_desired.proofs.ports.resolved_ports.Goals as goal

pub loop-port-preserved : goal.loop-port-preserved
loop-port-preserved c =
    let resolve = resolved_in (named c.in_ok-numbers.numbers.entries) in
    c.in_ok-add_resolved.ensures
    ∙ ap (λ made. made ++ option_to_list (resolve c.port-item.result)) c.loop-port.invariant
    ∙ filter_map_step resolve [] c.as_slice-port-items.result.now c.loop-port.port-index c.port-item.result c.loop-port-test.true c.port-item.is

pub returns : goal.returns
returns c =
    let numbers = named c.in_ok-numbers.numbers.entries in
    let same = resolved-same c.args.pod.now numbers (λ name. c.in_ok-numbers.ensures name ∙ ap (λ ports. number_among ports name) c.as_slice.ensures) in
    c.loop-port.invariant
    ∙ ap (filter_map (resolved_in numbers)) (take_all c.loop-port.port-index c.as_slice-port-items.result.now c.loop-port-test.false ∙ c.as_slice-port-items.ensures)
    ∙ (λ i. filter_map (λ p. same p i) c.args.service.now.ports)
