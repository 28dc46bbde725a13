use Rattle.std.proofs.Common.{◌≡◌, ◌<◌, length, filter, ap, subst, ◌∙◌}
use Rattle.std.specs.FinMap as finite
use Rattle.kp_vmap.specs.Here.{is_here}
use Rattle.kp_vmap.specs.Merged.{merged}
use Rattle.kp_vmap.specs.Places.{at_place}
use Rattle.kp_vmap_defs.specs.Remainder.{known_in}
use Rattle.kp_vmap.proofs.PortsFound.{few_left, ports_found}
use Rattle.kp_vmap.proofs.source.ports_here.Goals as goal

-- the lists at the packet's destinations, as one
found : (c : goal.After-at-2)
    → merged c.at.result.now c.at-2.result.now ≡ filter (is_here c.args.packet.now)
    (known_in c.args.map.now c.args.family)
found c =
    let packet = c.args.packet.now in
    let f = c.ports_of-known.result.now in
    let places = f.places.entries in
    (λ i. merged
    ((c.at.ensures ∙ ap (λ d. finite.values (at_place places d)) c.destination.ensures) i)
    ((c.at-2.ensures ∙ ap (λ d. finite.values (at_place places d)) c.destination-2.ensures) i))
    ∙ ports_found f packet c.ports_of-known.ensures.placed
    ∙ ap (filter (is_here packet)) c.ports_of-known.ensures.known

pub invariant_of-result : goal.invariant_of-result
invariant_of-result c = record {
  short = c.config.result.now.name_to;
  few =
      few_left (is_here c.args.packet.now) (known_in c.args.map.now c.args.family)
      (merged c.at.result.now c.at-2.result.now) (found c)
      (subst (λ is. length is < 18446744073709551616) c.ports_of-known.ensures.known c.are_counted.ensures);
}

pub returns-clause-ports : goal.returns-clause-ports
returns-clause-ports c = found c.before
