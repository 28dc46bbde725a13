use Rattle.std.proofs.Common.{map, sym, ap, ◌∙◌}
use Rattle.std.specs.FinMap as finite
use Rattle.std.specs.Option.{unwrap_or}
use Rattle.kp_lemmas.proofs.Entries.{empty_entries}
use Rattle.kp_base.specs.Keys.{port_key_cmp}
use Rattle.kp_base.specs.declared.key.PortKey.{PortKey}
use Rattle.kp_base.proofs.Maps.{lookup-get}
use Rattle.kp_object_defs.specs.PortInfo.{PortInfo}
use Rattle.kp_vmap_defs.proofs.Destinations.{destination_ties, destination_total}
use Rattle.kp_vmap.proofs.family.FamilyPorts.at.Goals as goal

pub returns-in-Some : goal.returns-in-Some
returns-in-Some c =
    c.as_slice.ensures
    ∙ ap (λ o. finite.values (unwrap_or o finite.empty))
    (c.in-Some.ensures.value
    ∙ lookup-get destination_total destination_ties c.args.self.now.places.entries c.args.at.now)

pub returns-in-None : goal.returns-in-None
returns-in-None c =
    sym (ap (map (λ (e : PortKey × PortInfo). e.1)) (empty_entries port_key_cmp))
    ∙ ap (λ o. finite.values (unwrap_or o finite.empty))
    (c.in-None.ensures.value
    ∙ lookup-get destination_total destination_ties c.args.self.now.places.entries c.args.at.now)
