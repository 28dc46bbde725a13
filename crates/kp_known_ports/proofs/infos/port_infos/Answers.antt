use Rattle.std.proofs.Common.{map, subst, sym, ap, ◌∙◌}
use Rattle.kp_known_ports.specs.Known.{AreStored}
use Rattle.kp_object_laws.proofs.PortByKey.{all_stored}
use Rattle.kp_known_ports.proofs.infos.port_infos.Goals as goal

pub infos_of_services-requires-clause-stored : goal.infos_of_services-requires-clause-stored
infos_of_services-requires-clause-stored g c =
    let o = c.args.objects.now in
    subst (AreStored o) (sym (ap (map (λ s. s.now)) c.as_slice.ensures.value ∙ c.in_ok-services.ensures.found))
    (all_stored o c.in_ok-services.ensures.own_keys)
