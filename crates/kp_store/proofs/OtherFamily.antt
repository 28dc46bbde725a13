-- A Service wants no endpoint in a family that isn't its own.
use Rattle.std.proofs.Common.{◌≡◌, ◌||◌, false, cond, not, List, [], ◌∷◌, None, option_and_then, filter, filter_map, refl, ap, ◌∙◌}
use Rattle.std.specs.List.{cons_option}
use Rattle.std.specs.FinMap as finite
use Rattle.kp_base.specs.declared.address.Family.{Family}
use Rattle.kp_types.specs.declared.pod.Pod.{Pod}
use Rattle.kp_types.specs.declared.service.Service.{Service}
use Rattle.kp_object_defs.specs.Desired.{desired_endpoints_of, desired_of, entry_of, has_family, pod_address, resolved_ports, selects, with_ports}
use Rattle.kp_object_defs.specs.Objects.{Objects, zone_of}

pub none_desired : (family : Family) (o : Objects) (s : Service) → has_family family s ≡ false
    → desired_endpoints_of family o s ≡ []
none_desired family o s lacks = none_of (filter (selects s) (finite.values o.pods))
  where
    none_of : (pods : List Pod) → filter_map (desired_of family (zone_of o) s) pods ≡ []
    none_of [] = refl
    none_of (pod ∷ pods) =
        ap (λ has. cons_option (cond (not has || pod.finished) None
        (option_and_then (λ a. with_ports pod
        (entry_of s pod (option_and_then (zone_of o) pod.node) a) (resolved_ports s pod))
        (pod_address family pod))) (filter_map (desired_of family (zone_of o) s) pods)) lacks
        ∙ none_of pods
