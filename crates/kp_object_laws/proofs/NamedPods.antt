-- The entries of the endpoints that a Service wants name their pods.
use Rattle.std.proofs.Common.{◌≡◌, Bool, true, false, cond, ℕ, List, [], ◌∷◌, Option, Some, None, option_and_then, filter, refl, not, ◌||◌}
use Rattle.std.specs.FinMap as finite
use Rattle.kp_base.specs.Net.{AddressParts}
use Rattle.kp_base.specs.declared.address.Family.{Family}
use Rattle.kp_types.specs.declared.service.Service.{Service}
use Rattle.kp_types.specs.declared.slice.SlicePort.{SlicePort}
use Rattle.kp_types.specs.declared.slice.Wanted.{Wanted}
use Rattle.kp_types.specs.declared.pod.Pod.{Pod}
use Rattle.kp_object_defs.specs.Objects.{zone_of}
use Rattle.kp_object_defs.specs.Desired.{selects, desired_of, zone_among, in_name_order, with_ports, entry_of, resolved_ports, has_family, pod_address}
use Rattle.kp_object_defs.specs.Packing.{same_option, same_object}
use Rattle.kp_object_defs.proofs.SameObjects.{object_itself}
use Rattle.kp_object_defs.proofs.AllOf.{holds_of, all_filter_map}
use Rattle.kp_object_laws.specs.ObjectLaws.{WantedNamePods, DesiredNamePods}

-- the entry of an endpoint names its pod
abbrev names_pod : Wanted → Bool
names_pod w = same_option same_object w.entry.pod (Some w.pod)

of_ports : (s : Service) (pod : Pod) (zone : Option (List ℕ)) (a : AddressParts) (ports : List SlicePort)
    → holds_of names_pod (with_ports pod (entry_of s pod zone a) ports) ≡ true
of_ports s pod zone a [] = refl
of_ports s pod zone a (p ∷ ps) = object_itself pod.key

of_address : (s : Service) (pod : Pod) (zone : Option (List ℕ)) (address : Option AddressParts)
    → holds_of names_pod (option_and_then (λ a. with_ports pod (entry_of s pod zone a) (resolved_ports s pod)) address) ≡ true
of_address s pod zone None = refl
of_address s pod zone (Some a) = of_ports s pod zone a _

of_finished : (finished : Bool) (made : Option Wanted) → holds_of names_pod made ≡ true
    → holds_of names_pod (cond finished None made) ≡ true
of_finished true made h = refl
of_finished false made h = h

of_pod : (family : Family) (zone_at : List ℕ → Option (List ℕ)) (s : Service) (pod : Pod)
    → holds_of names_pod (desired_of family zone_at s pod) ≡ true
of_pod family zone_at s pod =
    of_finished (not (has_family family s) || pod.finished) _
    (of_address s pod (option_and_then zone_at pod.node) (pod_address family pod))

pub wanted_name_pods : WantedNamePods
wanted_name_pods family s pods nodes =
    all_filter_map names_pod _ (of_pod family (zone_among nodes) s)
    (in_name_order (filter (selects s) pods))

pub desired_name_pods : DesiredNamePods
desired_name_pods family o s =
    all_filter_map names_pod _ (of_pod family (zone_of o) s)
    (filter (selects s) (finite.values o.pods))
