-- The doors of a port, part by part.
use Rattle.std.proofs.Common.{◌≡◌, ℕ, List, [], ◌∷◌, ◌++◌, map, Option, Some, None, option_map}
use Rattle.std.proofs.Common.{refl, sym, ap, ◌∙◌}
use Rattle.std.proofs.lemmas.List.{map-append}
use Rattle.kp_base.specs.Net.{AddressParts}
use Rattle.kp_base.specs.declared.address.Family.{Family}
use Rattle.kp_types.specs.declared.decision.DoorKind.{DoorKind}
use Rattle.kp_types.specs.declared.decision.DoorKind.TheVariants as door
use Rattle.kp_types.specs.declared.lists.Lists.{Lists}
use Rattle.kp_types.specs.declared.service.Service.{Service}
use Rattle.kp_types.specs.declared.service.ServicePort.{ServicePort}
use Rattle.kp_object_defs.specs.PortInfo.{PortInfo, cluster_address_in, lists_of}
use Rattle.kp_door_defs.specs.Doors.{door_at, node_door}
use Rattle.kp_port_info.specs.Infos.{info_with, known_of}
use Rattle.kp_vmap_defs.specs.VerdictMap.{doors_by_address, doors_of_service, map_door, port_doors}
use Rattle.kp_vmap_defs.specs.declared.door.MapDoor.{MapDoor}
use Rattle.kp_vmap.specs.Places.{doors_if}

abbrev pub external : PortInfo → List MapDoor
external i = map map_door (map (door_at door.External i) i.external)

abbrev pub balancer : PortInfo → List MapDoor
balancer i = map map_door (map (door_at door.Balancer i) i.balancer)

abbrev pub node : PortInfo → List MapDoor
node i = map map_door (node_door i i.node_port)

-- that of the cluster address, the external ones, those of the balancer and that of the node port
pub four_parts : (i : PortInfo)
    → ((map_door (door_at door.Cluster i i.address) ∷ external i) ++ balancer i) ++ node i
    ≡ port_doors i
four_parts i =
    let outer = map (door_at door.External i) i.external in
    let inner = map (door_at door.Balancer i) i.balancer in
    ap (λ ds. map_door (door_at door.Cluster i i.address) ∷ ds)
    (sym (map-append map_door (outer ++ inner) (node_door i i.node_port)
    ∙ ap (λ ds. ds ++ node i) (map-append map_door outer inner)))

-- ---- lists of endpoints make no doors

module _ (family : Family) (s : Service) (p : ServicePort) (a : AddressParts) where
  same_at : (kind : DoorKind) (lists others : Lists) (xs : List AddressParts)
      → map map_door (map (door_at kind (info_with family s p lists a)) xs)
      ≡ map map_door (map (door_at kind (info_with family s p others a)) xs)
  same_at kind lists others [] = refl
  same_at kind lists others (x ∷ xs) =
      ap (λ ds. map_door (door_at kind (info_with family s p lists a) x) ∷ ds)
      (same_at kind lists others xs)

  same_node : (lists others : Lists) (o : Option ℕ)
      → map map_door (node_door (info_with family s p lists a) o)
      ≡ map map_door (node_door (info_with family s p others a) o)
  same_node lists others None = refl
  same_node lists others (Some n) = refl

  pub same_doors : (lists others : Lists)
      → port_doors (info_with family s p lists a) ≡ port_doors (info_with family s p others a)
  same_doors lists others =
      let i = info_with family s p lists a in
      sym (four_parts i)
      ∙ (λ k.
      ((map_door (door_at door.Cluster i i.address)
      ∷ same_at door.External lists others i.external k)
      ++ same_at door.Balancer lists others i.balancer k)
      ++ same_node lists others i.node_port k)
      ∙ four_parts (info_with family s p others a)

by_address : (family : Family) (s : Service) (p : ServicePort) (lists : Lists)
    (a : Option AddressParts)
    → doors_by_address family s p a ≡ doors_if (option_map (info_with family s p lists) a)
by_address family s p lists None = refl
by_address family s p lists (Some a) = same_doors family s p a (lists_of family s p None []) lists

-- the doors of a Service's port are those of what is known of it, whatever its lists
pub service_doors : (family : Family) (s : Service) (p : ServicePort) (lists : Lists)
    (o : Option PortInfo) → o ≡ known_of family s p lists
    → doors_if o ≡ doors_of_service family s p
service_doors family s p lists o is =
    ap doors_if is ∙ sym (by_address family s p lists (cluster_address_in family s))
