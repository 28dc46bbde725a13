-- Which packets are marked for masquerading, and masqueraded (Kubernetes documents on virtual IPs, "Source IP
-- for Services"; kube-proxy's rules of KUBE-MARK-MASQ and KUBE-POSTROUTING).
use Rattle.std.specs.Prelude.{◌&&◌, ◌||◌, Bool, true, false, not, is_some}
use Rattle.kp_base.specs.Net.{AddressParts, same_address, is_local_address}
use Rattle.kp_base.specs.declared.key.Endpoint.{Endpoint}
use Rattle.kp_types.specs.Setting.{FamilyConfig}
use Rattle.kp_types.specs.declared.packet.Packet.{Packet}
use Rattle.kp_types.specs.declared.packet.Origin.{Origin}
use Rattle.kp_types.specs.declared.packet.Origin.TheVariants as origin
use Rattle.kp_types.specs.declared.decision.DoorKind.{DoorKind}
use Rattle.kp_types.specs.declared.decision.DoorKind.TheVariants as door
use Rattle.kp_types.specs.declared.service.Policy.{Policy}
use Rattle.kp_types.specs.declared.service.Policy.TheVariants.{Cluster, Local}
use Rattle.kp_object_defs.specs.PortInfo.{PortInfo}
use Rattle.kp_door_defs.specs.Doors.{is_in_cluster}

-- at a cluster address: all packets, or those that come from outside the cluster's range where there is one
abbrev pub marked_inside : FamilyConfig → AddressParts → Bool
marked_inside config source = config.masquerade_all || (is_some config.cluster && not (is_in_cluster config source))

-- at any other door, by the external traffic policy
abbrev pub marked_outside : FamilyConfig → Policy → AddressParts → Bool
marked_outside config Cluster source = true
marked_outside config Local source = is_local_address config.addresses source && not (is_in_cluster config source)

-- at a door, whatever the endpoint
abbrev pub marked_at : FamilyConfig → DoorKind → PortInfo → AddressParts → Bool
marked_at config door.Cluster i source = marked_inside config source
marked_at config door.External i source = marked_outside config i.outer source
marked_at config door.Balancer i source = marked_outside config i.outer source
marked_at config door.Node i source = marked_outside config i.outer source

-- the packet is marked at a door on its way to an endpoint: a packet to its own source always is
abbrev pub is_marked : FamilyConfig → DoorKind → PortInfo → AddressParts → Endpoint → Bool
is_marked config kind i source endpoint = same_address endpoint.address source || marked_at config kind i source

-- it comes from this node
abbrev pub is_from_node : Origin → Bool
is_from_node origin.Node = true
is_from_node origin.Wire = false

-- a packet from here or to elsewhere passes POSTROUTING
abbrev pub leaves_node : FamilyConfig → Packet → AddressParts → Bool
leaves_node config packet target = is_from_node packet.from || not (is_local_address config.addresses target)

-- the packet's source is masqueraded: it is marked, and leaves the node
abbrev pub is_masqueraded : FamilyConfig → DoorKind → PortInfo → Packet → Endpoint → Bool
is_masqueraded config kind i packet endpoint =
    is_marked config kind i packet.source endpoint && leaves_node config packet endpoint.address
