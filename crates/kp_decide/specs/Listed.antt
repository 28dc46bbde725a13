-- What is looked for, port by port: doors that take packets, and lines of the filter.
use Rattle.std.specs.Prelude.{Bool, List, Option, Some, None, cond, not, option_and_then}
use Rattle.kp_base.specs.declared.key.Endpoint.{Endpoint}
use Rattle.kp_types.specs.Setting.{FamilyConfig}
use Rattle.kp_types.specs.declared.packet.Packet.{Packet}
use Rattle.kp_types.specs.declared.decision.ListKind.{ListKind}
use Rattle.kp_types.specs.declared.decision.ListKind.TheVariants as kind
use Rattle.kp_object_defs.specs.PortInfo.{PortInfo}
use Rattle.kp_object_defs.specs.Desired.{is_empty}
use Rattle.kp_door_defs.specs.Doors.{Door, address_doors, node_door, offer_of}
use Rattle.kp_door_defs.specs.Filter.{Line, external_lines, firewall_lines, service_lines}
use Rattle.kp_decide.specs.declared.doors.Group.{Group}
use Rattle.kp_decide.specs.declared.doors.Group.TheVariants as group
use Rattle.kp_decide.specs.declared.lines.Chain.{Chain}
use Rattle.kp_decide.specs.declared.lines.Chain.TheVariants as chain

-- a list of a port
abbrev pub listed : ListKind → PortInfo → List Endpoint
listed kind.Cluster i = i.lists.cluster
listed kind.Local i = i.lists.local

-- the doors of a group
abbrev pub group_doors : Group → PortInfo → List Door
group_doors group.AtAddresses i = address_doors i
group_doors group.AtNodePorts i = node_door i i.node_port

-- the lines of a chain for a port
abbrev pub chain_lines : Chain → PortInfo → List Line
chain_lines chain.Firewall i = firewall_lines i
chain_lines chain.External i = external_lines i
chain_lines chain.Services i = service_lines i

-- the door offers an endpoint to the packet
abbrev pub offers : FamilyConfig → Packet → Door → Bool
offers config packet d = not (is_empty (offer_of config packet d).endpoints)

-- a door, where it does
abbrev pub if_offers : FamilyConfig → Packet → Option Door → Option Door
if_offers config packet d = option_and_then (λ x. cond (offers config packet x) (Some x) None) d
