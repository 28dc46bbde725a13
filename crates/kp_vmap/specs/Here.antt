-- Where a packet goes, and which ports have a door there.
use Rattle.std.specs.Prelude.{◌||◌, Bool, Some, None}
use Rattle.kp_types.specs.declared.packet.Packet.{Packet}
use Rattle.kp_object_defs.specs.PortInfo.{PortInfo}
use Rattle.kp_vmap_defs.specs.declared.door.Destination.{Destination}
use Rattle.kp_vmap.specs.Places.{stands_at}

-- its address
abbrev pub at_address : Packet → Destination
at_address packet = record { target = Some packet.target; proto = packet.proto; port = packet.port }

-- a node port
abbrev pub at_node : Packet → Destination
at_node packet = record { target = None; proto = packet.proto; port = packet.port }

-- a port has a door at one of them
abbrev pub is_here : Packet → PortInfo → Bool
is_here packet i = stands_at (at_address packet) i || stands_at (at_node packet) i
