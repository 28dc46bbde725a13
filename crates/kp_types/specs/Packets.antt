-- The address family of a packet: that of its destination, as it comes (Kubernetes documents,
-- "IPv4/IPv6 dual-stack": each family has tables of its own).
use Rattle.kp_base.specs.declared.address.Family.{Family}
use Rattle.kp_types.specs.declared.packet.Packet.{Packet}

-- the family whose tables a packet passes
abbrev pub family_of_packet : Packet → Family
family_of_packet packet = packet.target.family
