-- The set of names and protocols of the ports that were read.
use Rattle.std.specs.Prelude.{ℕ, Bool, List}
use Rattle.std.specs.Ordering.{nat_cmp, ordering_then}
use Rattle.std.specs.declared.cmp.Ordering.{Ordering}
use Rattle.std.specs.Cmp.Lexicographic.{slice_cmp}
use Rattle.std.specs.BTreeSet.{contains}
use Rattle.kp_base.specs.declared.port.Proto.{Proto}
use Rattle.kp_base.specs.Keys.{proto_place}
use Rattle.kp_types.specs.declared.service.ServicePort.{ServicePort}
use Rattle.kp_objects.specs.declared.service.seen.PortId.{PortId}
use Rattle.kp_objects.specs.declared.service.seen.SeenPorts.{SeenPorts}

-- by name, and then by protocol
abbrev pub id_cmp : PortId → PortId → Ordering
id_cmp a b = ordering_then (slice_cmp nat_cmp a.name b.name) (nat_cmp (proto_place a.proto) (proto_place b.proto))

-- whether a port's name and protocol are in the set
abbrev pub has_id : SeenPorts → List ℕ × Proto → Bool
has_id seen id = contains id_cmp seen.ids (record { name = id.0; proto = id.1 })

-- the name and the protocol of a port
abbrev pub id_of : ServicePort → List ℕ × Proto
id_of p = (p.name, p.proto)
