-- The orders of keys: by namespace and then by name, each by bytes; of Service ports by their Service,
-- name and protocol; of endpoints by family, address number and port (this project's choice).
use Rattle.std.specs.Prelude.{ℕ, ◌==◌, Bool, List}
use Rattle.std.specs.Ordering.{nat_cmp, ordering_then}
use Rattle.std.specs.declared.cmp.Ordering.{Ordering}
use Rattle.std.specs.Cmp.Lexicographic.{slice_cmp}
use Rattle.kp_base.specs.declared.address.Family.{Family}
use Rattle.kp_base.specs.declared.address.Family.TheVariants.{V4, V6}
use Rattle.kp_base.specs.declared.port.Proto.{Proto}
use Rattle.kp_base.specs.declared.port.Proto.TheVariants.{Sctp, Tcp, Udp}
use Rattle.kp_base.specs.declared.key.ObjectKey.{ObjectKey}
use Rattle.kp_base.specs.declared.key.PortKey.{PortKey}
use Rattle.kp_base.specs.declared.key.Endpoint.{Endpoint}
use Rattle.kp_base.specs.Net.{AddressParts}

-- texts by bytes
abbrev pub text_cmp : List ℕ → List ℕ → Ordering
text_cmp = slice_cmp nat_cmp

-- by namespace, and then by name
abbrev pub key_cmp : ObjectKey → ObjectKey → Ordering
key_cmp a b = ordering_then (text_cmp a.namespace b.namespace) (text_cmp a.name b.name)

-- the place of a protocol among all, which is by their names
abbrev pub proto_place : Proto → ℕ
proto_place Sctp = 0
proto_place Tcp = 1
proto_place Udp = 2

-- whether two protocols are one
abbrev pub same_proto : Proto → Proto → Bool
same_proto a b = proto_place a == proto_place b

-- by Service, then port name, then protocol
abbrev pub port_key_cmp : PortKey → PortKey → Ordering
port_key_cmp a b =
    ordering_then (key_cmp a.object b.object)
    (ordering_then (text_cmp a.port_name b.port_name) (nat_cmp (proto_place a.proto) (proto_place b.proto)))

-- the place of a family
abbrev pub family_place : Family → ℕ
family_place V4 = 0
family_place V6 = 1

-- by family, and then by number
abbrev pub address_cmp : AddressParts → AddressParts → Ordering
address_cmp a b = ordering_then (nat_cmp (family_place a.family) (family_place b.family)) (nat_cmp a.number b.number)

-- by address, and then by port
abbrev pub endpoint_cmp : Endpoint → Endpoint → Ordering
endpoint_cmp a b = ordering_then (address_cmp a.address b.address) (nat_cmp a.port b.port)
