-- Rules that ask for one destination first, and the next of a chain's rules that may match a packet. What a rule's
-- matches ask is told by the table's definitions.
use Rattle.std.specs.Prelude.{ℕ, zero, suc, ◌==◌, ◌&&◌, Bool, true, not, cond, List, [], ◌∷◌, Option, Some, None, option_map, option_and_then}
use Rattle.kp_base.specs.Net.{AddressParts, width, same_address}
use Rattle.kp_base.specs.declared.port.Proto as protocol
use Rattle.kp_types.specs.Ports.{same_proto}
use Rattle.kp_types.specs.declared.rule.Match.{Match}
use Rattle.kp_types.specs.declared.rule.Match.TheVariants.{Src, Dst, Proto, Port, SrcLocal, DstLocal, Marked, Statistic, Seen, SetSeen}
use Rattle.kp_types.specs.declared.rule.Rule.{Rule}
use Rattle.kp_rules.specs.declared.destination.Destination.{Destination}

-- the one address that a match asks of the destination
abbrev pub address_asked : Match → Option AddressParts
address_asked (Src range negated) = None
address_asked (Dst range negated) = cond (not negated && (range.bits == width range.base.family)) (Some range.base) None
address_asked (Proto proto) = None
address_asked (Port proto port) = None
address_asked SrcLocal = None
address_asked DstLocal = None
address_asked (Marked negated) = None
address_asked (Statistic p) = None
address_asked (Seen list seconds) = None
address_asked (SetSeen list) = None

-- the protocol and port that a match asks
abbrev pub port_asked : Match → Option (protocol.Proto × ℕ)
port_asked (Src range negated) = None
port_asked (Dst range negated) = None
port_asked (Proto proto) = None
port_asked (Port proto port) = Some (proto, port)
port_asked SrcLocal = None
port_asked DstLocal = None
port_asked (Marked negated) = None
port_asked (Statistic p) = None
port_asked (Seen list seconds) = None
port_asked (SetSeen list) = None

-- an address with a protocol and a port
abbrev pub destination_at : AddressParts → protocol.Proto × ℕ → Destination
destination_at address port = record { address = address; proto = port.0; port = port.1 }

-- the destination that the first two of these matches ask for: one address, and then a port
abbrev pub destination_asked : List Match → Option Destination
destination_asked [] = None
destination_asked (m ∷ []) = None
destination_asked (m ∷ n ∷ ms) =
    option_and_then (λ address. option_map (destination_at address) (port_asked n)) (address_asked m)

-- the destination that a rule asks for: such a rule is keyed
abbrev pub destination_of : Rule → Option Destination
destination_of r = destination_asked r.matches.items

-- whether two destinations are one
abbrev pub same_destination : Destination → Destination → Bool
same_destination a b = same_address a.address b.address && (same_proto a.proto b.proto && (a.port == b.port))

-- whether a destination is the one that is asked for, where one is
abbrev pub is_asked : Destination → Option Destination → Bool
is_asked to None = true
is_asked to (Some asked) = same_destination asked to

-- whether a rule may match packets to this destination: it isn't keyed, or asks for it
abbrev pub concerns : Destination → Rule → Bool
concerns to r = is_asked to (destination_of r)

-- the least place, from 0, at or after one where an element passes the test
abbrev pub next_place : {X : Type 0} → (X → Bool) → List X → ℕ → Option ℕ
next_place test [] from = None
next_place test (x ∷ xs) zero = cond (test x) (Some 0) (option_map suc (next_place test xs zero))
next_place test (x ∷ xs) (suc from) = option_map suc (next_place test xs from)

-- the least place at or after one of a rule that may match packets to this destination
abbrev pub next_for : Destination → List Rule → ℕ → Option ℕ
next_for to rules from = next_place (concerns to) rules from
