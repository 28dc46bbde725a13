-- The chain KUBE-SERVICES of one Service at 10.96.0.10, port 80 of TCP, and which of its rules may match a packet.
use Rattle.std.specs.Prelude.{◌≡◌, ℕ, ◌*◌, ◌+◌, ◌^◌, false, List, [], ◌∷◌, Some, None, codes, Option}
use Rattle.kp_base.specs.Net.{AddressParts, v4_address, single_range}
use Rattle.kp_base.specs.declared.port.Proto.TheVariants.{Tcp}
use Rattle.kp_types.specs.Rules.{rule_of}
use Rattle.kp_types.specs.declared.rule.Match.TheVariants as match_
use Rattle.kp_types.specs.declared.rule.Rule.{Rule}
use Rattle.kp_types.specs.declared.rule.Target.TheVariants.{Jump}
use Rattle.kp_rules.specs.Destinations.{next_for}

-- the address 10.96.0.x
abbrev pub host : ℕ → AddressParts
host x = v4_address (10 * 2 ^ 24 + 96 * 2 ^ 16 + x)

-- -A KUBE-SERVICES -d 10.96.0.10/32 -p tcp -m tcp --dport 80 -j KUBE-SVC-, and
-- -A KUBE-SERVICES -m addrtype --dst-type LOCAL -j KUBE-NODEPORTS
abbrev pub services : List Rule
services =
    rule_of (match_.Dst (single_range (host 10)) false ∷ match_.Port Tcp 80 ∷ []) (Jump (codes "KUBE-SVC-"))
    ∷ rule_of (match_.DstLocal ∷ []) (Jump (codes "KUBE-NODEPORTS"))
    ∷ []

-- the next rule for a packet to a host's port 80
abbrev pub next_to : ℕ → ℕ → Option ℕ
next_to x from = next_for (record { address = host x; proto = Tcp; port = 80 }) services from

-- a packet to the Service meets its rule
abbrev pub ToTheService : Type 0
ToTheService = next_to 10 0 ≡ Some 0

-- a packet to another host meets the rule that isn't keyed
abbrev pub ToAnother : Type 0
ToAnother = next_to 11 0 ≡ Some 1

-- and behind the last rule there is none
abbrev pub BehindTheLast : Type 0
BehindTheLast = next_to 10 2 ≡ None
