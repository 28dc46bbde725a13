-- Worked examples of a load balancer's source ranges that hold no address of the client's family
-- (Kubernetes documents on Services, loadBalancerSourceRanges): they admit nobody.
use Rattle.std.specs.Prelude.{◌≡◌, ◌*◌, ◌^◌, true, List, [], ◌∷◌, Option, Some, None}
use Rattle.kp_base.specs.Net.{RangeParts}
use Rattle.kp_base.specs.declared.address.Family.TheVariants.{V6}
use Rattle.kp_types.specs.declared.packet.Packet.{Packet}
use Rattle.kp_types.specs.declared.service.Service.{Service}
use Rattle.kp_types.specs.declared.verdict.Verdict.{Verdict}
use Rattle.kp_types.specs.declared.verdict.Verdict.TheVariants.{To, Dropped}
use Rattle.kp_types.specs.declared.decision.Reason.{Reason}
use Rattle.kp_types.specs.declared.decision.Reason.TheVariants as reason
use Rattle.kp_types.specs.declared.decision.DoorKind.TheVariants as door
use Rattle.kp_worked.specs.Setting.{ipv4, web_port, first, ep1, from_network, client}
use Rattle.kp_worked.specs.Decisions.{verdict_on, reason_of, balanced}
use Rattle.kp_worked.specs.Walks.{walk_on}

-- the Service with a load balancer at 203.0.113.9 and these source ranges
abbrev pub balanced_for : Option (List RangeParts) → Service
balanced_for ranges = record balanced { ranges = ranges }

-- the range fd00::/8
abbrev pub local_ipv6 : RangeParts
local_ipv6 = record { base = record { family = V6; number = 253 * 2 ^ 120 }; bits = 8 }

-- a packet of 192.0.2.7 to the load balancer
abbrev pub to_balancer : Packet
to_balancer = from_network client (ipv4 203 0 113 9) 80

-- its verdict, where there is one ready endpoint
abbrev pub verdict_for : Option (List RangeParts) → Verdict
verdict_for ranges = verdict_on (balanced_for ranges) (first ∷ []) to_balancer []

-- and its reason
abbrev pub reason_for : Option (List RangeParts) → Reason
reason_for ranges = reason_of (balanced_for ranges) (first ∷ []) to_balancer []

-- ranges of IPv6 alone hold no IPv4 address
abbrev pub OtherFamily : Type 0
OtherFamily = verdict_for (Some (local_ipv6 ∷ [])) ≡ Dropped

-- the load balancer is closed to the packet
abbrev pub OtherFamilyReason : Type 0
OtherFamilyReason = reason_for (Some (local_ipv6 ∷ [])) ≡ reason.Closed door.Balancer web_port

-- and so it is for the full table
abbrev pub OtherFamilyWalked : Type 0
OtherFamilyWalked =
    walk_on (balanced_for (Some (local_ipv6 ∷ []))) (first ∷ []) to_balancer [] ≡ Dropped

-- a list is left without a range where all its texts are passed over as IPv6: it admits nobody
abbrev pub NoRangeLeft : Type 0
NoRangeLeft = verdict_for (Some []) ≡ Dropped

-- the load balancer is closed to the packet
abbrev pub NoRangeLeftReason : Type 0
NoRangeLeftReason = reason_for (Some []) ≡ reason.Closed door.Balancer web_port

-- and so it is for the full table
abbrev pub NoRangeLeftWalked : Type 0
NoRangeLeftWalked = walk_on (balanced_for (Some [])) (first ∷ []) to_balancer [] ≡ Dropped

-- without a list the packet goes to the endpoint
abbrev pub NoList : Type 0
NoList = verdict_for None ≡ To ep1 true
