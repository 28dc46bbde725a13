-- Worked examples of verdict maps, in the cluster of the other worked examples: where packets go by the remainder of
-- a draw, and where doors stand.
use Rattle.std.specs.Prelude.{◌≡◌, ℕ, false, List, [], ◌∷◌, map, Option, Some, None, codes}
use Rattle.std.specs.FinMap as finite
use Rattle.kp_base.specs.Net.{AddressParts}
use Rattle.kp_base.specs.declared.address.Family.TheVariants.{V4}
use Rattle.kp_base.specs.declared.port.Proto.TheVariants.{Tcp}
use Rattle.kp_types.specs.declared.decision.ChosenBy.TheVariants.{Draws}
use Rattle.kp_types.specs.declared.decision.DoorKind.{DoorKind}
use Rattle.kp_types.specs.declared.decision.DoorKind.TheVariants as door
use Rattle.kp_types.specs.declared.decision.ListKind.TheVariants as list_kind
use Rattle.kp_types.specs.declared.decision.Reason.TheVariants as reason
use Rattle.kp_types.specs.declared.service.Service.{Service}
use Rattle.kp_types.specs.declared.service.ServiceKind.TheVariants.{LoadBalancer}
use Rattle.kp_types.specs.declared.slice.SliceEndpoint.{SliceEndpoint}
use Rattle.kp_types.specs.declared.verdict.Verdict.{Verdict}
use Rattle.kp_types.specs.declared.verdict.Verdict.TheVariants.{To, Rejected, Dropped}
use Rattle.kp_types.specs.Setting.{Setting}
use Rattle.kp_choice_defs.specs.Draws.{draw_of_list}
use Rattle.kp_door_defs.specs.Decision.{Decided, decision_from}
use Rattle.kp_door_defs.specs.Doors.{doors_of}
use Rattle.kp_decide.specs.Picks.{pick_by_remainder, with_pick}
use Rattle.kp_worked.specs.Decisions.{local_inside, three, two}
use Rattle.kp_worked.specs.Setting.{ep1, ep2, ep3, infos, ipv4, no_lists, other_pod, port_with, second, setting, service_at, to_web, web, web_port}
use Rattle.kp_vmap_defs.specs.VerdictMap.{destinations, doors_of_service, map_door, map_of_infos}
use Rattle.kp_vmap_defs.specs.declared.door.Destination.{Destination}
use Rattle.kp_vmap_defs.specs.declared.door.MapDoor.{MapDoor}

-- ---- Where packets go

-- the setting, where endpoints are picked by a remainder
abbrev pub by_remainder : Setting
by_remainder = with_pick pick_by_remainder setting

-- the decision on a packet of another pod to a Service with these endpoints
abbrev pub decided : Service → List SliceEndpoint → List ℕ → Decided
decided s endpoints draws =
    decision_from by_remainder (infos s endpoints) (to_web other_pod) (draw_of_list draws) no_lists

-- its verdict
abbrev pub verdict_on : Service → List SliceEndpoint → List ℕ → Verdict
verdict_on s endpoints draws = (decided s endpoints draws).verdict

-- of three endpoints the draw 0 picks the first
abbrev pub FirstByZero : Type 0
FirstByZero = verdict_on web three (0 ∷ []) ≡ To ep1 false

-- 4 picks the second
abbrev pub SecondByFour : Type 0
SecondByFour = verdict_on web three (4 ∷ []) ≡ To ep2 false

-- 5 the third
abbrev pub ThirdByFive : Type 0
ThirdByFive = verdict_on web three (5 ∷ []) ≡ To ep3 false

-- and a draw that isn't listed is 2147483647, which leaves 1
abbrev pub SecondByNone : Type 0
SecondByNone = verdict_on web three [] ≡ To ep2 false

-- the reason of one that is drawn
abbrev pub DrawnReason : Type 0
DrawnReason =
    (decided web three (4 ∷ [])).reason
    ≡ reason.Door door.Cluster web_port list_kind.Cluster 3 Draws 2

-- under the internal policy Local with an endpoint on another node alone, a packet is dropped
abbrev pub NoLocalEndpoint : Type 0
NoLocalEndpoint = verdict_on local_inside (second ∷ []) [] ≡ Dropped

-- and without any endpoint rejected
abbrev pub NoEndpointAtAll : Type 0
NoEndpointAtAll = verdict_on local_inside [] [] ≡ Rejected

-- ---- Where doors stand

-- a load balancer with a node port, whose external address is listed twice
abbrev pub balanced : Service
balanced = record (service_at (codes "web") (ipv4 10 96 0 10) (Some 30080)) {
  kind = LoadBalancer;
  external = ipv4 192 0 2 40 ∷ ipv4 192 0 2 40 ∷ [];
  balancer = ipv4 192 0 2 50 ∷ [];
}

-- a door of its port
abbrev pub door_of : DoorKind → Option AddressParts → ℕ → MapDoor
door_of kind target port = record { kind = kind; target = target; proto = Tcp; port = port; owner = web_port }

-- its doors, in order
abbrev pub BalancedDoors : Type 0
BalancedDoors =
    doors_of_service V4 balanced (port_with (Some 30080))
    ≡ door_of door.Cluster (Some (ipv4 10 96 0 10)) 80
    ∷ door_of door.External (Some (ipv4 192 0 2 40)) 80
    ∷ door_of door.Balancer (Some (ipv4 192 0 2 50)) 80
    ∷ door_of door.Node None 30080
    ∷ []

-- a destination of TCP
abbrev pub at : Option AddressParts → ℕ → Destination
at target port = record { target = target; proto = Tcp; port = port }

-- where its doors stand
abbrev pub balanced_entries : List (Destination × List MapDoor)
balanced_entries = destinations (map map_door (doors_of (infos balanced two)))

-- the doors that the map of its port has at a destination
abbrev pub found_at : Option AddressParts → ℕ → Option (List MapDoor)
found_at target port = finite.get (map_of_infos (infos balanced two)).doors (at target port)

-- the one at an external address
abbrev pub ExternalDoor : Type 0
ExternalDoor =
    found_at (Some (ipv4 192 0 2 40)) 80 ≡ Some (door_of door.External (Some (ipv4 192 0 2 40)) 80 ∷ [])

-- the one of the node port, which stands at no address
abbrev pub NodeDoor : Type 0
NodeDoor = found_at None 30080 ≡ Some (door_of door.Node None 30080 ∷ [])

-- none at another number
abbrev pub NoDoor : Type 0
NoDoor = found_at (Some (ipv4 192 0 2 40)) 81 ≡ None
