-- Worked texts of paths, of endpoints beside them and of sources (Kubernetes documents on Services, virtual IPs,
-- traffic policies and topology hints; the texts are this project's choice).
use Rattle.std.specs.Prelude.{◌≡◌, List, [], ◌∷◌, ◌++◌, codes, map, Some, None}
use Rattle.std.specs.List.{flat_map}
use Rattle.kp_base.specs.Net.{RangeParts}
use Rattle.kp_base.specs.declared.key.Endpoint.{Endpoint}
use Rattle.kp_types.specs.declared.decision.ChosenBy.TheVariants.{Affinity}
use Rattle.kp_types.specs.declared.decision.DoorKind.TheVariants as door
use Rattle.kp_types.specs.declared.decision.ListKind.TheVariants as list_kind
use Rattle.kp_types.specs.declared.info.ServiceSources.{ServiceSources}
use Rattle.kp_types.specs.declared.service.Policy.TheVariants.{Local}
use Rattle.kp_types.specs.declared.service.Service.{Service}
use Rattle.kp_types.specs.declared.service.ServiceKind.TheVariants.{LoadBalancer, NodePort}
use Rattle.kp_types.specs.declared.slice.SliceEndpoint.{SliceEndpoint}
use Rattle.kp_object_defs.specs.PortInfo.{PortInfo}
use Rattle.kp_door_defs.specs.Decision.{Translation}
use Rattle.kp_door_defs.specs.Doors.{door_at}
use Rattle.kp_path_defs.specs.Asides as why
use Rattle.kp_path_defs.specs.Asides.{asides_among}
use Rattle.kp_path_defs.specs.Chances.{chances_of}
use Rattle.kp_path_defs.specs.Paths.{path_count}
use Rattle.kp_worked.specs.Setting.{from_network, hinted, ipv4, no_lists, ready_at, service_at, slice_of, terminating, web_port, with_endpoints}
use Rattle.kp_worked_paths.specs.Setting.{ended, entries_in, here, known, lines_for, unready}

-- ---- Chances

-- of four places
abbrev pub OfFour : Type 0
OfFour = chances_of 4 ≡ 2500000000 ∷ 2500000001 ∷ 2499999999 ∷ 2500000000 ∷ []

-- of three
abbrev pub OfThree : Type 0
OfThree = chances_of 3 ≡ 3333333334 ∷ 3333333333 ∷ 3333333333 ∷ []

-- of one
abbrev pub OfOne : Type 0
OfOne = chances_of 1 ≡ 10000000000 ∷ []

-- ---- Two endpoints, and two beside them

abbrev pub web : Service
web = service_at (codes "web") (ipv4 10 96 0 20) None

-- two ready ones, one that still serves, and one that isn't ready
abbrev pub web_endpoints : List SliceEndpoint
web_endpoints =
    ready_at (ipv4 10 244 1 10) (codes "n1") ∷ ready_at (ipv4 10 244 2 10) (codes "n2")
    ∷ terminating (ready_at (ipv4 10 244 1 13) (codes "n1"))
    ∷ unready (ready_at (ipv4 10 244 2 12) (codes "n2")) ∷ []

abbrev pub webs : List ServiceSources
webs = with_endpoints web web_endpoints ∷ []

-- a pod that is an endpoint asks: to itself it is masqueraded
abbrev pub PodOfTheService : Type 0
PodOfTheService =
    lines_for webs (from_network (ipv4 10 244 1 10) (ipv4 10 96 0 20) 80) no_lists
    ≡ codes "path 9 1 of 2 chance 0.5000000000: to 10.244.1.10:8080 masked; door cluster default/web/TCP list cluster size 2 by draws place 1\n"
    ++ codes "path 9 2 of 2 chance 0.5000000000: to 10.244.2.10:8080; door cluster default/web/TCP list cluster size 2 by draws place 2\n"
    ++ codes "aside 9 default/web/TCP: 10.244.1.13:8080 terminating\n"
    ++ codes "aside 9 default/web/TCP: 10.244.2.12:8080 not ready\n"
    ++ codes "source 9 0.0.0.0, outside: open 2, masked 2; door cluster default/web/TCP list cluster\n"
    ++ codes "source 9 10.244.0.0, cluster: open 2; door cluster default/web/TCP list cluster\n"
    ++ codes "source 9 127.0.0.0, node: open 2, masked 2; door cluster default/web/TCP list cluster\n"

-- ---- No door, and no endpoint

-- no door fits
abbrev pub NoDoor : Type 0
NoDoor =
    lines_for webs (from_network (ipv4 10 244 1 30) (ipv4 10 96 0 20) 8080) no_lists
    ≡ codes "path 9 1 of 1 chance 1.0000000000: left alone; no door decides\n"

abbrev pub billing : List ServiceSources
billing = with_endpoints (service_at (codes "billing") (ipv4 10 96 0 70) None) [] ∷ []

-- a Service without endpoints
abbrev pub NoEndpoints : Type 0
NoEndpoints =
    lines_for billing (from_network (ipv4 10 244 1 30) (ipv4 10 96 0 70) 80) no_lists
    ≡ codes "path 9 1 of 1 chance 1.0000000000: rejected; door cluster default/billing/TCP has no endpoints\n"
    ++ codes "source 9 0.0.0.0, outside: rejected, no endpoints; door cluster default/billing/TCP\n"
    ++ codes "source 9 10.244.0.0, cluster: rejected, no endpoints; door cluster default/billing/TCP\n"
    ++ codes "source 9 127.0.0.0, node: rejected, no endpoints; door cluster default/billing/TCP\n"

-- ---- A node port under the policy Local

abbrev pub metrics : Service
metrics = record (service_at (codes "metrics") (ipv4 10 96 0 50) (Some 30910)) {
  kind = NodePort;
  outer = Local;
}

abbrev pub local_metrics : List ServiceSources
local_metrics = with_endpoints metrics (ready_at (ipv4 10 244 2 50) (codes "n2") ∷ []) ∷ []

-- from outside it is dropped, where no endpoint is on the node
abbrev pub NoLocalEndpoint : Type 0
NoLocalEndpoint =
    lines_for local_metrics (from_network (ipv4 198 51 100 7) (ipv4 192 168 1 11) 30910) no_lists
    ≡ codes "path 9 1 of 1 chance 1.0000000000: dropped; door node default/metrics/TCP has no local endpoints\n"
    ++ codes "aside 9 default/metrics/TCP: 10.244.2.50:8080 other node\n"
    ++ codes "source 9 0.0.0.0, outside: dropped, no local endpoints; door node default/metrics/TCP\n"
    ++ codes "source 9 10.244.0.0, cluster: open 1; door node default/metrics/TCP list cluster\n"
    ++ codes "source 9 127.0.0.0, node: open 1, masked 1; door node default/metrics/TCP list cluster\n"

-- ---- Hints, and endpoints that terminate

-- ready ones hint zones a and b, and one that serves terminates
abbrev pub near : List ServiceSources
near =
    with_endpoints (service_at (codes "near") (ipv4 10 96 0 37) None)
    (hinted (codes "a") (ready_at (ipv4 10 244 1 1) (codes "n1"))
    ∷ hinted (codes "b") (ready_at (ipv4 10 244 2 1) (codes "n2"))
    ∷ terminating (ready_at (ipv4 10 244 2 2) (codes "n2")) ∷ []) ∷ []

abbrev pub OtherZone : Type 0
OtherZone =
    lines_for near (from_network (ipv4 10 244 1 30) (ipv4 10 96 0 37) 80) no_lists
    ≡ codes "path 9 1 of 1 chance 1.0000000000: to 10.244.1.1:8080; door cluster default/near/TCP list cluster size 1 by draws place 1\n"
    ++ codes "aside 9 default/near/TCP: 10.244.2.1:8080 other zone\n"
    ++ codes "aside 9 default/near/TCP: 10.244.2.2:8080 terminating\n"
    ++ codes "source 9 0.0.0.0, outside: open 1, masked 1; door cluster default/near/TCP list cluster\n"
    ++ codes "source 9 10.244.0.0, cluster: open 1; door cluster default/near/TCP list cluster\n"
    ++ codes "source 9 127.0.0.0, node: open 1, masked 1; door cluster default/near/TCP list cluster\n"

-- under the internal policy Local, one here still serves, one here has ended, and a ready one is elsewhere
abbrev pub old : List ServiceSources
old =
    with_endpoints (record (service_at (codes "old") (ipv4 10 96 0 38) None) { internal = Local })
    (terminating (ready_at (ipv4 10 244 1 36) (codes "n1"))
    ∷ ended (ready_at (ipv4 10 244 1 37) (codes "n1"))
    ∷ ready_at (ipv4 10 244 2 36) (codes "n2") ∷ []) ∷ []

abbrev pub OtherNode : Type 0
OtherNode =
    lines_for old (from_network (ipv4 10 244 1 30) (ipv4 10 96 0 38) 80) no_lists
    ≡ codes "path 9 1 of 1 chance 1.0000000000: to 10.244.1.36:8080; door cluster default/old/TCP list local size 1 by draws place 1\n"
    ++ codes "aside 9 default/old/TCP: 10.244.1.37:8080 not ready\n"
    ++ codes "aside 9 default/old/TCP: 10.244.2.36:8080 other node\n"
    ++ codes "source 9 0.0.0.0, outside: open 1, masked 1; door cluster default/old/TCP list local\n"
    ++ codes "source 9 10.244.0.0, cluster: open 1; door cluster default/old/TCP list local\n"
    ++ codes "source 9 127.0.0.0, node: open 1, masked 1; door cluster default/old/TCP list local\n"

-- ---- An endpoint that the filter refuses

-- a slice at port 80
abbrev pub slice_at_80 : Service → List SliceEndpoint → ServiceSources
slice_at_80 s endpoints = record {
  service = s;
  wanted = [];
  slices = record (slice_of s.key.name endpoints) {
    ports = record { name = []; proto = web_port.proto; port = Some 80 } ∷ [];
  } ∷ [];
}

-- the first endpoint is the address of a Service without endpoints, and the third the node's own
abbrev pub loops : List ServiceSources
loops =
    with_endpoints (service_at (codes "alpha") (ipv4 10 96 0 33) None) []
    ∷ slice_at_80 (service_at (codes "loop") (ipv4 10 96 0 34) None)
    (ready_at (ipv4 10 96 0 33) (codes "n2") ∷ ready_at (ipv4 10 244 1 35) (codes "n1")
    ∷ ready_at (ipv4 192 168 1 11) (codes "n1") ∷ []) ∷ []

abbrev pub RefusedBehind : Type 0
RefusedBehind =
    lines_for loops (from_network (ipv4 10 244 1 30) (ipv4 10 96 0 34) 80) no_lists
    ≡ codes "path 9 1 of 3 chance 0.3333333334: rejected; door cluster default/alpha/TCP has no endpoints; sent to 10.96.0.33:80; door cluster default/loop/TCP list cluster size 3 by draws place 1\n"
    ++ codes "path 9 2 of 3 chance 0.3333333333: to 10.244.1.35:80; door cluster default/loop/TCP list cluster size 3 by draws place 2\n"
    ++ codes "path 9 3 of 3 chance 0.3333333333: to 192.168.1.11:80; door cluster default/loop/TCP list cluster size 3 by draws place 3\n"
    ++ codes "source 9 0.0.0.0, outside: open 2, masked 1, refused 1; door cluster default/loop/TCP list cluster\n"
    ++ codes "source 9 10.244.0.0, cluster: open 2, refused 1; door cluster default/loop/TCP list cluster\n"
    ++ codes "source 9 127.0.0.0, node: open 2, masked 2, refused 1; door cluster default/loop/TCP list cluster\n"

-- ---- A load balancer with source ranges

-- 198.51.100.0/24
abbrev pub office : RangeParts
office = record { base = ipv4 198 51 100 0; bits = 24 }

-- the load balancer 203.0.113.25 is open to it alone, under the policy Local
abbrev pub edge : Service
edge = record (service_at (codes "edge") (ipv4 10 96 0 32) None) {
  kind = LoadBalancer;
  outer = Local;
  ranges = Some (office ∷ []);
  balancer = ipv4 203 0 113 25 ∷ [];
}

abbrev pub edges : List ServiceSources
edges = with_endpoints edge (ready_at (ipv4 10 244 2 32) (codes "n2") ∷ []) ∷ []

-- the only endpoint is on another node
abbrev pub ClosedAndNotLocal : Type 0
ClosedAndNotLocal =
    lines_for edges (from_network (ipv4 198 51 100 7) (ipv4 203 0 113 25) 80) no_lists
    ≡ codes "path 9 1 of 1 chance 1.0000000000: dropped; door balancer default/edge/TCP is closed to the source\n"
    ++ codes "aside 9 default/edge/TCP: 10.244.2.32:8080 other node\n"
    ++ codes "source 9 0.0.0.0, outside: dropped, not admitted; door balancer default/edge/TCP\n"
    ++ codes "source 9 10.244.0.0, cluster: dropped, not admitted; door balancer default/edge/TCP\n"
    ++ codes "source 9 127.0.0.0, node: dropped, not admitted; door balancer default/edge/TCP\n"
    ++ codes "source 9 198.51.100.0, outside, in ranges of default/edge/TCP: dropped, no local endpoints; door balancer default/edge/TCP\n"

-- under the policy Cluster
abbrev pub admin : List ServiceSources
admin =
    with_endpoints (record edge { outer = web.outer })
    (ready_at (ipv4 10 244 2 32) (codes "n2") ∷ []) ∷ []

abbrev pub NotAdmitted : Type 0
NotAdmitted =
    lines_for admin (from_network (ipv4 192 0 2 9) (ipv4 203 0 113 25) 80) no_lists
    ≡ codes "path 9 1 of 1 chance 1.0000000000: dropped; door balancer default/edge/TCP is closed to the source\n"
    ++ codes "aside 9 default/edge/TCP: 10.244.2.32:8080 not admitted\n"
    ++ codes "source 9 0.0.0.0, outside: dropped, not admitted; door balancer default/edge/TCP\n"
    ++ codes "source 9 10.244.0.0, cluster: dropped, not admitted; door balancer default/edge/TCP\n"
    ++ codes "source 9 127.0.0.0, node: dropped, not admitted; door balancer default/edge/TCP\n"
    ++ codes "source 9 198.51.100.0, outside, in ranges of default/edge/TCP: open 1, masked 1; door balancer default/edge/TCP list cluster\n"

-- ---- Session affinity

-- a Service with affinity and two endpoints
abbrev pub kept : List ServiceSources
kept =
    with_endpoints (record web { affinity = Some 10800 })
    (ready_at (ipv4 10 244 1 10) (codes "n1") ∷ ready_at (ipv4 10 244 2 10) (codes "n2") ∷ []) ∷ []

-- a packet that affinity sends to the first endpoint of a port
abbrev pub kept_at : PortInfo → Endpoint → Translation
kept_at i e = record {
  door = door_at door.Cluster i i.address;
  offer = record { kind = list_kind.Cluster; endpoints = i.lists.cluster };
  chosen = record { endpoint = e; place = 0; by = Affinity; lists = no_lists };
}

-- the first endpoint, and the other one
abbrev pub here_10 : Endpoint
here_10 = record { address = ipv4 10 244 1 10; port = 8080 }

abbrev pub there_10 : Endpoint
there_10 = record { address = ipv4 10 244 2 10; port = 8080 }

-- its source has one way, and the other endpoint is beside it
abbrev pub OneWay : Type 0
OneWay = map (λ (i : PortInfo). path_count (Some (kept_at i here_10))) (known kept) ≡ 1 ∷ []

abbrev pub KeptElsewhere : Type 0
KeptElsewhere =
    flat_map
    (λ (i : PortInfo). asides_among here.config (door_at door.Cluster i i.address) (ipv4 10 244 1 31)
    (Some (kept_at i here_10)) (entries_in kept i.key)) (known kept)
    ≡ record { endpoint = there_10; why = why.KeptElsewhere } ∷ []
