-- Which of two Services events touch, worked out. The Service default/web selects the pods with the
-- label app=web, and default/dns those with app=dns. The pod a on the node n1 has the first label.
-- The nodes n1 and n3 are in the zone a.
use Rattle.std.specs.Prelude.{◌≡◌, ℕ, Bool, true, false, List, [], ◌∷◌, codes, Some}
use Rattle.std.specs.FinMap as finite
use Rattle.kp_base.specs.declared.key.ObjectKey.{ObjectKey}
use Rattle.kp_base.specs.declared.key.Pair.{Pair}
use Rattle.kp_types.specs.declared.event.Event.{Event}
use Rattle.kp_types.specs.declared.event.Event.TheVariants.{Apply}
use Rattle.kp_types.specs.declared.event.Object.TheVariants as object
use Rattle.kp_types.specs.declared.pod.Node.{Node}
use Rattle.kp_types.specs.declared.pod.Pod.{Pod}
use Rattle.kp_types.specs.declared.service.Service.{Service}
use Rattle.kp_object_defs.specs.Objects.{Objects, node_key}
use Rattle.kp_touch_defs.specs.Touches.{touches}
use Rattle.kp_worked.specs.Setting.{default_key, first, slice_of}
use Rattle.kp_worked.specs.Wanted.{pod_a, selecting}

-- a label
abbrev pub app : List ℕ → List Pair
app name = record { key = codes "app"; value = name } ∷ []

-- the other Service
abbrev pub dns : Service
dns = record selecting { key = default_key (codes "dns"); selector = app (codes "dns") }

-- a node in a zone
abbrev pub node_in : List ℕ → List ℕ → Node
node_in name zone = record { name = name; zone = Some zone }

-- the Services
abbrev pub services : List (ObjectKey × Service)
services = (selecting.key, selecting) ∷ (dns.key, dns) ∷ []

-- the pods
abbrev pub pods : List (ObjectKey × Pod)
pods = (pod_a.key, pod_a) ∷ []

-- the nodes
abbrev pub nodes : List (ObjectKey × Node)
nodes =
    (node_key (codes "n1"), node_in (codes "n1") (codes "a"))
    ∷ (node_key (codes "n3"), node_in (codes "n3") (codes "a"))
    ∷ []

-- all objects; there are no slices
abbrev pub objects : Objects
objects = record {
  services = finite.from_entries services;
  slices = finite.empty;
  pods = finite.from_entries pods;
  nodes = finite.from_entries nodes;
}

-- whether an event touches a Service, for the proxy on a node, with the controller
abbrev pub touched : List ℕ → Event → ObjectKey → Bool
touched own event service = touches own true objects event service

-- an event touches the first Service or doesn't, and the other
abbrev pub Touches : List ℕ → Event → Bool → Bool → Type 0
Touches own event web other =
    (touched own event selecting.key ≡ web) × (touched own event dns.key ≡ other)

-- the Service itself,
abbrev pub ServiceTouches : Type 0
ServiceTouches = Touches (codes "n2") (Apply (object.Service selecting)) true false

-- a slice that its label names,
abbrev pub SliceTouches : Type 0
SliceTouches =
    Touches (codes "n2") (Apply (object.EndpointSlice (slice_of (codes "web") (first ∷ []))))
    true false

-- the pod that it selects, which isn't ready any more,
abbrev pub not_ready : Pod
not_ready = record pod_a { ready = false }

abbrev pub PodTouches : Type 0
PodTouches = Touches (codes "n2") (Apply (object.Pod not_ready)) true false

-- another zone of the node that the pod is on,
abbrev pub NodeTouches : Type 0
NodeTouches =
    Touches (codes "n2") (Apply (object.Node (node_in (codes "n1") (codes "b")))) true false

-- where that is the proxy's own node,
abbrev pub OwnNodeTouches : Type 0
OwnNodeTouches =
    Touches (codes "n1") (Apply (object.Node (node_in (codes "n1") (codes "b")))) true true

-- and that of a node without pods
abbrev pub EmptyNodeTouches : Type 0
EmptyNodeTouches =
    Touches (codes "n2") (Apply (object.Node (node_in (codes "n3") (codes "b")))) false false
