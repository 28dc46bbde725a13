-- Worked examples of the endpoints that the EndpointSlice controller wants (Kubernetes documents on Services and
-- EndpointSlices). The node n1 is in the zone a. The pods have the label app=web and a port named http, which
-- the Service selects and targets.
use Rattle.std.specs.Prelude.{◌≡◌, ℕ, Bool, true, false, refl, List, [], ◌∷◌, map, codes, Some, None}
use Rattle.kp_base.specs.Net.{AddressParts}
use Rattle.kp_base.specs.declared.address.Family.TheVariants.{V4}
use Rattle.kp_base.specs.declared.port.Proto.TheVariants.{Tcp, Udp}
use Rattle.kp_base.specs.declared.key.Pair.{Pair}
use Rattle.kp_types.specs.declared.pod.Pod.{Pod}
use Rattle.kp_types.specs.declared.pod.Node.{Node}
use Rattle.kp_types.specs.declared.service.Service.{Service}
use Rattle.kp_types.specs.declared.service.ServiceKind.TheVariants.{ExternalName}
use Rattle.kp_types.specs.declared.service.TargetPort.TheVariants.{Named}
use Rattle.kp_types.specs.declared.slice.SliceEndpoint.{SliceEndpoint}
use Rattle.kp_types.specs.declared.slice.Wanted.{Wanted}
use Rattle.kp_types.specs.declared.verdict.Verdict.TheVariants.{To}
use Rattle.kp_object_defs.specs.Desired.{desired_among, selects}
use Rattle.kp_worked.specs.Setting.{ipv4, default_key, web, infos_in, ep1, other_pod, to_web}
use Rattle.kp_worked.specs.Decisions.{decided}

-- the label that is selected
abbrev pub app_web : List Pair
app_web = record { key = codes "app"; value = codes "web" } ∷ []

-- a Service that selects it
abbrev pub selecting : Service
selecting = record web {
  selector = app_web;
  ports = record { name = []; proto = Tcp; port = 80; target = Named (codes "http"); node_port = None } ∷ [];
  distinct = refl;
}

-- a pod on the node, which is ready
abbrev pub ready_pod : List ℕ → AddressParts → Pod
ready_pod name address = record {
  key = default_key name;
  labels = app_web;
  deleting = false;
  node = Some (codes "n1");
  ports = record { name = codes "http"; proto = Udp; port = 53 } ∷ record { name = codes "http"; proto = Tcp; port = 8080 } ∷ [];
  finished = false;
  address = Some address;
  address6 = None;
  ready = true;
}

-- one that is ready
abbrev pub pod_a : Pod
pod_a = ready_pod (codes "a") (ipv4 10 244 1 2)

-- one that isn't
abbrev pub pod_b : Pod
pod_b = record (ready_pod (codes "b") (ipv4 10 244 1 3)) { ready = false }

-- and one that is being deleted
abbrev pub pod_c : Pod
pod_c = record (ready_pod (codes "c") (ipv4 10 244 1 4)) { deleting = true }

-- the node
abbrev pub nodes : List Node
nodes = record { name = codes "n1"; zone = Some (codes "a") } ∷ []

-- the endpoints that a Service wants of pods
abbrev pub wanted_of : Service → List Pod → List Wanted
wanted_of s pods = desired_among V4 s pods nodes

-- the endpoint of a pod on the node: whether it is ready, serves and terminates
abbrev pub entry : List ℕ → AddressParts → Bool → Bool → Bool → SliceEndpoint
entry pod address ready serving terminating = record {
  address = Some address;
  ready = ready;
  serving = serving;
  terminating = terminating;
  node = Some (codes "n1");
  zone = Some (codes "a");
  hints = [];
  pod = Some (default_key pod);
}

-- each pod gives an endpoint in its state, in order of the pods' names
abbrev pub EveryState : Type 0
EveryState =
    map (λ w. w.entry) (wanted_of selecting (pod_c ∷ pod_a ∷ pod_b ∷ []))
    ≡ entry (codes "a") (ipv4 10 244 1 2) true true false
    ∷ entry (codes "b") (ipv4 10 244 1 3) false false false
    ∷ entry (codes "c") (ipv4 10 244 1 4) false true true ∷ []

-- the named port is the container port of its protocol
abbrev pub NamedPort : Type 0
NamedPort =
    map (λ w. w.ports) (wanted_of selecting (pod_a ∷ []))
    ≡ (record { name = []; proto = Tcp; port = Some 8080 } ∷ []) ∷ []

-- a packet goes to the pod that is ready
abbrev pub ReadyPod : Type 0
ReadyPod =
    (decided (infos_in (Some (codes "a")) (record { service = selecting; wanted = wanted_of selecting (pod_a ∷ pod_b ∷ pod_c ∷ []); slices = [] } ∷ []))
    (to_web other_pod) []).verdict
    ≡ To ep1 false

-- a pod that has finished gives no endpoint
abbrev pub Finished : Type 0
Finished = wanted_of selecting (record pod_a { finished = true } ∷ []) ≡ []

-- nor does one without the label
abbrev pub Unselected : Type 0
Unselected = wanted_of selecting (record pod_a { labels = [] } ∷ []) ≡ []

-- nor one of another namespace
abbrev pub OtherNamespace : Type 0
OtherNamespace =
    wanted_of selecting (record pod_a { key = record { namespace = codes "other"; name = codes "a" } } ∷ []) ≡ []

-- nor one that lacks the named port
abbrev pub WithoutPort : Type 0
WithoutPort = wanted_of selecting (record pod_a { ports = [] } ∷ []) ≡ []

-- nor any pod, where nothing is selected
abbrev pub NoSelector : Type 0
NoSelector = wanted_of (record selecting { selector = [] }) (pod_a ∷ []) ≡ []

-- addresses of pods that aren't ready are published where the Service asks for it
abbrev pub NotReadyPublished : Type 0
NotReadyPublished =
    map (λ w. w.entry) (wanted_of (record selecting { publish_not_ready = true }) (pod_b ∷ []))
    ≡ entry (codes "b") (ipv4 10 244 1 3) true false false ∷ []

-- under traffic distribution by zone the hint is the endpoint's own zone
abbrev pub SameZone : Type 0
SameZone =
    map (λ w. w.entry.hints) (wanted_of (record selecting { same_zone = true }) (pod_a ∷ [])) ≡ (codes "a" ∷ []) ∷ []

-- ---- Selectors

-- a label or a term of a selector
abbrev pub pair : List ℕ → List ℕ → Pair
pair key value = record { key = key; value = value }

-- a pod with three labels
abbrev pub labelled : Pod
labelled = record pod_a {
  labels = pair (codes "app") (codes "web") ∷ pair (codes "tier") (codes "front") ∷ pair (codes "zone") (codes "x") ∷ [];
}

-- each term of a selector is asked for
abbrev pub AllTerms : Type 0
AllTerms =
    selects (record web { selector = pair (codes "zone") (codes "x") ∷ pair (codes "app") (codes "web") ∷ [] }) labelled ≡ true

-- one whose value differs is missing
abbrev pub OtherValue : Type 0
OtherValue =
    selects (record web { selector = pair (codes "app") (codes "web") ∷ pair (codes "tier") (codes "back") ∷ [] }) labelled ≡ false

-- no term selects nothing
abbrev pub NoTerm : Type 0
NoTerm = selects web labelled ≡ false

-- nor does a Service that is only another name
abbrev pub AnotherName : Type 0
AnotherName = selects (record web { kind = ExternalName; selector = app_web }) labelled ≡ false

-- a pod of another namespace isn't selected
abbrev pub Elsewhere : Type 0
Elsewhere =
    selects (record web { selector = app_web }) (record labelled { key = record { namespace = codes "other"; name = codes "a" } })
    ≡ false

-- ---- Pods and nodes of one name

-- pods of every kind, of which two have one name
abbrev pub many_pods : List Pod
many_pods =
    record (ready_pod (codes "f") (ipv4 10 244 0 1)) { finished = true }
    ∷ record (ready_pod (codes "a") (ipv4 10 244 0 1)) { ready = false; deleting = true; address = None }
    ∷ record (ready_pod (codes "c") (ipv4 10 244 1 4)) { deleting = true }
    ∷ record (ready_pod (codes "b") (ipv4 10 244 1 3)) { ready = false }
    ∷ record (ready_pod (codes "e") (ipv4 10 244 0 1)) { address = None }
    ∷ record (ready_pod (codes "d") (ipv4 10 244 0 1)) { labels = pair (codes "app") (codes "db") ∷ [] }
    ∷ ready_pod (codes "a") (ipv4 10 244 1 2) ∷ []

-- two nodes of one name
abbrev pub renamed : List Node
renamed = record { name = codes "n1"; zone = Some (codes "west") } ∷ record { name = codes "n1"; zone = Some (codes "a") } ∷ []

-- of pods and of nodes of one name the last counts
abbrev pub LastOfName : Type 0
LastOfName =
    map (λ w. w.entry) (desired_among V4 selecting many_pods renamed)
    ≡ entry (codes "a") (ipv4 10 244 1 2) true true false
    ∷ entry (codes "b") (ipv4 10 244 1 3) false false false
    ∷ entry (codes "c") (ipv4 10 244 1 4) false true true ∷ []

-- the first container port of the name and protocol counts
abbrev pub FirstOfPorts : Type 0
FirstOfPorts =
    map (λ w. w.ports)
    (wanted_of selecting (record pod_a {
      ports =
          record { name = codes "http"; proto = Udp; port = 7070 } ∷ record { name = codes "http"; proto = Tcp; port = 8080 }
          ∷ record { name = codes "http"; proto = Tcp; port = 9090 } ∷ [];
    } ∷ []))
    ≡ (record { name = []; proto = Tcp; port = Some 8080 } ∷ []) ∷ []

-- no pod has a port of another name
abbrev pub OtherTarget : Type 0
OtherTarget =
    wanted_of (record selecting {
      ports = record { name = []; proto = Tcp; port = 80; target = Named (codes "https"); node_port = None } ∷ [];
      distinct = refl;
    }) many_pods
    ≡ []
