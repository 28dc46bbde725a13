-- What the look-ups of the store find: filters of the objects, in the order of their keys.
use Rattle.std.specs.Prelude.{ℕ, Bool, false, List, [], map, Option, Some, None}
use Rattle.std.specs.List.{filter}
use Rattle.std.specs.FinMap as finite
use Rattle.kp_base.specs.declared.key.ObjectKey.{ObjectKey}
use Rattle.kp_types.specs.declared.service.Service.{Service}
use Rattle.kp_types.specs.declared.pod.Pod.{Pod}
use Rattle.kp_object_defs.specs.Objects.{Objects}
use Rattle.kp_object_defs.specs.Desired.{selects}
use Rattle.kp_object_defs.specs.Entries.{is_on_node}

-- a Service is there and selects a pod
abbrev pub selects_if : Pod → Option Service → Bool
selects_if pod None = false
selects_if pod (Some s) = selects s pod

-- the keys of the Services that select a pod, which needn't be among the objects
abbrev pub services_selecting : Objects → Pod → List ObjectKey
services_selecting o pod =
    map (λ s. s.key) (filter (λ s. selects s pod) (finite.values o.services))

-- the keys of the Services that select a pod, if there is one
abbrev pub selecting : Objects → Option Pod → List ObjectKey
selecting o None = []
selecting o (Some pod) = services_selecting o pod

-- the keys of the Services that select the pod of this key
abbrev pub services_of_pod : Objects → ObjectKey → List ObjectKey
services_of_pod o pod = selecting o (finite.get o.pods pod)

-- a pod is on the node of this name
abbrev pub is_on : List ℕ → Pod → Bool
is_on node pod = is_on_node node pod.node

-- the pods that a Service selects, if there is one
abbrev pub selected : Objects → Option Service → List Pod
selected o None = []
selected o (Some s) = filter (selects s) (finite.values o.pods)

-- the pods that the Service of this key selects
abbrev pub pods_of : Objects → ObjectKey → List Pod
pods_of o service = selected o (finite.get o.services service)
