-- What the objects of each kind are found by.
use Rattle.std.specs.Prelude.{ℕ, List, [], ◌∷◌, ◌++◌, map, option_map}
use Rattle.std.specs.List.{flat_map}
use Rattle.std.specs.Option.{option_to_list}
use Rattle.kp_base.specs.Net.{AddressParts}
use Rattle.kp_base.specs.declared.address.Family.{Family}
use Rattle.kp_base.specs.declared.address.Family.TheVariants.{V4, V6}
use Rattle.kp_base.specs.declared.key.ObjectKey.{ObjectKey}
use Rattle.kp_base.specs.declared.key.Pair.{Pair}
use Rattle.kp_types.specs.declared.pod.Pod.{Pod}
use Rattle.kp_types.specs.declared.service.Service.{Service}
use Rattle.kp_types.specs.declared.service.ServicePort.{ServicePort}
use Rattle.kp_types.specs.declared.slice.Slice.{Slice}
use Rattle.kp_object_defs.specs.PortInfo.{balancer_of, external_of}
use Rattle.kp_store.specs.Destinations.{cluster_addresses}
use Rattle.kp_store.specs.Numbers.{joined, numbers_of, start_of}
use Rattle.kp_store.specs.declared.tags.Label.{Label}
use Rattle.kp_store.specs.declared.tags.PodTag.{PodTag}
use Rattle.kp_store.specs.declared.tags.PodTag.TheVariants.{Labelled, On}
use Rattle.kp_store.specs.declared.tags.ServiceTag.{ServiceTag}
use Rattle.kp_store.specs.declared.tags.ServiceTag.TheVariants.{Selector, Prefix, At, NodePort}

-- the key of the Service of this name in the slice's namespace
abbrev pub owner_key : Slice → List ℕ → ObjectKey
owner_key s name = record { namespace = s.key.namespace; name = name }

-- the Service that the slice's label names, if it names one
abbrev pub owners_of : Slice → List ObjectKey
owners_of s = option_to_list (option_map (owner_key s) s.service)

-- a pair in a namespace
abbrev pub label_in : List ℕ → Pair → Label
label_in namespace pair = record { namespace = namespace; key = pair.key; value = pair.value }

-- the tag of a pod with a pair among its labels
abbrev pub label_tag : List ℕ → Pair → PodTag
label_tag namespace pair = Labelled (label_in namespace pair)

-- the tags of a pod: its labels, in its namespace, and its node
abbrev pub tags_of_pod : Pod → List PodTag
tags_of_pod pod =
    map (label_tag pod.key.namespace) pod.labels ++ option_to_list (option_map On pod.node)

-- the tag of a path, with the numbers behind it: a selector where there are none
abbrev pub path_tag : List ℕ → ℕ → ServiceTag
path_tag [] at = Selector at
path_tag (n ∷ ns) at = Prefix at

-- the tags of a path that goes on with numbers: one for each of them
abbrev pub path_tags : ℕ → List ℕ → List ServiceTag
path_tags at [] = []
path_tags at (n ∷ ns) = path_tag ns (joined at n) ∷ path_tags (joined at n) ns

-- the tags of a Service's selector: its path, from its namespace on
abbrev pub selector_tags : Service → List ServiceTag
selector_tags s = path_tags (start_of s.key.namespace) (numbers_of s.selector)

-- the tag of a port at an address
abbrev pub tag_at : ServicePort → AddressParts → ServiceTag
tag_at p a = At a p.port p.proto

-- the tag of a port at a node port
abbrev pub node_tag : ServicePort → ℕ → ServiceTag
node_tag p number = NodePort number p.proto

-- the tags of a port at the addresses that its Service gives for a family
abbrev pub tags_in : Family → Service → ServicePort → List ServiceTag
tags_in family s p =
    map (tag_at p) (cluster_addresses family s)
    ++ map (tag_at p) (external_of family s)
    ++ map (tag_at p) (balancer_of family s)

-- the tags of a port of a Service
abbrev pub tags_of_port : Service → ServicePort → List ServiceTag
tags_of_port s p =
    tags_in V4 s p ++ tags_in V6 s p ++ option_to_list (option_map (node_tag p) p.node_port)

-- the tags of a Service: those of its selector, and the destinations of its ports
abbrev pub tags_of : Service → List ServiceTag
tags_of s = selector_tags s ++ flat_map (tags_of_port s) s.ports
