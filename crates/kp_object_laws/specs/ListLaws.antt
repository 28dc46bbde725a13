-- What holds of the endpoints of a Service port and of its lists, whatever the objects are.
use Rattle.std.specs.Prelude.{◌≡◌, ◌&&◌, ◌||◌, ℕ, Bool, true, false, List, [], map, not, Contains, Option}
use Rattle.std.specs.List.{filter}
use Rattle.kp_base.specs.Keys.{endpoint_cmp}
use Rattle.kp_base.specs.declared.address.Family.{Family}
use Rattle.kp_base.specs.declared.key.Endpoint.{Endpoint}
use Rattle.kp_base.specs.declared.key.PortKey.{PortKey}
use Rattle.kp_types.specs.Setting.{NodeConfig, config_of_family}
use Rattle.kp_types.specs.declared.info.ServiceSources.{ServiceSources}
use Rattle.kp_types.specs.declared.lists.Candidate.{Candidate}
use Rattle.kp_types.specs.declared.lists.Lists.{Lists}
use Rattle.kp_types.specs.declared.service.Policy.{Policy}
use Rattle.kp_types.specs.declared.service.Service.{Service}
use Rattle.kp_object_defs.specs.Desired.{is_empty}
use Rattle.kp_object_defs.specs.Entries.{counted_once, entries_from, entries_of, entries_of_both, is_of_family}
use Rattle.kp_object_defs.specs.Objects.{Objects}
use Rattle.kp_object_defs.specs.Lists.{is_ready, is_serving_terminating, is_local_policy, has_any_endpoint, lists_from}
use Rattle.kp_object_defs.specs.Order.{rises}

-- the addresses and ports of candidates
abbrev pub endpoints_of : List Candidate → List Endpoint
endpoints_of cs = map (λ c. c.endpoint) cs

-- candidates stand in order of address and port, each address and port once
abbrev pub are_in_order : List Candidate → Bool
are_in_order cs = rises endpoint_cmp (endpoints_of cs)

-- candidates that count once are in order
abbrev pub CountedInOrder : Type 0
CountedInOrder = (cs : List Candidate) → are_in_order (counted_once cs) ≡ true

-- and so are the endpoints of a port
abbrev pub EntriesInOrder : Type 0
EntriesInOrder =
    (family : Family) (node : List ℕ) (sources : ServiceSources) (port : PortKey)
    → are_in_order (entries_from family node sources port) ≡ true

-- and those of both families
abbrev pub EntriesOfBothInOrder : Type 0
EntriesOfBothInOrder =
    (config : NodeConfig) (o : Objects) (s : Service) (port : PortKey)
    → are_in_order (entries_of_both config o s port) ≡ true

-- of the endpoints of a port in both families, those of a family are its endpoints in this family
abbrev pub EntriesByFamily : Type 0
EntriesByFamily =
    (config : NodeConfig) (o : Objects) (s : Service) (port : PortKey) (family : Family)
    → filter (is_of_family family) (entries_of_both config o s port)
    ≡ entries_of family (config_of_family family config) o s port

-- a candidate is ready, or still serves
abbrev pub is_usable : Candidate → Bool
is_usable c = is_ready c || is_serving_terminating c

-- the candidates that are usable
abbrev pub usable : List Candidate → List Candidate
usable cs = filter is_usable cs

-- the candidates on this node
abbrev pub local : List Candidate → List Candidate
local cs = filter (λ c. c.local) cs

-- endpoints are all among candidates
abbrev pub AreAmong : List Candidate → List Endpoint → Type 0
AreAmong cs es = (e : Endpoint) → Contains es e → Contains (endpoints_of cs) e

-- what holds of the lists of a port that are made of candidates
abbrev pub HoldsOfLists : (List Candidate → Lists → Type 0) → Type 0
HoldsOfLists P =
    (internal outer : Policy) (accessible : Bool) (zone : Option (List ℕ)) (cs : List Candidate)
    → P cs (lists_from internal outer accessible zone cs)

-- a port sends to usable candidates alone, of this node where its policy is Local
abbrev pub ListsAmongUsable : Type 0
ListsAmongUsable =
    HoldsOfLists (λ cs lists.
    AreAmong (usable cs) lists.cluster × AreAmong (usable (local cs)) lists.local)

-- lists keep the order of the candidates
abbrev pub ListsInOrder : Type 0
ListsInOrder =
    HoldsOfLists (λ cs lists.
    are_in_order cs ≡ true
    → (rises endpoint_cmp lists.cluster ≡ true) × (rises endpoint_cmp lists.local ≡ true))

-- where no candidate is usable, both lists are empty
abbrev pub NoneUsable : Type 0
NoneUsable =
    HoldsOfLists (λ cs lists. lists.has_any ≡ false → (lists.cluster ≡ []) × (lists.local ≡ []))

-- The list of the cluster, where it is used, is empty exactly where no candidate is usable: hints
-- never empty it.
abbrev pub ClusterListEmpty : Type 0
ClusterListEmpty =
    (internal outer : Policy) (accessible : Bool) (zone : Option (List ℕ)) (cs : List Candidate)
    → (not (is_local_policy internal) || accessible) ≡ true
    → is_empty (lists_from internal outer accessible zone cs).cluster ≡ not (has_any_endpoint cs)

-- the list of this node, where it is used, is empty exactly where no candidate on it is usable
abbrev pub LocalListEmpty : Type 0
LocalListEmpty =
    (internal outer : Policy) (accessible : Bool) (zone : Option (List ℕ)) (cs : List Candidate)
    → (is_local_policy internal || (accessible && is_local_policy outer)) ≡ true
    → is_empty (lists_from internal outer accessible zone cs).local
    ≡ not (has_any_endpoint (local cs))
