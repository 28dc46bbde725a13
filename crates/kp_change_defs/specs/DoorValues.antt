-- The values of a door: what it offers, whatever packet comes (Kubernetes documents on Services:
-- traffic policies, session affinity, `loadBalancerSourceRanges`). Two doors of one port, kind,
-- family and destination decide alike where their values are the same.
use Rattle.std.specs.Prelude.{ℕ, ◌==◌, ◌&&◌, Bool, true, false, List, [], ◌∷◌, cond, Option, Some, None}
use Rattle.std.specs.Option.{option_eq}
use Rattle.std.specs.Cmp.Lexicographic.{pointwise}
use Rattle.kp_base.specs.Net.{RangeParts}
use Rattle.kp_base.specs.contracts.key.EndpointPartialEq.TheImpl as endpoint_eq
use Rattle.kp_base.specs.contracts.range.CidrPartialEq.TheImpl as range_eq
use Rattle.kp_base.specs.declared.key.Endpoint.{Endpoint}
use Rattle.kp_types.specs.contracts.service.PolicyPartialEq.TheImpl as policy_eq
use Rattle.kp_types.specs.declared.decision.DoorKind.{DoorKind}
use Rattle.kp_types.specs.declared.decision.DoorKind.TheVariants as door
use Rattle.kp_types.specs.declared.service.Policy.{Policy}
use Rattle.kp_types.specs.declared.service.Policy.TheVariants.{Cluster}
use Rattle.kp_object_defs.specs.Lists.{list_by_policy}
use Rattle.kp_object_defs.specs.PortInfo.{PortInfo, internal_list}
use Rattle.kp_door_defs.specs.Doors.{Door}
use Rattle.kp_change_defs.specs.contracts.DoorStatePartialEq.TheImpl as state_eq
use Rattle.kp_change_defs.specs.declared.DoorState.{DoorState}
use Rattle.kp_change_defs.specs.declared.DoorState.TheVariants.{Absent, Open, NoLocalEndpoints, NoEndpoints, Closed}

-- A door's values: its state, the endpoints that it offers to sources elsewhere and those that it
-- offers to sources of the cluster and of the node, the traffic policy that chose the list, the
-- timeout of session affinity, and the sources that are admitted where they are restricted.
pub record DoorValues : Type 0 where
  pub state : DoorState
  pub list : List Endpoint
  pub inside : List Endpoint
  pub policy : Policy
  pub affinity : Option ℕ
  pub sources : Option (List RangeParts)

-- the values of a door that isn't there
abbrev pub absent : DoorValues
absent = record {
  state = Absent;
  list = [];
  inside = [];
  policy = Cluster;
  affinity = None;
  sources = None;
}

-- the policy that chooses a door's list: the internal one at a cluster address, else the external
abbrev pub policy_at : DoorKind → PortInfo → Policy
policy_at door.Cluster i = i.internal
policy_at door.External i = i.outer
policy_at door.Balancer i = i.outer
policy_at door.Node i = i.outer

-- a door's list
abbrev pub list_at : DoorKind → PortInfo → List Endpoint
list_at kind i = list_by_policy (policy_at kind i) i.lists

-- the list for sources of the cluster and of the node: at a cluster address the same, and at other
-- doors that of the whole cluster, whatever the external policy
abbrev pub inside_at : DoorKind → PortInfo → List Endpoint
inside_at door.Cluster i = internal_list i
inside_at door.External i = i.lists.cluster
inside_at door.Balancer i = i.lists.cluster
inside_at door.Node i = i.lists.cluster

-- source ranges count at load-balancer addresses
abbrev pub sources_at : DoorKind → PortInfo → Option (List RangeParts)
sources_at door.Cluster i = None
sources_at door.External i = None
sources_at door.Balancer i = i.ranges
sources_at door.Node i = None

-- sources are restricted to none at all
abbrev pub admits_nobody : Option (List RangeParts) → Bool
admits_nobody None = false
admits_nobody (Some []) = true
admits_nobody (Some (r ∷ rs)) = false

-- the state of a door by its list, and by whether its port has any endpoint
abbrev pub state_of_list : List Endpoint → Bool → DoorState
state_of_list (e ∷ es) has_any = Open
state_of_list [] true = NoLocalEndpoints
state_of_list [] false = NoEndpoints

-- the state of a door: where there are endpoints and nobody is admitted it is closed
abbrev pub state_at : DoorKind → PortInfo → DoorState
state_at kind i =
    cond (i.lists.has_any && admits_nobody (sources_at kind i)) Closed
    (state_of_list (list_at kind i) i.lists.has_any)

-- a list where the door isn't closed
abbrev pub unless_closed : DoorState → List Endpoint → List Endpoint
unless_closed Closed es = []
unless_closed Absent es = es
unless_closed Open es = es
unless_closed NoLocalEndpoints es = es
unless_closed NoEndpoints es = es

-- the values of a port's door of a kind
abbrev pub values_at : DoorKind → PortInfo → DoorValues
values_at kind i = record {
  state = state_at kind i;
  list = unless_closed (state_at kind i) (list_at kind i);
  inside = unless_closed (state_at kind i) (inside_at kind i);
  policy = policy_at kind i;
  affinity = i.affinity;
  sources = sources_at kind i;
}

-- the values of a door
abbrev pub values_of : Door → DoorValues
values_of d = values_at d.kind d.info

-- whether two doors have the same lists
abbrev pub same_lists : DoorValues → DoorValues → Bool
same_lists a b =
    pointwise endpoint_eq.ghosts.eq a.list b.list
    && pointwise endpoint_eq.ghosts.eq a.inside b.inside

-- whether two timeouts are one
abbrev pub same_affinity : Option ℕ → Option ℕ → Bool
same_affinity a b = option_eq (λ s t. s == t) a b

-- whether two restrictions are one
abbrev pub same_sources : Option (List RangeParts) → Option (List RangeParts) → Bool
same_sources a b = option_eq (pointwise range_eq.ghosts.eq) a b

-- whether two doors have the same values
abbrev pub same_values : DoorValues → DoorValues → Bool
same_values a b =
    state_eq.ghosts.eq a.state b.state
    && (same_lists a b
    && (policy_eq.ghosts.eq a.policy b.policy
    && (same_affinity a.affinity b.affinity && same_sources a.sources b.sources)))
