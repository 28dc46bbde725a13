-- What differs at a door, as it is printed: its state, its lists of endpoints, how it chooses and
-- whom it admits (this project's choice).
use Rattle.std.specs.Prelude.{ℕ, ◌==◌, ◌&&◌, Bool, true, false, List, [], ◌∷◌, ◌++◌, length, not, cond, codes, decimal, Option, Some, None}
use Rattle.std.specs.List.{filter, flat_map}
use Rattle.std.specs.Cmp.Lexicographic.{pointwise}
use Rattle.kp_base.specs.Net.{RangeParts}
use Rattle.kp_base.specs.contracts.key.EndpointPartialEq.TheImpl as endpoint_eq
use Rattle.kp_base.specs.declared.key.Endpoint.{Endpoint}
use Rattle.kp_types.specs.contracts.service.PolicyPartialEq.TheImpl as policy_eq
use Rattle.kp_types.specs.declared.service.Policy.{Policy}
use Rattle.kp_types.specs.declared.service.Policy.TheVariants.{Cluster, Local}
use Rattle.kp_choice_defs.specs.AddressText.{address_text, endpoint_text}
use Rattle.kp_table_defs.specs.Keys.{has_endpoint}
use Rattle.kp_change_defs.specs.DoorValues.{DoorValues, same_affinity, same_sources}
use Rattle.kp_change_defs.specs.DoorChanges.{DoorChange}
use Rattle.kp_change_defs.specs.contracts.DoorStatePartialEq.TheImpl as state_eq
use Rattle.kp_change_defs.specs.declared.DoorState.{DoorState}
use Rattle.kp_change_defs.specs.declared.DoorState.TheVariants as state

-- ---- Its state and its list

-- a state, and for an open door how many endpoints it has
abbrev pub state_text : DoorState → ℕ → List ℕ
state_text state.Absent n = codes "absent"
state_text state.Open n = codes "open " ++ decimal n
state_text state.NoLocalEndpoints n = codes "no local endpoints"
state_text state.NoEndpoints n = codes "no endpoints"
state_text state.Closed n = codes "closed"

-- the state of a door with these values
abbrev pub state_of : DoorValues → List ℕ
state_of v = state_text v.state (length v.list)

-- whether two states, with their numbers of endpoints, are one
abbrev pub same_state : DoorValues → DoorValues → Bool
same_state a b = state_eq.ghosts.eq a.state b.state && (length a.list == length b.list)

-- a text, unless something is the same
abbrev pub unless : Bool → List ℕ → List ℕ
unless true text = []
unless false text = text

-- what is now
abbrev pub now_text : List ℕ → List ℕ
now_text text = codes ", now " ++ text

-- the state before and, where it differs, the state after
abbrev pub states_text : DoorValues → DoorValues → List ℕ
states_text a b = state_of a ++ unless (same_state a b) (now_text (state_of b))

-- an endpoint behind another one
abbrev pub next_endpoint_text : Endpoint → List ℕ
next_endpoint_text e = codes ", " ++ endpoint_text e

-- endpoints under a word, where there are some
abbrev pub endpoints_text : List ℕ → List Endpoint → List ℕ
endpoints_text word [] = []
endpoints_text word (e ∷ es) =
    codes "; " ++ word ++ codes " " ++ endpoint_text e ++ flat_map next_endpoint_text es

-- the endpoints of a list that another one lacks
abbrev pub beyond : List Endpoint → List Endpoint → List Endpoint
beyond others es = filter (λ e. not (has_endpoint others e)) es

-- the endpoints that came into a list, and those that went
abbrev pub list_text : DoorValues → DoorValues → List ℕ
list_text a b =
    endpoints_text (codes "new") (beyond a.list b.list)
    ++ endpoints_text (codes "gone") (beyond b.list a.list)

-- ---- How it chooses, and whom it admits

-- a traffic policy
abbrev pub policy_text : Policy → List ℕ
policy_text Cluster = codes "policy Cluster"
policy_text Local = codes "policy Local"

-- session affinity, by its timeout
abbrev pub affinity_text : Option ℕ → List ℕ
affinity_text None = codes "affinity none"
affinity_text (Some seconds) = codes "affinity " ++ decimal seconds

-- a range
abbrev pub range_text : RangeParts → List ℕ
range_text r = address_text r.base ++ codes "/" ++ decimal r.bits

-- a range behind another one
abbrev pub next_range_text : RangeParts → List ℕ
next_range_text r = codes ", " ++ range_text r

-- the sources that are admitted
abbrev pub sources_text : Option (List RangeParts) → List ℕ
sources_text None = codes "sources any"
sources_text (Some []) = codes "sources none"
sources_text (Some (r ∷ rs)) = codes "sources " ++ range_text r ++ flat_map next_range_text rs

-- whether a door comes: there was none
abbrev pub comes : DoorChange → Bool
comes c = state_eq.ghosts.eq c.before.state state.Absent

-- whether a door goes: there is none any more
abbrev pub goes : DoorChange → Bool
goes c = state_eq.ghosts.eq c.after.state state.Absent

-- a value after that of before, or by itself at a door that comes
abbrev pub before_after_text : Bool → List ℕ → List ℕ → List ℕ
before_after_text true a b = b
before_after_text false a b = a ++ now_text b

-- a value that differs
abbrev pub value_text : DoorChange → List ℕ → List ℕ → List ℕ
value_text c a b = codes "; " ++ before_after_text (comes c) a b

-- the policy, the affinity and the sources, where they differ, or at a door that comes where they
-- aren't those of most doors
abbrev pub values_text : DoorChange → List ℕ
values_text c =
    unless (policy_eq.ghosts.eq c.before.policy c.after.policy)
    (value_text c (policy_text c.before.policy) (policy_text c.after.policy))
    ++ unless (same_affinity c.before.affinity c.after.affinity)
    (value_text c (affinity_text c.before.affinity) (affinity_text c.after.affinity))
    ++ unless (same_sources c.before.sources c.after.sources)
    (value_text c (sources_text c.before.sources) (sources_text c.after.sources))

-- ---- Its list for sources of the cluster and of the node

-- sources inside have the same list
abbrev pub is_one_list : DoorValues → Bool
is_one_list v = pointwise endpoint_eq.ghosts.eq v.inside v.list

-- how many endpoints they have
abbrev pub inside_count_text : DoorValues → List ℕ
inside_count_text v = codes "inside open " ++ decimal (length v.inside)

-- whether there are as many as before
abbrev pub same_inside_count : DoorChange → Bool
same_inside_count c = length c.before.inside == length c.after.inside

-- how many there are after, by itself at a door that comes, or else where it differs
abbrev pub inside_counts_text : DoorChange → List ℕ
inside_counts_text c =
    cond (comes c) (inside_count_text c.after)
    (inside_count_text c.before
    ++ unless (same_inside_count c) (now_text (inside_count_text c.after)))

-- the list for sources inside, where in either record it is another one
abbrev pub inside_text : DoorChange → List ℕ
inside_text c =
    unless (is_one_list c.before && is_one_list c.after)
    (codes "; " ++ inside_counts_text c
    ++ endpoints_text (codes "inside new") (beyond c.before.inside c.after.inside)
    ++ endpoints_text (codes "inside gone") (beyond c.after.inside c.before.inside))
