-- The endpoints that a Service port may send to, by traffic policy, topology and termination
-- (Kubernetes documents on virtual IPs and Service traffic policies, on topology hints, and
-- KEP-1669 on terminating endpoints).
use Rattle.std.specs.Prelude.{ℕ, ◌&&◌, ◌||◌, Bool, true, false, List, [], ◌∷◌, map, not, cond, bytes_eq, Option, Some, None}
use Rattle.std.specs.List.{list_any, list_all, filter}
use Rattle.kp_base.specs.declared.key.Endpoint.{Endpoint}
use Rattle.kp_types.specs.declared.service.Policy.{Policy}
use Rattle.kp_types.specs.declared.service.Policy.TheVariants.{Cluster, Local}
use Rattle.kp_types.specs.declared.lists.Candidate.{Candidate}
use Rattle.kp_types.specs.declared.lists.Lists.{Lists}
use Rattle.kp_object_defs.specs.Desired.{is_empty}

-- it is ready
abbrev pub is_ready : Candidate → Bool
is_ready c = c.ready

-- it still serves while it terminates
abbrev pub is_serving_terminating : Candidate → Bool
is_serving_terminating c = c.serving && c.terminating

-- it hints this zone
abbrev pub hints_zone : List ℕ → Candidate → Bool
hints_zone zone c = list_any (λ z. bytes_eq z zone) c.hints

-- it has a hint
abbrev pub has_hint : Candidate → Bool
has_hint c = not (is_empty c.hints)

-- the hints of ready endpoints apply in a zone: each has one, and one hints this zone
abbrev pub hints_apply : Option (List ℕ) → List Candidate → Bool
hints_apply None ready = false
hints_apply (Some zone) ready = list_all has_hint ready && list_any (hints_zone zone) ready

-- the endpoints that hint a zone, or all where there is none
abbrev pub in_zone : Option (List ℕ) → List Candidate → List Candidate
in_zone None cs = cs
in_zone (Some zone) cs = filter (hints_zone zone) cs

-- the ready endpoints, filtered by their hints where these apply
abbrev pub topology_filtered : Option (List ℕ) → List Candidate → List Candidate
topology_filtered zone ready = cond (hints_apply zone ready) (in_zone zone ready) ready

-- the first list, or where it is empty the second
abbrev pub or_else : {A : Type 0} → List A → List A → List A
or_else [] ys = ys
or_else (x ∷ xs) ys = x ∷ xs

-- The endpoints of the whole cluster: the ready ones, by topology, or where none is ready those
-- that still serve. (Hints that apply leave one endpoint at least, so the second list counts only
-- where none is ready.)
abbrev pub cluster_endpoints : Option (List ℕ) → List Candidate → List Candidate
cluster_endpoints zone cs =
    or_else (topology_filtered zone (filter is_ready cs)) (filter is_serving_terminating cs)

-- the endpoints of this node, whatever their hints: the ready ones, or where none is ready those
-- that still serve
abbrev pub local_endpoints : List Candidate → List Candidate
local_endpoints cs =
    or_else (filter is_ready (filter (λ c. c.local) cs))
    (filter is_serving_terminating (filter (λ c. c.local) cs))

-- some endpoint is ready, or still serves
abbrev pub has_any_endpoint : List Candidate → Bool
has_any_endpoint cs = list_any (λ c. is_ready c || is_serving_terminating c) cs

-- a policy is Local
abbrev pub is_local_policy : Policy → Bool
is_local_policy Local = true
is_local_policy Cluster = false

-- a list where it is used
abbrev pub used : Bool → List Candidate → List Endpoint
used true cs = map (λ c. c.endpoint) cs
used false cs = []

-- The lists of a port with these policies, which may be reached from outside the cluster or not:
-- what isn't used is empty.
abbrev pub lists_from : Policy → Policy → Bool → Option (List ℕ) → List Candidate → Lists
lists_from internal outer accessible zone cs = record {
  cluster = used (not (is_local_policy internal) || accessible) (cluster_endpoints zone cs);
  local =
      used (is_local_policy internal || (accessible && is_local_policy outer)) (local_endpoints cs);
  has_any = has_any_endpoint cs;
}

-- the list of a policy
abbrev pub list_by_policy : Policy → Lists → List Endpoint
list_by_policy Cluster lists = lists.cluster
list_by_policy Local lists = lists.local
