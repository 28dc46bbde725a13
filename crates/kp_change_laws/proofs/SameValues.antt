-- Doors whose values are told alike have equal ones, and two that are one door have one kind and
-- one destination.
use Rattle.std.proofs.Common.{◌≡◌, Bool, true, false, cond, List, [], ◌∷◌, refl, ap}
use Rattle.std.proofs.lemmas.Bool.{false≢true, and_parts}
use Rattle.std.proofs.lemmas.Map.Views.{exact_unsigned_eq}
use Rattle.kp_lemmas.specs.Exact.{IsExact}
use Rattle.kp_lemmas.proofs.Equality.{lists_exact, options_exact}
use Rattle.kp_base.proofs.SameParts.{address_test_exact, endpoint_test_exact, range_test_exact}
use Rattle.kp_base.specs.declared.key.Endpoint.{Endpoint}
use Rattle.kp_types.specs.contracts.decision.DoorKindPartialEq.TheImpl as kind_eq
use Rattle.kp_types.specs.contracts.service.PolicyPartialEq.TheImpl as policy_eq
use Rattle.kp_types.specs.declared.decision.DoorKind.TheVariants as door
use Rattle.kp_types.specs.declared.service.Policy.TheVariants.{Cluster, Local}
use Rattle.kp_door_defs.specs.Doors.{Door}
use Rattle.kp_change_defs.specs.contracts.DoorStatePartialEq.TheImpl as state_eq
use Rattle.kp_change_defs.specs.declared.DoorState.TheVariants.{Absent, Open, NoLocalEndpoints, NoEndpoints, Closed}
use Rattle.kp_change_defs.specs.DoorChanges.{same_destination, same_door}
use Rattle.kp_change_defs.specs.DoorValues.{absent, same_lists, same_values, state_of_list, values_of}

policy_test_exact : IsExact policy_eq.ghosts.eq
policy_test_exact Cluster Cluster h = refl
policy_test_exact Cluster Local h = absurd (false≢true h)
policy_test_exact Local Cluster h = absurd (false≢true h)
policy_test_exact Local Local h = refl

kind_test_exact : IsExact kind_eq.ghosts.eq
kind_test_exact door.Cluster door.Cluster h = refl
kind_test_exact door.Cluster door.External h = absurd (false≢true h)
kind_test_exact door.Cluster door.Balancer h = absurd (false≢true h)
kind_test_exact door.Cluster door.Node h = absurd (false≢true h)
kind_test_exact door.External door.Cluster h = absurd (false≢true h)
kind_test_exact door.External door.External h = refl
kind_test_exact door.External door.Balancer h = absurd (false≢true h)
kind_test_exact door.External door.Node h = absurd (false≢true h)
kind_test_exact door.Balancer door.Cluster h = absurd (false≢true h)
kind_test_exact door.Balancer door.External h = absurd (false≢true h)
kind_test_exact door.Balancer door.Balancer h = refl
kind_test_exact door.Balancer door.Node h = absurd (false≢true h)
kind_test_exact door.Node door.Cluster h = absurd (false≢true h)
kind_test_exact door.Node door.External h = absurd (false≢true h)
kind_test_exact door.Node door.Balancer h = absurd (false≢true h)
kind_test_exact door.Node door.Node h = refl

state_test_exact : IsExact state_eq.ghosts.eq
state_test_exact Absent Absent h = refl
state_test_exact Absent Open h = absurd (false≢true h)
state_test_exact Absent NoLocalEndpoints h = absurd (false≢true h)
state_test_exact Absent NoEndpoints h = absurd (false≢true h)
state_test_exact Absent Closed h = absurd (false≢true h)
state_test_exact Open Absent h = absurd (false≢true h)
state_test_exact Open Open h = refl
state_test_exact Open NoLocalEndpoints h = absurd (false≢true h)
state_test_exact Open NoEndpoints h = absurd (false≢true h)
state_test_exact Open Closed h = absurd (false≢true h)
state_test_exact NoLocalEndpoints Absent h = absurd (false≢true h)
state_test_exact NoLocalEndpoints Open h = absurd (false≢true h)
state_test_exact NoLocalEndpoints NoLocalEndpoints h = refl
state_test_exact NoLocalEndpoints NoEndpoints h = absurd (false≢true h)
state_test_exact NoLocalEndpoints Closed h = absurd (false≢true h)
state_test_exact NoEndpoints Absent h = absurd (false≢true h)
state_test_exact NoEndpoints Open h = absurd (false≢true h)
state_test_exact NoEndpoints NoLocalEndpoints h = absurd (false≢true h)
state_test_exact NoEndpoints NoEndpoints h = refl
state_test_exact NoEndpoints Closed h = absurd (false≢true h)
state_test_exact Closed Absent h = absurd (false≢true h)
state_test_exact Closed Open h = absurd (false≢true h)
state_test_exact Closed NoLocalEndpoints h = absurd (false≢true h)
state_test_exact Closed NoEndpoints h = absurd (false≢true h)
state_test_exact Closed Closed h = refl

-- values that are told alike
pub values_exact : IsExact same_values
values_exact a b h =
    let state = and_parts (state_eq.ghosts.eq a.state b.state) _ h in
    let lists = and_parts (same_lists a b) _ state.1 in
    let each = and_parts _ _ lists.0 in
    let policy = and_parts (policy_eq.ghosts.eq a.policy b.policy) _ lists.1 in
    let other = and_parts _ _ policy.1 in
    λ i. record {
      state = state_test_exact a.state b.state state.0 i;
      list = lists_exact _ endpoint_test_exact a.list b.list each.0 i;
      inside = lists_exact _ endpoint_test_exact a.inside b.inside each.1 i;
      policy = policy_test_exact a.policy b.policy policy.0 i;
      affinity = options_exact _ exact_unsigned_eq a.affinity b.affinity other.0 i;
      sources = options_exact _ (lists_exact _ range_test_exact) a.sources b.sources other.1 i;
    }

-- what one door is known by
pub record IsOne (d e : Door) : Type 0 where
  pub kind : d.kind ≡ e.kind
  pub address : d.address ≡ e.address
  pub number : d.number ≡ e.number

pub one_door : (d e : Door) → same_door d e ≡ true → IsOne d e
one_door d e h =
    let kind = and_parts (kind_eq.ghosts.eq d.kind e.kind) (same_destination d e) h in
    let place = and_parts _ _ kind.1 in
    record {
      kind = kind_test_exact d.kind e.kind kind.0;
      address = options_exact _ address_test_exact d.address e.address place.0;
      number = exact_unsigned_eq d.number e.number place.1;
    }

-- a door that is there is never absent
state_there : (closed any : Bool) (es : List Endpoint)
    → cond closed Closed (state_of_list es any) ≡ Absent → ⊥
state_there true any es h = absurd (cc)
state_there false any (e ∷ es) h = absurd (cc)
state_there false true [] h = absurd (cc)
state_there false false [] h = absurd (cc)

pub not_absent : (d : Door) → values_of d ≡ absent → ⊥
not_absent d h = state_there _ _ _ (ap (λ v. v.state) h)
