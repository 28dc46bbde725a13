-- The tests of pods, nodes and slices are true at equal ones alone, and at all equal slices.
use Rattle.std.proofs.Common.{◌≡◌, ◌↔◌, ℕ, Bool, true, false, List, Option, Some, None, bytes_eq, refl, sym, ap, ◌∙◌}
use Rattle.std.specs.Option.{option_eq}
use Rattle.std.specs.Cmp.Lexicographic.{nat_list_eq_equiv}
use Rattle.std.proofs.lemmas.Bool.{false≢true, and_from, and_parts}
use Rattle.std.proofs.lemmas.Cmp.{lists_equiv}
use Rattle.std.proofs.lemmas.Map.Views.{exact_unsigned_eq}
use Rattle.std.proofs.lemmas.Slice.Eq.{bytes_eq-Decides}
use Rattle.kp_lemmas.specs.Exact.{IsExact}
use Rattle.kp_lemmas.proofs.Equality.{lists_exact, options_exact}
use Rattle.kp_lemmas.proofs.Orders.{one_from_tie}
use Rattle.kp_base.specs.Net.{same_address}
use Rattle.kp_base.proofs.KeyOrder.{key_exact, key_ties}
use Rattle.kp_base.proofs.SameParts.{address_test_exact, bool_exact, proto_test_exact, same_address_exact, text_test_exact}
use Rattle.kp_types.proofs.ObjectEquality.{pair_exact}
use Rattle.kp_types.specs.declared.slice.AddressType.TheVariants.{Ipv4, Ipv6, Fqdn}
use Rattle.kp_types.specs.contracts.slice.AddressTypePartialEq.TheImpl as type_eq
use Rattle.kp_types.specs.contracts.slice.AddressTypeEq.TheImpl.Laws as type_laws
use Rattle.kp_types.specs.contracts.slice.SlicePortEq.TheImpl.Laws as port_laws
use Rattle.kp_types.specs.contracts.pod.ContainerPortPartialEq.TheImpl as container_port_eq
use Rattle.kp_types.specs.contracts.pod.PodPartialEq.TheImpl as pod_eq
use Rattle.kp_types.specs.contracts.pod.NodePartialEq.TheImpl as node_eq
use Rattle.kp_types.specs.declared.slice.Slice.{Slice}
use Rattle.kp_object_defs.specs.Packing.{same_entry, same_flag, same_object, same_option}
use Rattle.kp_pack_laws.proofs.Ports.{ports_exact}
use Rattle.kp_pack_laws.proofs.Settled.{entries_same}
use Rattle.kp_store.specs.SameSlice.{same_head, same_slice}

-- a test that is true at equal values alone, and at all of these, tells whether they are one
pub tells_same : {X : Type 0} (test : X → X → Bool) → IsExact test → ((x : X) → test x x ≡ true)
    → (a b : X) (r : Bool) → r ≡ test a b → (r ≡ true) ↔ (a ≡ b)
tells_same test exact itself a b r is =
    ((λ h. exact a b (sym is ∙ h)), (λ same. is ∙ ap (test a) (sym same) ∙ itself a))

-- ---- Pods and nodes

object_exact : IsExact same_object
object_exact a b h = one_from_tie key_exact a b (sym (key_ties a b) ∙ h)

container_port_exact : IsExact container_port_eq.ghosts.eq
container_port_exact a b h =
    let name = and_parts _ _ h in
    let proto = and_parts _ _ name.1 in
    λ i. record {
      name = text_test_exact a.name b.name name.0 i;
      proto = proto_test_exact a.proto b.proto proto.0 i;
      port = exact_unsigned_eq a.port b.port proto.1 i;
    }

pub pod_exact : IsExact pod_eq.ghosts.eq
pod_exact a b h =
    let key = and_parts _ _ h in
    let labels = and_parts _ _ key.1 in
    let deleting = and_parts _ _ labels.1 in
    let node = and_parts _ _ deleting.1 in
    let ports = and_parts _ _ node.1 in
    let finished = and_parts _ _ ports.1 in
    let address = and_parts _ _ finished.1 in
    let address6 = and_parts _ _ address.1 in
    λ i. record {
      key = object_exact a.key b.key key.0 i;
      labels = lists_exact _ pair_exact a.labels b.labels labels.0 i;
      deleting = bool_exact a.deleting b.deleting deleting.0 i;
      node = options_exact _ text_test_exact a.node b.node node.0 i;
      ports = lists_exact _ container_port_exact a.ports b.ports ports.0 i;
      finished = bool_exact a.finished b.finished finished.0 i;
      address = options_exact _ address_test_exact a.address b.address address.0 i;
      address6 = options_exact _ address_test_exact a.address6 b.address6 address6.0 i;
      ready = bool_exact a.ready b.ready address6.1 i;
    }

pub node_exact : IsExact node_eq.ghosts.eq
node_exact a b h =
    let name = and_parts _ _ h in
    λ i. record {
      name = text_test_exact a.name b.name name.0 i;
      zone = options_exact _ text_test_exact a.zone b.zone name.1 i;
    }

-- ---- Slices

-- the two tests of values that may be missing are one
tests_alike : {X : Type 0} (test : X → X → Bool) (a b : Option X)
    → same_option test a b ≡ option_eq test a b
tests_alike test None None = refl
tests_alike test None (Some b) = refl
tests_alike test (Some a) None = refl
tests_alike test (Some a) (Some b) = refl

module _ {X : Type 0} (test : X → X → Bool) (exact : IsExact test) (a b : Option X) where
  some_exact : same_option test a b ≡ true → a ≡ b
  some_exact h = options_exact test exact a b (sym (tests_alike test a b) ∙ h)

flag_exact : IsExact same_flag
flag_exact true true h = refl
flag_exact true false h = absurd (false≢true h)
flag_exact false true h = absurd (false≢true h)
flag_exact false false h = refl

text_exact : IsExact bytes_eq
text_exact a b h = (bytes_eq-Decides a b).0 h

entry_exact : IsExact same_entry
entry_exact a b h =
    let address = and_parts _ _ h in
    let whole = and_parts (same_option same_address a.address b.address) _ (and_parts _ _ h).0 in
    let ready = and_parts _ _ whole.1 in
    let serving = and_parts _ _ ready.1 in
    let node = and_parts _ _ address.1 in
    let zone = and_parts _ _ node.1 in
    let hints = and_parts _ _ zone.1 in
    λ i. record {
      address = some_exact same_address same_address_exact a.address b.address whole.0 i;
      ready = flag_exact a.ready b.ready ready.0 i;
      serving = flag_exact a.serving b.serving serving.0 i;
      terminating = flag_exact a.terminating b.terminating serving.1 i;
      node = some_exact bytes_eq text_exact a.node b.node node.0 i;
      zone = some_exact bytes_eq text_exact a.zone b.zone zone.0 i;
      hints = lists_exact bytes_eq text_exact a.hints b.hints hints.0 i;
      pod = some_exact same_object object_exact a.pod b.pod hints.1 i;
    }

type_exact : IsExact type_eq.ghosts.eq
type_exact Ipv4 Ipv4 h = refl
type_exact Ipv4 Ipv6 h = absurd (false≢true h)
type_exact Ipv4 Fqdn h = absurd (false≢true h)
type_exact Ipv6 Ipv4 h = absurd (false≢true h)
type_exact Ipv6 Ipv6 h = refl
type_exact Ipv6 Fqdn h = absurd (false≢true h)
type_exact Fqdn Ipv4 h = absurd (false≢true h)
type_exact Fqdn Ipv6 h = absurd (false≢true h)
type_exact Fqdn Fqdn h = refl

pub slice_exact : IsExact same_slice
slice_exact a b h =
    let parts = and_parts (same_head a b) _ h in
    let key = and_parts _ _ parts.0 in
    let service = and_parts _ _ key.1 in
    let managed = and_parts _ _ service.1 in
    let ports = and_parts _ _ parts.1 in
    λ i. record {
      key = object_exact a.key b.key key.0 i;
      service = some_exact bytes_eq text_exact a.service b.service service.0 i;
      managed = flag_exact a.managed b.managed managed.0 i;
      family = type_exact a.family b.family managed.1 i;
      ports = ports_exact a.ports b.ports ports.0 i;
      endpoints = lists_exact same_entry entry_exact a.endpoints b.endpoints ports.1 i;
    }

-- a slice is the same as itself
pub slice_itself : (s : Slice) → same_slice s s ≡ true
slice_itself s =
    let key =
    and_from _ _ (nat_list_eq_equiv.refl s.key.namespace) (nat_list_eq_equiv.refl s.key.name) in
    let rest = and_from _ _ (flag s.managed) (type_laws.laws-law.refl s.family) in
    let ports = (lists_equiv port_laws.laws-law).refl s.ports in
    and_from _ _ (and_from _ _ key (and_from _ _ (named s.service) rest))
    (and_from _ _ ports (entries_same s.endpoints))
  where
    named : (name : Option (List ℕ)) → same_option bytes_eq name name ≡ true
    named None = refl
    named (Some name) = nat_list_eq_equiv.refl name

    flag : (b : Bool) → same_flag b b ≡ true
    flag true = refl
    flag false = refl
