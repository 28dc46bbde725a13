-- The orders of keys are total, and tell all keys apart; and what the derived comparisons and tests of keys
-- answer is what they answer.
use Rattle.std.proofs.Common.{◌≡◌, ℕ, List, refl, ap, ◌∙◌}
use Rattle.std.specs.declared.cmp.Ordering.{Ordering}
use Rattle.std.specs.Ordering.{nat_cmp, eq_by_cmp, ordering_then, is_eq}
use Rattle.std.specs.Cmp.{IsTotalOrder}
use Rattle.std.specs.FinMap.{IsAntisymmetric, nat_cmp-IsAntisymmetric, slice_cmp-IsAntisymmetric}
use Rattle.std.proofs.lemmas.Cmp.{on_total, then_total, nat_cmp_total, nat_list_cmp_total}
use Rattle.std.proofs.lemmas.Map.Lookups.{exact_pairs}
use Rattle.kp_base.specs.Keys.{text_cmp, key_cmp, proto_place, port_key_cmp, family_place, address_cmp, endpoint_cmp}
use Rattle.kp_base.specs.Net.{AddressParts}
use Rattle.kp_base.specs.declared.address.Family.{Family}
use Rattle.kp_base.specs.declared.address.Family.TheVariants.{V4, V6}
use Rattle.kp_base.specs.declared.port.Proto.{Proto}
use Rattle.kp_base.specs.declared.port.Proto.TheVariants.{Sctp, Tcp, Udp}
use Rattle.kp_base.specs.declared.key.ObjectKey.{ObjectKey}
use Rattle.kp_base.specs.declared.key.PortKey.{PortKey}
use Rattle.kp_base.specs.declared.key.Endpoint.{Endpoint}
use Rattle.kp_base.specs.contracts.address.FamilyOrd.TheImpl as family_ord
use Rattle.kp_base.specs.contracts.address.AddressOrd.TheImpl as address_ord
use Rattle.kp_base.specs.contracts.address.AddressOrd.TheImpl.Laws as address_laws
use Rattle.kp_base.specs.contracts.address.AddressPartialEq.TheImpl as address_eq
use Rattle.kp_base.specs.contracts.port.ProtoOrd.TheImpl as proto_ord
use Rattle.kp_base.specs.contracts.key.ObjectKeyOrd.TheImpl as key_ord
use Rattle.kp_base.specs.contracts.key.ObjectKeyOrd.TheImpl.Laws as key_laws
use Rattle.kp_base.specs.contracts.key.ObjectKeyPartialEq.TheImpl as key_eq
use Rattle.kp_base.specs.contracts.key.PortKeyOrd.TheImpl as port_key_ord
use Rattle.kp_base.specs.contracts.key.PortKeyOrd.TheImpl.Laws as port_key_laws
use Rattle.kp_base.specs.contracts.key.PortKeyPartialEq.TheImpl as port_key_eq
use Rattle.kp_base.specs.contracts.key.EndpointOrd.TheImpl as endpoint_ord
use Rattle.kp_base.specs.contracts.key.EndpointOrd.TheImpl.Laws as endpoint_laws
use Rattle.kp_base.specs.contracts.key.EndpointPartialEq.TheImpl as endpoint_eq

-- ---- texts

pub text_total : IsTotalOrder text_cmp
text_total = nat_list_cmp_total

pub text_exact : IsAntisymmetric text_cmp
text_exact = slice_cmp-IsAntisymmetric nat_cmp-IsAntisymmetric

-- ---- objects

pub key_total : IsTotalOrder key_cmp
key_total = then_total (on_total (λ k. k.namespace) text_total) (on_total (λ k. k.name) text_total)

pub key_exact : IsAntisymmetric key_cmp
key_exact a b h = ap (λ (p : List ℕ × List ℕ). record { namespace = p.0; name = p.1 }) (exact_pairs text_cmp text_cmp text_exact text_exact (a.namespace, a.name) (b.namespace, b.name) h)

-- the derived order
pub key_matches : (a b : ObjectKey) → key_ord.ghosts.cmp a b ≡ key_cmp a b
key_matches a b = refl

-- the derived test
pub key_ties : (a b : ObjectKey) → key_eq.ghosts.eq a b ≡ eq_by_cmp key_cmp a b
key_ties a b = key_laws.matches_eq-law a b ∙ ap is_eq (key_matches a b)

-- the test of a look-up by the derived order
pub key_tree_ties : (a b : ObjectKey) → eq_by_cmp key_ord.ghosts.cmp a b ≡ eq_by_cmp key_cmp a b
key_tree_ties a b = ap is_eq (key_matches a b)

-- ---- Service ports

-- protocols by their names
abbrev proto_cmp : Proto → Proto → Ordering
proto_cmp a b = nat_cmp (proto_place a) (proto_place b)

proto_total : IsTotalOrder proto_cmp
proto_total = on_total proto_place nat_cmp_total

-- no two protocols have one place
one_proto : (a b : Proto) → proto_place a ≡ proto_place b → a ≡ b
one_proto Sctp Sctp h = refl
one_proto Sctp Tcp h = absurd (cc)
one_proto Sctp Udp h = absurd (cc)
one_proto Tcp Sctp h = absurd (cc)
one_proto Tcp Tcp h = refl
one_proto Tcp Udp h = absurd (cc)
one_proto Udp Sctp h = absurd (cc)
one_proto Udp Tcp h = absurd (cc)
one_proto Udp Udp h = refl

proto_exact : IsAntisymmetric proto_cmp
proto_exact a b h = one_proto a b (nat_cmp-IsAntisymmetric _ _ h)

-- the derived order of protocols
pub proto_matches : (a b : Proto) → proto_ord.ghosts.cmp a b ≡ proto_cmp a b
proto_matches Sctp Sctp = refl
proto_matches Sctp Tcp = refl
proto_matches Sctp Udp = refl
proto_matches Tcp Sctp = refl
proto_matches Tcp Tcp = refl
proto_matches Tcp Udp = refl
proto_matches Udp Sctp = refl
proto_matches Udp Tcp = refl
proto_matches Udp Udp = refl

pub port_key_total : IsTotalOrder port_key_cmp
port_key_total = then_total (on_total (λ k. k.object) key_total) (then_total (on_total (λ k. k.port_name) text_total) (on_total (λ k. k.proto) proto_total))

-- names and protocols
abbrev name_cmp : List ℕ × Proto → List ℕ × Proto → Ordering
name_cmp a b = ordering_then (text_cmp a.0 b.0) (proto_cmp a.1 b.1)

pub port_key_exact : IsAntisymmetric port_key_cmp
port_key_exact a b h =
    ap (λ (p : ObjectKey × (List ℕ × Proto)). record { object = p.0; port_name = p.1.0; proto = p.1.1 })
    (exact_pairs key_cmp name_cmp key_exact (exact_pairs text_cmp proto_cmp text_exact proto_exact) (a.object, (a.port_name, a.proto)) (b.object, (b.port_name, b.proto)) h)

-- the derived order
pub port_key_matches : (a b : PortKey) → port_key_ord.ghosts.cmp a b ≡ port_key_cmp a b
port_key_matches a b = ap (λ o. ordering_then (key_cmp a.object b.object) (ordering_then (text_cmp a.port_name b.port_name) o)) (proto_matches a.proto b.proto)

-- the derived test
pub port_key_ties : (a b : PortKey) → port_key_eq.ghosts.eq a b ≡ eq_by_cmp port_key_cmp a b
port_key_ties a b = port_key_laws.matches_eq-law a b ∙ ap is_eq (port_key_matches a b)

-- the test of a look-up by the derived order
pub port_key_tree_ties : (a b : PortKey) → eq_by_cmp port_key_ord.ghosts.cmp a b ≡ eq_by_cmp port_key_cmp a b
port_key_tree_ties a b = ap is_eq (port_key_matches a b)

-- ---- addresses

-- IPv4 before IPv6
abbrev family_cmp : Family → Family → Ordering
family_cmp a b = nat_cmp (family_place a) (family_place b)

-- no two families have one place
one_family : (a b : Family) → family_place a ≡ family_place b → a ≡ b
one_family V4 V4 h = refl
one_family V4 V6 h = absurd (cc)
one_family V6 V4 h = absurd (cc)
one_family V6 V6 h = refl

family_exact : IsAntisymmetric family_cmp
family_exact a b h = one_family a b (nat_cmp-IsAntisymmetric _ _ h)

-- the derived order of families
pub family_matches : (a b : Family) → family_ord.ghosts.cmp a b ≡ family_cmp a b
family_matches V4 V4 = refl
family_matches V4 V6 = refl
family_matches V6 V4 = refl
family_matches V6 V6 = refl

pub address_total : IsTotalOrder address_cmp
address_total = then_total (on_total (λ a. family_place a.family) nat_cmp_total) (on_total (λ a. a.number) nat_cmp_total)

pub address_exact : IsAntisymmetric address_cmp
address_exact a b h = ap (λ (p : Family × ℕ). record { family = p.0; number = p.1 }) (exact_pairs family_cmp nat_cmp family_exact nat_cmp-IsAntisymmetric (a.family, a.number) (b.family, b.number) h)

-- the derived order
pub address_matches : (a b : AddressParts) → address_ord.ghosts.cmp a b ≡ address_cmp a b
address_matches a b = ap (λ o. ordering_then o (nat_cmp a.number b.number)) (family_matches a.family b.family)

-- the derived test
pub address_ties : (a b : AddressParts) → address_eq.ghosts.eq a b ≡ eq_by_cmp address_cmp a b
address_ties a b = address_laws.matches_eq-law a b ∙ ap is_eq (address_matches a b)

-- ---- endpoints

pub endpoint_total : IsTotalOrder endpoint_cmp
endpoint_total = then_total (on_total (λ e. e.address) address_total) (on_total (λ e. e.port) nat_cmp_total)

pub endpoint_exact : IsAntisymmetric endpoint_cmp
endpoint_exact a b h = ap (λ (p : AddressParts × ℕ). record { address = p.0; port = p.1 }) (exact_pairs address_cmp nat_cmp address_exact nat_cmp-IsAntisymmetric (a.address, a.port) (b.address, b.port) h)

-- the derived order
pub endpoint_matches : (a b : Endpoint) → endpoint_ord.ghosts.cmp a b ≡ endpoint_cmp a b
endpoint_matches a b = ap (λ o. ordering_then o (nat_cmp a.port b.port)) (address_matches a.address b.address)

-- the derived test
pub endpoint_ties : (a b : Endpoint) → endpoint_eq.ghosts.eq a b ≡ eq_by_cmp endpoint_cmp a b
endpoint_ties a b = endpoint_laws.matches_eq-law a b ∙ ap is_eq (endpoint_matches a b)

-- the test of a look-up by the derived order
pub endpoint_tree_ties : (a b : Endpoint) → eq_by_cmp endpoint_ord.ghosts.cmp a b ≡ eq_by_cmp endpoint_cmp a b
endpoint_tree_ties a b = ap is_eq (endpoint_matches a b)
