-- The tests of protocols, families, addresses, ranges and endpoints are true at equal ones alone,
-- and the derived tests are these tests.
use Rattle.std.proofs.Common.{◌≡◌, true, false, ◌==◌, ◌&&◌, bytes_eq, refl, sym, ap, ◌∙◌}
use Rattle.std.specs.Cmp.{nat_eq_equiv}
use Rattle.std.specs.contracts.prelude.BoolPartialEq.TheImpl as bool_eq
use Rattle.std.proofs.lemmas.Bool.{false≢true, and_from, and_parts, eqb-true}
use Rattle.std.proofs.lemmas.Map.Views.{exact_unsigned_eq}
use Rattle.std.proofs.lemmas.Slice.Eq.{bytes_eq-Decides}
use Rattle.kp_lemmas.specs.Exact.{IsExact}
use Rattle.kp_lemmas.proofs.Orders.{one_from_tie}
use Rattle.kp_base.specs.Keys.{same_proto}
use Rattle.kp_base.specs.Net.{AddressParts, same_family, same_address}
use Rattle.kp_base.specs.declared.address.Family.{Family}
use Rattle.kp_base.specs.declared.address.Family.TheVariants.{V4, V6}
use Rattle.kp_base.specs.declared.port.Proto.{Proto}
use Rattle.kp_base.specs.declared.port.Proto.TheVariants.{Sctp, Tcp, Udp}
use Rattle.kp_base.specs.contracts.address.FamilyPartialEq.TheImpl as family_eq
use Rattle.kp_base.specs.contracts.address.AddressPartialEq.TheImpl as address_eq
use Rattle.kp_base.specs.contracts.port.ProtoPartialEq.TheImpl as proto_eq
use Rattle.kp_base.specs.contracts.range.CidrPartialEq.TheImpl as range_eq
use Rattle.kp_base.specs.contracts.key.EndpointPartialEq.TheImpl as endpoint_eq
use Rattle.kp_base.proofs.KeyOrder.{address_ties, address_exact, endpoint_ties, endpoint_exact}

-- ---- the tests of definitions

pub same_family_exact : IsExact same_family
same_family_exact V4 V4 h = refl
same_family_exact V4 V6 h = absurd (false≢true h)
same_family_exact V6 V4 h = absurd (false≢true h)
same_family_exact V6 V6 h = refl

pub same_proto_exact : IsExact same_proto
same_proto_exact Sctp Sctp h = refl
same_proto_exact Sctp Tcp h = absurd (false≢true h)
same_proto_exact Sctp Udp h = absurd (false≢true h)
same_proto_exact Tcp Sctp h = absurd (false≢true h)
same_proto_exact Tcp Tcp h = refl
same_proto_exact Tcp Udp h = absurd (false≢true h)
same_proto_exact Udp Sctp h = absurd (false≢true h)
same_proto_exact Udp Tcp h = absurd (false≢true h)
same_proto_exact Udp Udp h = refl

pub same_address_exact : IsExact same_address
same_address_exact a b h =
    let both = and_parts _ _ h in
    λ i. record { family = same_family_exact a.family b.family both.0 i; number = eqb-true a.number b.number both.1 i }

-- a family is itself, and so is an address
pub family_itself : (f : Family) → same_family f f ≡ true
family_itself V4 = refl
family_itself V6 = refl

pub address_itself : (a : AddressParts) → same_address a a ≡ true
address_itself a = and_from _ _ (family_itself a.family) (nat_eq_equiv.refl a.number)

-- ---- the derived tests are these

pub family_same : (a b : Family) → family_eq.ghosts.eq a b ≡ same_family a b
family_same V4 V4 = refl
family_same V4 V6 = refl
family_same V6 V4 = refl
family_same V6 V6 = refl

pub proto_same : (a b : Proto) → proto_eq.ghosts.eq a b ≡ same_proto a b
proto_same Sctp Sctp = refl
proto_same Sctp Tcp = refl
proto_same Sctp Udp = refl
proto_same Tcp Sctp = refl
proto_same Tcp Tcp = refl
proto_same Tcp Udp = refl
proto_same Udp Sctp = refl
proto_same Udp Tcp = refl
proto_same Udp Udp = refl

pub address_same : (a b : AddressParts) → address_eq.ghosts.eq a b ≡ same_address a b
address_same a b = ap (λ t. t && (a.number == b.number)) (family_same a.family b.family)

-- ---- the derived tests are exact

pub bool_exact : IsExact bool_eq.ghosts.eq
bool_exact true true h = refl
bool_exact true false h = absurd (false≢true h)
bool_exact false true h = absurd (false≢true h)
bool_exact false false h = refl

pub family_test_exact : IsExact family_eq.ghosts.eq
family_test_exact a b h = same_family_exact a b (sym (family_same a b) ∙ h)

pub text_test_exact : IsExact bytes_eq
text_test_exact a b h = (bytes_eq-Decides a b).0 h

pub proto_test_exact : IsExact proto_eq.ghosts.eq
proto_test_exact a b h = same_proto_exact a b (sym (proto_same a b) ∙ h)

pub address_test_exact : IsExact address_eq.ghosts.eq
address_test_exact a b h = one_from_tie address_exact a b (sym (address_ties a b) ∙ h)

pub range_test_exact : IsExact range_eq.ghosts.eq
range_test_exact a b h =
    let both = and_parts _ _ h in
    λ i. record { base = address_test_exact a.base b.base both.0 i; bits = exact_unsigned_eq a.bits b.bits both.1 i }

pub endpoint_test_exact : IsExact endpoint_eq.ghosts.eq
endpoint_test_exact a b h = one_from_tie endpoint_exact a b (sym (endpoint_ties a b) ∙ h)
