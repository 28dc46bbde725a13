-- The order of destinations is total and tells all destinations apart, and what the derived comparison and test
-- answer is what it answers.
use Rattle.std.proofs.Common.{◌≡◌, ℕ, Option, Some, None, refl, ap, ◌∙◌, arith}
use Rattle.std.specs.Cmp.{IsTotalOrder}
use Rattle.std.specs.Cmp.Lexicographic.{options_total}
use Rattle.std.specs.FinMap.{IsAntisymmetric, nat_cmp-IsAntisymmetric}
use Rattle.std.specs.Option.{option_cmp}
use Rattle.std.specs.Ordering.{eq_by_cmp, is_eq, nat_cmp, ordering_then}
use Rattle.std.specs.declared.cmp.Ordering.{Ordering}
use Rattle.std.proofs.lemmas.Bool.Decides.{nat_tests}
use Rattle.std.proofs.lemmas.Cmp.{nat_cmp_total, on_total, then_total}
use Rattle.std.proofs.lemmas.Map.Lookups.{exact_pairs}
use Rattle.kp_base.specs.Keys.{address_cmp, proto_place}
use Rattle.kp_base.specs.Net.{AddressParts}
use Rattle.kp_base.specs.declared.port.Proto.{Proto}
use Rattle.kp_base.specs.contracts.address.AddressOrd.TheImpl as address_ord
use Rattle.kp_base.proofs.KeyOrder.{address_exact, address_matches, address_total, proto_matches}
use Rattle.kp_base.proofs.SameParts.{same_proto_exact}
use Rattle.kp_vmap_defs.specs.VerdictMap.{destination_cmp}
use Rattle.kp_vmap_defs.specs.contracts.door.DestinationOrd.TheImpl as derived
use Rattle.kp_vmap_defs.specs.contracts.door.DestinationOrd.TheImpl.Laws as laws
use Rattle.kp_vmap_defs.specs.contracts.door.DestinationPartialEq.TheImpl as test
use Rattle.kp_vmap_defs.specs.declared.door.Destination.{Destination}

pub destination_total : IsTotalOrder destination_cmp
destination_total =
    then_total (on_total (λ d. d.target) (options_total address_total))
    (then_total (on_total (λ d. proto_place d.proto) nat_cmp_total) (on_total (λ d. d.port) nat_cmp_total))

-- what may be missing
option_exact : {K : Type 0} {R : K → K → Ordering} → IsAntisymmetric R → IsAntisymmetric (option_cmp R)
option_exact exact None None h = refl
option_exact exact None (Some y) h = absurd (cc)
option_exact exact (Some x) None h = absurd (cc)
option_exact exact (Some x) (Some y) h = ap Some (exact x y h)

-- protocols, and then numbers
abbrev proto_cmp : Proto → Proto → Ordering
proto_cmp a b = nat_cmp (proto_place a) (proto_place b)

abbrev number_cmp : Proto × ℕ → Proto × ℕ → Ordering
number_cmp a b = ordering_then (proto_cmp a.0 b.0) (nat_cmp a.1 b.1)

one_proto : (a b : Proto) → proto_place a ≡ proto_place b → a ≡ b
one_proto a b h = same_proto_exact a b (grind (arith, nat_tests, h))

proto_exact : IsAntisymmetric proto_cmp
proto_exact a b h = one_proto a b (nat_cmp-IsAntisymmetric _ _ h)

pub destination_exact : IsAntisymmetric destination_cmp
destination_exact a b h =
    ap (λ (p : Option AddressParts × (Proto × ℕ)). record { target = p.0; proto = p.1.0; port = p.1.1 })
    (exact_pairs (option_cmp address_cmp) number_cmp (option_exact address_exact)
    (exact_pairs proto_cmp nat_cmp proto_exact nat_cmp-IsAntisymmetric)
    (a.target, (a.proto, a.port)) (b.target, (b.proto, b.port)) h)

-- the derived order
targets_match : (a b : Option AddressParts) → option_cmp address_ord.ghosts.cmp a b ≡ option_cmp address_cmp a b
targets_match None None = refl
targets_match None (Some y) = refl
targets_match (Some x) None = refl
targets_match (Some x) (Some y) = address_matches x y

pub destination_matches : (a b : Destination) → derived.ghosts.cmp a b ≡ destination_cmp a b
destination_matches a b =
    λ i. ordering_then (targets_match a.target b.target i) (ordering_then (proto_matches a.proto b.proto i) (nat_cmp a.port b.port))

-- the test of a look-up by the derived order
pub destination_tree_ties : (a b : Destination) → eq_by_cmp derived.ghosts.cmp a b ≡ eq_by_cmp destination_cmp a b
destination_tree_ties a b = ap is_eq (destination_matches a b)

-- the derived test
pub destination_ties : (a b : Destination) → test.ghosts.eq a b ≡ eq_by_cmp destination_cmp a b
destination_ties a b = laws.matches_eq-law a b ∙ ap is_eq (destination_matches a b)
