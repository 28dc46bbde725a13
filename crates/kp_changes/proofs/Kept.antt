-- Doors that are kept by their destinations stay right where those at one more are kept.
use Rattle.std.proofs.Common.{◌≡◌, Bool, true, false, cond, List, [], ◌∷◌, Some, None, IfSome, ap, refl, sym, subst, ◌∙◌}
use Rattle.std.specs.Prelude.{if◌then◌else◌}
use Rattle.std.specs.Map.{lookup}
use Rattle.indexmap.specs.IndexMap.{insert_entry}
use Rattle.std.proofs.lemmas.Bool.{and_parts}
use Rattle.std.proofs.lemmas.Map.Views.{exact_unsigned_eq}
use Rattle.kp_lemmas.specs.Exact.{IsExact}
use Rattle.kp_lemmas.proofs.Equality.{options_exact}
use Rattle.kp_base.proofs.SameParts.{address_test_exact, family_test_exact, proto_test_exact}
use Rattle.kp_changes.specs.After.{AreRight, AreThere, Synced}
use Rattle.kp_changes.specs.contracts.neighbour.DestinationEq.TheImpl.Laws as destination_laws
use Rattle.kp_changes.specs.contracts.neighbour.DestinationPartialEq.TheImpl as destination_eq
use Rattle.kp_changes.specs.declared.neighbour.Destination.{Destination}
use Rattle.kp_changes.specs.declared.neighbour.Neighbour.{Neighbour}

-- the test of destinations
abbrev pub one_place : Destination → Destination → Bool
one_place = destination_eq.ghosts.eq

exact : IsExact one_place
exact a b h =
    let family = and_parts _ _ h in
    let proto = and_parts _ _ family.1 in
    let rest = and_parts _ _ proto.1 in
    λ i. record {
      family = family_test_exact a.family b.family family.0 i;
      proto = proto_test_exact a.proto b.proto proto.0 i;
      address = options_exact _ address_test_exact a.address b.address rest.0 i;
      number = exact_unsigned_eq a.number b.number rest.1 i;
    }

-- what is kept of a destination is found there
pub found_again : (kept : List (Destination × List Neighbour)) (q : Destination)
    (crowd : List Neighbour) → lookup (one_place q) (insert_entry one_place kept q crowd) ≡ Some crowd
found_again [] q crowd = ap (λ b. cond b (Some crowd) None) (destination_laws.laws-law.refl q)
found_again (e ∷ es) q crowd = by (one_place q e.0) refl (found_again es q crowd)
  where
    by : (b : Bool) → one_place q e.0 ≡ b
        → lookup (one_place q) (insert_entry one_place es q crowd) ≡ Some crowd
        → lookup (one_place q) (if b then (e.0, crowd) ∷ es else e ∷ insert_entry one_place es q crowd)
        ≡ Some crowd
    by true is again = ap (λ b. cond b (Some crowd) (lookup (one_place q) es)) is
    by false is again =
        ap (λ b. cond b (Some e.1) (lookup (one_place q) (insert_entry one_place es q crowd))) is ∙ again

-- what is found at a destination, where it is kept
pub found_right : (s : Synced) (kept : List (Destination × List Neighbour)) (q : Destination)
    (crowd : List Neighbour)
    → lookup (one_place q) kept ≡ Some crowd → AreRight s kept → AreThere s q crowd
found_right s kept q crowd is right = subst (λ o. IfSome o (AreThere s q)) is (right q)

module _ (s : Synced) (kept more : List (Destination × List Neighbour)) (at : Destination)
    (crowd : List Neighbour) where
  pub stay_right :
      ((q : Destination)
      → lookup (one_place q) more ≡ cond (one_place at q) (Some crowd) (lookup (one_place q) kept))
      → AreThere s at crowd → AreRight s kept → AreRight s more
  stay_right put there right =
      λ q. subst (λ o. IfSome o (AreThere s q)) (sym (put q)) (by q (one_place at q) refl)
    where
      by : (q : Destination) (b : Bool) → one_place at q ≡ b
          → IfSome (cond b (Some crowd) (lookup (one_place q) kept)) (AreThere s q)
      by q true is = subst (λ k. AreThere s k crowd) (exact at q is) there
      by q false is = right q
