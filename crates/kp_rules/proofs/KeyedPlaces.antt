-- The next of the rules that ask for one destination, found among the places of keyed rules.
use Rattle.std.proofs.Common.{◌≡◌, ◌≤◌, ◌<◌, ◌&&◌, ◌==◌, ℕ, Bool, true, false, cond, List, [], ◌∷◌, length, Option, Some, None, option_map, slice_get, slice_index_or, nat_lt, refl, sym, ap, ◌∙◌, arith}
use Rattle.std.specs.declared.cmp.Ordering.{Ordering}
use Rattle.std.specs.declared.cmp.Ordering.TheVariants.{Less, Equal, Greater}
use Rattle.std.specs.Cmp.{IsStrictWeakOrder}
use Rattle.std.specs.Ordering.{nat_cmp, is_lt, is_eq, ordering_then, ordering_reverse}
use Rattle.std.specs.List.{list_any}
use Rattle.std.specs.List.Sorted.{IsPartitionPoint, IsPartitionedBy}
use Rattle.std.proofs.lemmas.Bool.{and_parts, and_from, eqb-true, eq-eqb, ltb-false, ltb-true, false≢true, true_from_ne_false}
use Rattle.std.proofs.lemmas.Cmp.{tied_itself}
use Rattle.std.proofs.lemmas.List.Sorted.{sorted_far, ranks_by}
use Rattle.kp_base.proofs.SameParts.{same_address_exact, same_proto_exact, address_same, proto_same}
use Rattle.kp_types.specs.declared.rule.Rule.{Rule}
use Rattle.kp_rules.specs.Destinations.{next_place, destination_of, same_destination}
use Rattle.kp_rules.specs.Index.{keyed_place, keyed_places, AreKeyed, asks, asks_for}
use Rattle.kp_rules.specs.declared.destination.Destination.{Destination}
use Rattle.kp_rules.specs.declared.index.KeyedPlace.{KeyedPlace}
use Rattle.kp_rules.specs.contracts.destination.DestinationOrd.TheImpl as destination_ord
use Rattle.kp_rules.specs.contracts.destination.DestinationOrd.TheImpl.Laws as destination_laws
use Rattle.kp_rules.specs.contracts.destination.DestinationPartialEq.TheImpl as destination_eq
use Rattle.kp_rules.specs.contracts.index.KeyedPlaceOrd.TheImpl as order
use Rattle.kp_rules.specs.contracts.index.KeyedPlaceOrd.TheImpl.Laws as order_laws
use Rattle.kp_rules.proofs.NextPlaces.{passes_at}
use Rattle.kp_rules.proofs.PlacesFound.{passes, places_told, found_there, found_none, in_range, at_index, past_all}

-- ---- destinations

pub destination_same : (a b : Destination) → destination_eq.ghosts.eq a b ≡ same_destination a b
destination_same a b = λ i. address_same a.address b.address i && (proto_same a.proto b.proto i && (a.port == b.port))

destination_exact : (a b : Destination) → same_destination a b ≡ true → a ≡ b
destination_exact a b h =
    let p = and_parts _ _ h in
    let q = and_parts _ _ p.1 in
    λ i. record { address = same_address_exact a.address b.address p.0 i; proto = same_proto_exact a.proto b.proto q.0 i; port = eqb-true a.port b.port q.1 i }

tied : (a b : Destination) → destination_ord.ghosts.cmp a b ≡ Equal → same_destination a b ≡ true
tied a b h = sym (destination_same a b) ∙ destination_laws.matches_eq-law a b ∙ ap is_eq h

is_less : (p q : ℕ) → is_lt (nat_cmp p q) ≡ nat_lt p q
is_less p q = by (nat_lt p q) (p == q)
  where
    by : (a b : Bool) → is_lt (cond a Less (cond b Equal Greater)) ≡ a
    by true b = refl
    by false true = refl
    by false false = refl

-- places of one destination stand in the order of the places
placed : (x y : KeyedPlace) → x.to ≡ y.to → is_lt (order.ghosts.cmp x y) ≡ nat_lt x.place y.place
placed x y e =
    ap (λ o. is_lt (ordering_then o (nat_cmp x.place y.place))) (ap (λ d. destination_ord.ghosts.cmp d y.to) e ∙ tied_itself destination_laws.total-law y.to)
    ∙ is_less x.place y.place

-- ---- the places of one destination

-- whether a place is this one, of a rule that asks for this destination
abbrev is_place : Destination → ℕ → KeyedPlace → Bool
is_place to q e = same_destination e.to to && (e.place == q)

tells : (to : Destination) (n : ℕ) (r : Rule) (q : ℕ) → passes (is_place to q) (keyed_place (n, r)) ≡ (asks to r && (n == q))
tells to n r q = by (destination_of r)
  where
    by : (o : Option Destination) → passes (is_place to q) (option_map (λ d. record { to = d; place = n }) o) ≡ (asks_for to o && (n == q))
    by None = refl
    by (Some d) = refl

-- the entries before a place stand before the others
weak : IsStrictWeakOrder (λ (x y : KeyedPlace). is_lt (order.ghosts.cmp x y))
weak = ranks_by order_laws.total-law (λ x. x)

pub parted : (rules : List Rule) (keyed : List KeyedPlace) (first : KeyedPlace) → AreKeyed rules keyed → IsPartitionedBy (λ e. is_lt (order.ghosts.cmp e first)) keyed
parted rules keyed first are i j d le lt t =
    true_from_ne_false _ (λ f. absurd (false≢true (sym (weak.chain (slice_index_or keyed j d) (slice_index_or keyed i d) first (sorted_far (λ x y. is_lt (order.ghosts.cmp x y)) weak keyed are.sorted i j d le lt) f) ∙ t)))

module _ (rules : List Rule) (keyed : List KeyedPlace) (to : Destination) (from i : ℕ) (are : AreKeyed rules keyed)
    (point : IsPartitionPoint (λ e. is_lt (order.ghosts.cmp e (record { to = to; place = from })) ≡ true) (λ e. is_lt (order.ghosts.cmp e (record { to = to; place = from })) ≡ false) keyed i) where
  told : (j : ℕ) → list_any (is_place to j) keyed ≡ passes_at (asks to) rules j
  told j =
      sym (are.same (is_place to j))
      ∙ ap (λ q. list_any (is_place to q) (keyed_places rules)) (omega arith)
      ∙ places_told keyed_place (is_place to) (asks to) (tells to) rules 0 j

  here_is : (j : ℕ) (x : KeyedPlace) → is_place to j x ≡ true → (x.to ≡ to) × (x.place ≡ j)
  here_is j x is = let p = and_parts _ _ is in (destination_exact x.to to p.0, eqb-true x.place j p.1)

  soon : (j : ℕ) (x : KeyedPlace) → is_place to j x ≡ true → is_lt (order.ghosts.cmp x (record { to = to; place = from })) ≡ true → j < from
  soon j x is lt =
      let p = here_is j x is in
      omega (arith, p.1, ltb-true x.place from (sym (placed x (record { to = to; place = from }) p.0) ∙ lt))

  -- no entry from the partition point on stands before that there
  later : (e : KeyedPlace) → slice_get keyed i ≡ Some e → (k : ℕ) (y : KeyedPlace) → i ≤ k → k < length keyed → slice_index_or keyed k y ≡ y → is_lt (order.ghosts.cmp y e) ≡ false
  later e here k y late short at =
      (λ u. is_lt (order.ghosts.cmp (sym at u) (sym (at_index keyed i e y here) u)))
      ∙ sorted_far (λ x z. is_lt (order.ghosts.cmp x z)) weak keyed are.sorted i k y late short

  not_before : (e : KeyedPlace) → slice_get keyed i ≡ Some e → is_lt (order.ghosts.cmp e (record { to = to; place = from })) ≡ false
  not_before e here =
      sym (ap (λ x. is_lt (order.ghosts.cmp x (record { to = to; place = from }))) (at_index keyed i e e here))
      ∙ point.1 i e (omega arith) (in_range keyed i e here)

  pub keyed_found : (e : KeyedPlace) → slice_get keyed i ≡ Some e → destination_eq.ghosts.eq e.to to ≡ true → next_place (asks to) rules from ≡ Some e.place
  keyed_found e here eq =
      let same = sym (destination_same e.to to) ∙ eq in
      let one = destination_exact e.to to same in
      found_there (is_place to) (λ x. is_lt (order.ghosts.cmp x (record { to = to; place = from }))) rules (asks to) keyed from i told point soon e e.place here (and_from _ _ same (eq-eqb e.place e.place refl))
      (ltb-false e.place from (sym (placed e (record { to = to; place = from }) one) ∙ not_before e here))
      (λ k j y late short at is. let p = here_is j y is in omega (arith, p.1, ltb-false y.place e.place (sym (placed y e (p.0 ∙ sym one)) ∙ later e here k y late short at)))

  pub keyed_other : (e : KeyedPlace) → slice_get keyed i ≡ Some e → destination_eq.ghosts.eq e.to to ≡ false → next_place (asks to) rules from ≡ None
  keyed_other e here ne =
      found_none (is_place to) (λ x. is_lt (order.ghosts.cmp x (record { to = to; place = from }))) rules (asks to) keyed from i told point soon
      (λ k j y late short at is. by y (here_is j y is).0 (later e here k y late short at) (destination_ord.ghosts.cmp e.to to) refl)
    where
      by : (y : KeyedPlace) → y.to ≡ to → is_lt (order.ghosts.cmp y e) ≡ false → (o : Ordering) → destination_ord.ghosts.cmp e.to to ≡ o → ⊥
      by y one after Less h = absurd (false≢true (sym (not_before e here) ∙ ap (λ o. is_lt (ordering_then o (nat_cmp e.place from))) h))
      by y one after Equal h = absurd (false≢true (sym ne ∙ destination_same e.to to ∙ tied e.to to h))
      by y one after Greater h =
          absurd (false≢true (sym after ∙ ap (λ o. is_lt (ordering_then o (nat_cmp y.place e.place))) (ap (λ d. destination_ord.ghosts.cmp d e.to) one ∙ destination_laws.total-law.antisymm to e.to ∙ ap ordering_reverse h)))

  pub keyed_past : slice_get keyed i ≡ None → next_place (asks to) rules from ≡ None
  keyed_past here =
      found_none (is_place to) (λ x. is_lt (order.ghosts.cmp x (record { to = to; place = from }))) rules (asks to) keyed from i told point soon
      (λ k j y late short at is. absurd (omega (arith, past_all keyed i here, late, short)))

-- no rule asks for a destination where none is keyed
pub keyed_none : (rules : List Rule) (keyed : List KeyedPlace) (to : Destination) (from : ℕ) → AreKeyed rules keyed → length keyed ≡ 0 → next_place (asks to) rules from ≡ None
keyed_none rules keyed to from are none = keyed_past rules keyed to from 0 are ((λ k x low high. absurd (omega (arith, high))), (λ k x low high. absurd (omega (arith, none, high)))) (past keyed none)
  where
    past : (es : List KeyedPlace) → length es ≡ 0 → slice_get es 0 ≡ None
    past [] h = refl
    past (e ∷ es) h = absurd (omega (arith, h))
