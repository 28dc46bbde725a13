-- Lists of ports: their test is exact, and those that are in order stay as they are.
use Rattle.std.proofs.Common.{◌≡◌, ℕ, eqb, bytes_eq, true, false, cond, List, [], ◌∷◌, Option, Some, None, refl, ap, ◌∙◌}
use Rattle.std.specs.Cmp.{IsEquivalence, IsTotalOrder}
use Rattle.std.specs.Ordering.{is_gt, ordering_reverse}
use Rattle.std.specs.declared.cmp.Ordering.{Ordering}
use Rattle.std.specs.declared.cmp.Ordering.TheVariants.{Less, Equal, Greater}
use Rattle.std.proofs.lemmas.Bool.{cond_both, false≢true, and_parts}
use Rattle.std.proofs.lemmas.Cmp.{lists_equiv, then_total, on_total, nat_cmp_total}
use Rattle.std.specs.Option.{option_eq}
use Rattle.std.proofs.lemmas.Slice.Eq.{bytes_eq-Decides}
use Rattle.std.proofs.lemmas.Map.Views.{exact_unsigned_eq}
use Rattle.kp_base.proofs.KeyOrder.{text_total}
use Rattle.kp_base.specs.Keys.{proto_place}
use Rattle.kp_base.proofs.SameParts.{proto_test_exact}
use Rattle.kp_base.specs.contracts.port.ProtoPartialEq.TheImpl as same_proto
use Rattle.kp_types.specs.declared.slice.SlicePort.{SlicePort}
use Rattle.kp_types.specs.contracts.slice.SlicePortPartialEq.TheImpl as same_port
use Rattle.kp_types.specs.contracts.slice.SlicePortEq.TheImpl.Laws as port_laws
use Rattle.kp_object_defs.specs.Packing.{port_cmp, port_in_place, sorted_ports, same_ports}

-- ---- equal ports

number_exact : (a b : Option ℕ) → option_eq eqb a b ≡ true → a ≡ b
number_exact None None h = refl
number_exact None (Some b) h = absurd (false≢true h)
number_exact (Some a) None h = absurd (false≢true h)
number_exact (Some a) (Some b) h = ap Some (exact_unsigned_eq a b h)

port_exact : (a b : SlicePort) → same_port.ghosts.eq a b ≡ true → a ≡ b
port_exact a b h =
    let p = and_parts (bytes_eq a.name b.name) _ h in
    let q = and_parts (same_proto.ghosts.eq a.proto b.proto) _ p.1 in
    λ i. record { name = (bytes_eq-Decides a.name b.name).0 p.0 i; proto = proto_test_exact a.proto b.proto q.0 i; port = number_exact a.port b.port q.1 i }

pub ports_exact : (xs ys : List SlicePort) → same_ports xs ys ≡ true → xs ≡ ys
ports_exact [] [] h = refl
ports_exact [] (y ∷ ys) h = absurd (false≢true h)
ports_exact (x ∷ xs) [] h = absurd (false≢true h)
ports_exact (x ∷ xs) (y ∷ ys) h = let p = and_parts _ _ h in λ i. port_exact x y p.0 i ∷ ports_exact xs ys p.1 i

pub ports_equiv : IsEquivalence same_ports
ports_equiv = lists_equiv port_laws.laws-law

-- ---- ports in order

port_total : IsTotalOrder port_cmp
port_total = then_total (on_total (λ p. p.name) text_total) (on_total (λ p. proto_place p.proto) nat_cmp_total)

greater : (o : Ordering) → is_gt o ≡ true → is_gt (ordering_reverse o) ≡ false
greater Less h = absurd (false≢true h)
greater Equal h = absurd (false≢true h)
greater Greater h = refl

one_way : (p q : SlicePort) → is_gt (port_cmp p q) ≡ true → is_gt (port_cmp q p) ≡ false
one_way p q h = ap is_gt (port_total.antisymm q p) ∙ greater _ h

-- a port may stand before these
StandsBefore : SlicePort → List SlicePort → Type 0
StandsBefore p [] = Unit {0}
StandsBefore p (q ∷ qs) = is_gt (port_cmp p q) ≡ false

AreInOrder : List SlicePort → Type 0
AreInOrder [] = Unit {0}
AreInOrder (p ∷ ps) = StandsBefore p ps × AreInOrder ps

-- a port that may stand in front does
in_front : (p : SlicePort) (qs : List SlicePort) → StandsBefore p qs → port_in_place p qs ≡ p ∷ qs
unfolding StandsBefore
in_front p [] h = refl
in_front p (q ∷ qs) h = ap (λ b. cond b (q ∷ port_in_place p qs) (p ∷ q ∷ qs)) h

still_before : (r p : SlicePort) (qs : List SlicePort) → is_gt (port_cmp r p) ≡ false → StandsBefore r qs → StandsBefore r (port_in_place p qs)
unfolding StandsBefore
still_before r p [] h g = h
still_before r p (q ∷ qs) h g =
    cond_both (is_gt (port_cmp p q)) _ _ (StandsBefore r) (λ e. g) (λ e. h)

placed_in_order : (p : SlicePort) (qs : List SlicePort) → AreInOrder qs → AreInOrder (port_in_place p qs)
unfolding AreInOrder StandsBefore
placed_in_order p [] a = (tt, tt)
placed_in_order p (q ∷ qs) a =
    cond_both (is_gt (port_cmp p q)) (q ∷ port_in_place p qs) (p ∷ q ∷ qs) AreInOrder
    (λ e. (still_before q p qs (one_way p q e) a.0, placed_in_order p qs a.1)) (λ e. (e, a))

are_in_order : (ps : List SlicePort) → AreInOrder (sorted_ports ps)
unfolding AreInOrder
are_in_order [] = tt
are_in_order (p ∷ ps) = placed_in_order p _ (are_in_order ps)

in_order_stay : (ps : List SlicePort) → AreInOrder ps → sorted_ports ps ≡ ps
unfolding AreInOrder
in_order_stay [] a = refl
in_order_stay (p ∷ ps) a = ap (port_in_place p) (in_order_stay ps a.1) ∙ in_front p ps a.0

pub sorted_twice : (ps : List SlicePort) → sorted_ports (sorted_ports ps) ≡ sorted_ports ps
sorted_twice ps = in_order_stay _ (are_in_order ps)
