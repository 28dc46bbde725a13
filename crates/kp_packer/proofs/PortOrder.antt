-- A stable sort gives the list that inserting one by one gives. lt is the order of the elements.
use Rattle.std.specs.Prelude.{⊤}
use Rattle.std.proofs.Common.{◌≡◌, ℕ, suc, ◌+◌, ◌<◌, Bool, true, false, cond, not, ◌&&◌, List, [], ◌∷◌, length, drop, get_or, refl, sym, ap, subst, ◌∙◌, arith, true≢false}
use Rattle.std.specs.List.{filter, AllByRecursion}
use Rattle.std.specs.List.Sorted.{ties, IsSortedBy, IsStableBy}
use Rattle.std.specs.Cmp.{IsStrictWeakOrder, IsTotalOrder}
use Rattle.std.specs.declared.cmp.Ordering.{Ordering}
use Rattle.std.specs.declared.cmp.Ordering.TheVariants.{Less, Equal, Greater}
use Rattle.std.specs.Ordering.{is_lt, is_gt, ordering_reverse}
use Rattle.std.proofs.Math.Bool.{and_comm}
use Rattle.std.proofs.lemmas.Bool.{and_parts, not-true}
use Rattle.std.proofs.lemmas.Cmp.{on_total, then_total, nat_cmp_total, nat_list_cmp_total}
use Rattle.std.proofs.lemmas.List.MinMax.{ranks_by}
use Rattle.std.proofs.lemmas.List.Sorted.{sorted_far}
use Rattle.kp_lemmas.proofs.ListFacts.{all_weaker}
use Rattle.kp_base.specs.Keys.{proto_place}
use Rattle.kp_types.specs.declared.slice.SlicePort.{SlicePort}
use Rattle.kp_object_defs.specs.Packing.{port_cmp, port_in_place, sorted_ports}

-- ---- facts of each element

all_cond : {X : Type 0} (P : X → Type 0) (b : Bool) (xs ys : List X) → AllByRecursion P xs → AllByRecursion P ys → AllByRecursion P (cond b xs ys)
all_cond P true xs ys all others = all
all_cond P false xs ys all others = others

all_indexed : {X : Type 0} (P : X → Type 0) (xs : List X) → ((k : ℕ) (d : X) → k < length xs → P (get_or xs k d)) → AllByRecursion P xs
all_indexed P [] h = tt
all_indexed P (x ∷ xs) h = (h 0 x (omega arith), all_indexed P xs (λ k d below. h (suc k) d (omega (arith, below))))

-- the first that passes has what all have
first_passes : {X : Type 0} (p : X → Bool) (P : X → Type 0) (zs : List X) (w : X) (ws : List X) → filter p zs ≡ w ∷ ws → AllByRecursion P zs → P w
first_passes p P [] w ws is all = absurd (cc)
first_passes p P (z ∷ zs) w ws is all = by (p z) refl (λ rest. first_passes p P zs w ws rest all.1)
  where
    by : (b : Bool) → p z ≡ b → (filter p zs ≡ w ∷ ws → P w) → P w
    by true e later = subst P (ap (λ l. get_or l 0 w) (sym (ap (λ b. cond b (z ∷ filter p zs) (filter p zs)) e) ∙ is)) all.0
    by false e later = later (sym (ap (λ b. cond b (z ∷ filter p zs) (filter p zs)) e) ∙ is)

tails : {X : Type 0} (b : Bool) (y : X) (xs zs : List X) → cond b (y ∷ xs) xs ≡ cond b (y ∷ zs) zs → xs ≡ zs
tails true y xs zs h = ap (drop 1) h
tails false y xs zs h = h

module _ {X : Type 0} (lt : X → X → Bool) (o : IsStrictWeakOrder lt) where
  -- ---- inserting

  -- an element in its place
  abbrev pub into : X → List X → List X
  into p [] = p ∷ []
  into p (q ∷ qs) = cond (lt q p) (q ∷ into p qs) (p ∷ q ∷ qs)

  abbrev pub inserted : List X → List X
  inserted [] = []
  inserted (x ∷ xs) = into x (inserted xs)

  -- no element is below one before it
  abbrev pub Rises : List X → Type 0
  Rises [] = ⊤
  Rises (x ∷ xs) = AllByRecursion (λ y. lt y x ≡ false) xs × Rises xs

  all_into : (P : X → Type 0) (p : X) (qs : List X) → P p → AllByRecursion P qs → AllByRecursion P (into p qs)
  all_into P p [] here all = (here, tt)
  all_into P p (q ∷ qs) here all = all_cond P (lt q p) (q ∷ into p qs) (p ∷ q ∷ qs) (all.0, all_into P p qs here all.1) (here, all)

  rises_by : (p q : X) (qs : List X) → Rises (q ∷ qs) → Rises (into p qs) → (b : Bool) → lt q p ≡ b → Rises (cond b (q ∷ into p qs) (p ∷ q ∷ qs))
  rises_by p q qs up rest true e = (all_into (λ y. lt y q ≡ false) p qs (o.one_way q p e) up.0, rest)
  rises_by p q qs up rest false e = ((e, all_weaker (λ y. lt y q ≡ false) (λ y. lt y p ≡ false) (λ y h. o.chain y q p h e) qs up.0), up)

  rises_into : (p : X) (qs : List X) → Rises qs → Rises (into p qs)
  rises_into p [] up = (tt, tt)
  rises_into p (q ∷ qs) up = rises_by p q qs up (rises_into p qs up.1) (lt q p) refl

  rises_inserted : (xs : List X) → Rises (inserted xs)
  rises_inserted [] = tt
  rises_inserted (x ∷ xs) = rises_into x (inserted xs) (rises_inserted xs)

  -- two elements of which one is below the other don't both tie with a third
  swapped : (x p q : X) (rest : List X) → lt q p ≡ true → (a b : Bool) → ties lt x p ≡ a → ties lt x q ≡ b
      → cond (ties lt x q) (q ∷ cond (ties lt x p) (p ∷ rest) rest) (cond (ties lt x p) (p ∷ rest) rest)
      ≡ cond (ties lt x p) (p ∷ cond (ties lt x q) (q ∷ rest) rest) (cond (ties lt x q) (q ∷ rest) rest)
  swapped x p q rest below true true first second =
      let one = and_parts (not (lt x p)) (not (lt p x)) first in
      let two = and_parts (not (lt x q)) (not (lt q x)) second in
      absurd (true≢false (sym below ∙ o.chain q x p (not-true (lt q x) two.1) (not-true (lt x p) one.0)))
  swapped x p q rest below true false first second =
      (λ i. cond (second i) (q ∷ cond (first i) (p ∷ rest) rest) (cond (first i) (p ∷ rest) rest))
      ∙ sym (λ i. cond (first i) (p ∷ cond (second i) (q ∷ rest) rest) (cond (second i) (q ∷ rest) rest))
  swapped x p q rest below false true first second =
      (λ i. cond (second i) (q ∷ cond (first i) (p ∷ rest) rest) (cond (first i) (p ∷ rest) rest))
      ∙ sym (λ i. cond (first i) (p ∷ cond (second i) (q ∷ rest) rest) (cond (second i) (q ∷ rest) rest))
  swapped x p q rest below false false first second =
      (λ i. cond (second i) (q ∷ cond (first i) (p ∷ rest) rest) (cond (first i) (p ∷ rest) rest))
      ∙ sym (λ i. cond (first i) (p ∷ cond (second i) (q ∷ rest) rest) (cond (second i) (q ∷ rest) rest))

  ties_by : (x p q : X) (qs : List X) → filter (ties lt x) (into p qs) ≡ filter (ties lt x) (p ∷ qs) → (b : Bool) → lt q p ≡ b
      → filter (ties lt x) (cond b (q ∷ into p qs) (p ∷ q ∷ qs)) ≡ filter (ties lt x) (p ∷ q ∷ qs)
  ties_by x p q qs rest true e =
      ap (λ l. cond (ties lt x q) (q ∷ l) l) rest
      ∙ swapped x p q (filter (ties lt x) qs) e (ties lt x p) (ties lt x q) refl refl
  ties_by x p q qs rest false e = refl

  ties_into : (x p : X) (qs : List X) → filter (ties lt x) (into p qs) ≡ filter (ties lt x) (p ∷ qs)
  ties_into x p [] = refl
  ties_into x p (q ∷ qs) = ties_by x p q qs (ties_into x p qs) (lt q p) refl

  ties_inserted : (x : X) (xs : List X) → filter (ties lt x) (inserted xs) ≡ filter (ties lt x) xs
  ties_inserted x [] = refl
  ties_inserted x (y ∷ xs) = ties_into x y (inserted xs) ∙ ap (λ l. cond (ties lt x y) (y ∷ l) l) (ties_inserted x xs)

  -- ---- there is only one stable order

  self_by : (x : X) (b : Bool) → lt x x ≡ b → lt x x ≡ false
  self_by x true e = o.one_way x x e
  self_by x false e = e

  self_ties : (x : X) → ties lt x x ≡ true
  self_ties x = λ i. not (self_by x (lt x x) refl i) && not (self_by x (lt x x) refl i)

  head_by : (y z : X) (ys zs : List X) → Rises (y ∷ ys) → Rises (z ∷ zs) → ((x : X) → filter (ties lt x) (y ∷ ys) ≡ filter (ties lt x) (z ∷ zs)) → (b : Bool) → ties lt y z ≡ b → y ≡ z
  head_by y z ys zs up others alike true e =
      ap (λ l. get_or l 0 y)
      (sym (ap (λ b. cond b (y ∷ filter (ties lt y) ys) (filter (ties lt y) ys)) (self_ties y))
      ∙ alike y
      ∙ ap (λ b. cond b (z ∷ filter (ties lt y) zs) (filter (ties lt y) zs)) e)
  head_by y z ys zs up others alike false e =
      let back : ties lt z y ≡ false = and_comm (not (lt z y)) (not (lt y z)) ∙ e in
      let below = first_passes (ties lt y) (λ w. lt w z ≡ false) zs y (filter (ties lt y) ys)
      (sym (sym (ap (λ b. cond b (y ∷ filter (ties lt y) ys) (filter (ties lt y) ys)) (self_ties y))
      ∙ alike y ∙ ap (λ b. cond b (z ∷ filter (ties lt y) zs) (filter (ties lt y) zs)) e)) others.0 in
      let above = first_passes (ties lt z) (λ w. lt w y ≡ false) ys z (filter (ties lt z) zs)
      (sym (ap (λ b. cond b (y ∷ filter (ties lt z) ys) (filter (ties lt z) ys)) back) ∙ alike z
      ∙ ap (λ b. cond b (z ∷ filter (ties lt z) zs) (filter (ties lt z) zs)) (self_ties z)) up.0 in
      absurd (true≢false (sym (λ i. not (below i) && not (above i)) ∙ e))

  one_order : (ys zs : List X) → Rises ys → Rises zs → ((x : X) → filter (ties lt x) ys ≡ filter (ties lt x) zs) → ys ≡ zs
  one_order [] [] up others alike = refl
  one_order [] (z ∷ zs) up others alike =
      let is = alike z ∙ ap (λ b. cond b (z ∷ filter (ties lt z) zs) (filter (ties lt z) zs)) (self_ties z) in absurd (cc)
  one_order (y ∷ ys) [] up others alike =
      let is = sym (alike y) ∙ ap (λ b. cond b (y ∷ filter (ties lt y) ys) (filter (ties lt y) ys)) (self_ties y) in absurd (cc)
  one_order (y ∷ ys) (z ∷ zs) up others alike =
      let is = head_by y z ys zs up others alike (ties lt y z) refl in
      let rest = one_order ys zs up.1 others.1 (λ x. tails (ties lt x y) y (filter (ties lt x) ys) (filter (ties lt x) zs) (alike x ∙ ap (λ w. filter (ties lt x) (w ∷ zs)) (sym is))) in
      λ i. is i ∷ rest i

  rises_sorted : (xs : List X) → IsSortedBy lt xs → Rises xs
  rises_sorted [] up = tt
  rises_sorted (x ∷ xs) up = (
    all_indexed (λ y. lt y x ≡ false) xs (λ k d below. sorted_far lt o (x ∷ xs) up 0 (suc k) d (omega arith) (omega (arith, below))),
    rises_sorted xs (λ k d low below.
        let next : suc k + 1 ≡ suc (k + 1) = omega arith in
        subst (λ n. lt (get_or (x ∷ xs) n d) (get_or xs k d) ≡ false) next (up (suc k) d (omega arith) (omega (arith, below)))),
  )

  -- a list that is sorted, with ties as they were, is the list that inserting gives
  pub stable_is : (xs ys : List X) → IsSortedBy lt ys → IsStableBy lt xs ys → ys ≡ inserted xs
  stable_is xs ys up stable = one_order ys (inserted xs) (rises_sorted ys up) (rises_inserted xs) (λ x. stable x ∙ sym (ties_inserted x xs))

-- ---- ports

reversed : (a : Ordering) → is_gt (ordering_reverse a) ≡ is_lt a
reversed Less = refl
reversed Equal = refl
reversed Greater = refl

pub ports_total : IsTotalOrder port_cmp
ports_total = then_total (on_total (λ p. p.name) nat_list_cmp_total) (on_total (λ p. proto_place p.proto) nat_cmp_total)

abbrev pub port_lt : SlicePort → SlicePort → Bool
port_lt a b = is_lt (port_cmp a b)

pub ports_rank : IsStrictWeakOrder port_lt
ports_rank = ranks_by ports_total (λ p. p)

in_place : (p : SlicePort) (qs : List SlicePort) → port_in_place p qs ≡ into port_lt ports_rank p qs
in_place p [] = refl
in_place p (q ∷ qs) = λ i. cond ((ap is_gt (ports_total.antisymm p q) ∙ reversed (port_cmp q p)) i) (q ∷ in_place p qs i) (p ∷ q ∷ qs)

all_in_place : (ps : List SlicePort) → sorted_ports ps ≡ inserted port_lt ports_rank ps
all_in_place [] = refl
all_in_place (p ∷ ps) = ap (port_in_place p) (all_in_place ps) ∙ in_place p (inserted port_lt ports_rank ps)

pub ports_sorted : (xs ys : List SlicePort) → IsSortedBy port_lt ys → IsStableBy port_lt xs ys → ys ≡ sorted_ports xs
ports_sorted xs ys up stable = stable_is port_lt ports_rank xs ys up stable ∙ sym (all_in_place xs)
