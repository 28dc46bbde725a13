-- Elements in the order of keys that differ: none is lost.
use Rattle.std.proofs.Common.{◌≡◌, true, false, cond, Option, List, [], ◌∷◌, ◌++◌, map, reverse, Some, None, refl, sym, ap, subst, ◌∙◌, IsPermutation}
use Rattle.std.proofs.lemmas.Bool.{cond_both}
use Rattle.std.specs.declared.cmp.Ordering.{Ordering}
use Rattle.std.specs.declared.cmp.Ordering.TheVariants.{Less, Equal, Greater}
use Rattle.std.specs.List.{flat_map, AllByRecursion, IsDistinct}
use Rattle.std.specs.Ordering.{eq_by_cmp, is_eq}
use Rattle.std.specs.Cmp.{IsTotalOrder, eq_by_cmp_equiv}
use Rattle.std.specs.FinMap.{find, put, IsAntisymmetric}
use Rattle.std.specs.FinMap.Entries.{by_order}
use Rattle.std.proofs.lemmas.List.Sorted.{IsPermutation-refl, IsPermutation-reverse, IsPermutation-map}
use Rattle.std.proofs.lemmas.Map.Keys.{IsDistinct-IsPermutation}
use Rattle.kp_object_defs.specs.Order.{in_order, values_of, by_key}
use Rattle.kp_object_defs.proofs.InOrder.{map-reverse, find-in_order, same_order}
use Rattle.std.proofs.lemmas.Simd.{map-map}
use Rattle.kp_lemmas.proofs.ListFacts.{all_both, all_weaker}
use Rattle.kp_pack_laws.proofs.Shuffles.{same_list, and_then, joined, to_front, turned, same_itself, pieces_of_reversed, all_mapped, all_unmapped, all_permuted}

some_none : {X : Type 0} (x : X) → Some x ≡ None → ⊥
some_none x e = cc

module _ {K X Y : Type 0} {R : K → K → Ordering} (total : IsTotalOrder R) (f : X → List Y) where
  -- a new entry adds what it has
  put_pieces : (k : K) (v : X) (es : List (K × X)) → find R k es ≡ None → IsPermutation (flat_map f (values_of (put R k v es))) (f v ++ flat_map f (values_of es))
  put_pieces k v [] absent = IsPermutation-refl _
  put_pieces k v (e ∷ es) absent = by _ absent (put_pieces k v es)
    where
      by : (o : Ordering) → cond (is_eq o) (Some e.1) (find R k es) ≡ None
          → (find R k es ≡ None → IsPermutation (flat_map f (values_of (put R k v es))) (f v ++ flat_map f (values_of es)))
          → IsPermutation (flat_map f (values_of (by_order o ((k, v) ∷ e ∷ es) ((e.0, v) ∷ es) (e ∷ put R k v es)))) (f v ++ (f e.1 ++ flat_map f (values_of es)))
      by Less h rest = IsPermutation-refl _
      by Equal h rest = absurd (some_none e.1 h)
      by Greater h rest = and_then (joined (IsPermutation-refl (f e.1)) (rest h)) (to_front (f e.1) (f v) _)

  not_found : (k : K) (es : List (K × X)) → AllByRecursion (λ l. eq_by_cmp R k l ≡ false) (map (λ e. e.0) es) → find R k es ≡ None
  not_found k [] all = refl
  not_found k (e ∷ es) all = ap (λ b. cond b (Some e.1) (find R k es)) all.0 ∙ not_found k es all.1

  in_order_pieces : (es : List (K × X)) → IsDistinct (eq_by_cmp R) (map (λ e. e.0) es) → IsPermutation (flat_map f (values_of (in_order R es))) (flat_map f (values_of es))
  unfolding IsDistinct
  in_order_pieces [] d = IsPermutation-refl _
  in_order_pieces (e ∷ es) d =
      and_then (put_pieces e.0 e.1 _ (find-in_order total e.0 es ∙ not_found e.0 es d.0))
      (joined (IsPermutation-refl (f e.1)) (in_order_pieces es d.1))

  module _ (key : X → K) where
    keys_are : (xs : List X) → map (λ (e : K × X). e.0) (reverse (map (λ x. (key x, x)) xs)) ≡ reverse (map key xs)
    keys_are xs = map-reverse (λ (e : K × X). e.0) (map (λ x. (key x, x)) xs) ∙ ap reverse (map-map (λ (e : K × X). e.0) (λ x. (key x, x)) xs)

    values_are : (xs : List X) → values_of (reverse (map (λ x. (key x, x)) xs)) ≡ reverse xs
    values_are xs = map-reverse (λ (e : K × X). e.1) (map (λ x. (key x, x)) xs) ∙ ap reverse (map-map (λ (e : K × X). e.1) (λ x. (key x, x)) xs ∙ same_itself xs)

    pub by_key_pieces : (xs : List X) → IsDistinct (eq_by_cmp R) (map key xs) → IsPermutation (flat_map f (values_of (by_key R key xs))) (flat_map f xs)
    by_key_pieces xs d =
        and_then (in_order_pieces _
        (subst (IsDistinct (eq_by_cmp R)) (sym (keys_are xs)) (IsDistinct-IsPermutation _ (eq_by_cmp_equiv total).symm _ _ (IsPermutation-reverse _) d)))
        (and_then (same_list (ap (flat_map f) (values_are xs))) (pieces_of_reversed f xs))

-- ---- elements that change their places

module _ {K X : Type 0} {R : K → K → Ordering} (total : IsTotalOrder R) where
  -- of entries with different keys each is found
  each_found : (q : K) (es : List (K × X)) → IsDistinct (eq_by_cmp R) (map (λ e. e.0) es)
      → AllByRecursion (λ e. eq_by_cmp R q e.0 ≡ true → find R q es ≡ Some e.1) es
  unfolding IsDistinct
  each_found q [] d = tt
  each_found q (e ∷ es) d =
      let laws = eq_by_cmp_equiv total in
      let others = all_unmapped (λ k. eq_by_cmp R e.0 k ≡ false) (λ e. e.0) es d.0 in
      let missed = λ (k : K) (apart : eq_by_cmp R e.0 k ≡ false) (is : eq_by_cmp R q k ≡ true).
      laws.congr q k e.0 is ∙ laws.symm k e.0 ∙ apart in (
        λ h. ap (λ b. cond b (Some e.1) (find R q es)) h,
        all_weaker _ _ (λ f known is. ap (λ b. cond b (Some e.1) (find R q es))
            (missed f.0 known.0 is) ∙ known.1 is) es (all_both _ _ es others (each_found q es d.1)),
      )

  found_alike : (q : K) (o : Option X) (es : List (K × X))
      → AllByRecursion (λ e. eq_by_cmp R q e.0 ≡ true → o ≡ Some e.1) es
      → (AllByRecursion (λ e. eq_by_cmp R q e.0 ≡ false) es → o ≡ None) → find R q es ≡ o
  found_alike q o [] all none = sym (none tt)
  found_alike q o (e ∷ es) all none =
      cond_both _ _ _ (λ found. found ≡ o)
      (λ h. sym (all.0 h)) (λ h. found_alike q o es all.1 (λ rest. none (h, rest)))

  find_permuted : (q : K) {es fs : List (K × X)} → IsPermutation es fs
      → IsDistinct (eq_by_cmp R) (map (λ e. e.0) fs)
      → find R q es ≡ find R q fs
  find_permuted q {es = es} {fs = fs} same d =
      found_alike q _ es (all_permuted _ (turned same) (each_found q fs d))
      (λ none. not_found total (λ (v : X). v ∷ []) q fs
      (all_mapped _ (λ e. e.0) fs (all_permuted _ same none)))

  -- they have one order, whatever it was before
  pub by_key_permuted : IsAntisymmetric R → (key : X → K) {xs ys : List X} → IsPermutation xs ys
      → IsDistinct (eq_by_cmp R) (map key ys) → by_key R key xs ≡ by_key R key ys
  by_key_permuted exact key {xs = xs} {ys = ys} same d =
      let reversed = and_then (turned (IsPermutation-reverse _))
      (and_then (IsPermutation-map {X = K × X} (λ x. (key x, x)) xs ys same)
      (IsPermutation-reverse _)) in
      let differ = IsDistinct-IsPermutation _ (eq_by_cmp_equiv total).symm _ _
      (IsPermutation-reverse _) d in
      same_order total exact _ _ (λ q. find_permuted q reversed
      (subst (IsDistinct (eq_by_cmp R)) (sym (keys_are total (λ (v : X). v ∷ []) key ys)) differ))

-- with each element as a piece
pub single : {X : Type 0} (xs : List X) → flat_map (λ x. x ∷ []) xs ≡ xs
single [] = refl
single (x ∷ xs) = ap (λ rest. x ∷ rest) (single xs)

pub by_key_keeps : {K X : Type 0} {R : K → K → Ordering} → IsTotalOrder R → (key : X → K) (xs : List X) → IsDistinct (eq_by_cmp R) (map key xs) → IsPermutation (values_of (by_key R key xs)) xs
by_key_keeps {R = R} total key xs d =
    and_then (same_list (sym (single _))) (and_then (by_key_pieces total (λ x. x ∷ []) key xs d) (same_list (single xs)))
