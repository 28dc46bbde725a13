-- Free names, and new slices that have them.
use Rattle.std.proofs.Common.{◌≡◌, ℕ, zero, suc, ◌+◌, ◌<◌, ◌≤◌, Bool, true, false, cond, not, ◌||◌, nat_le, min, List, [], ◌∷◌, ◌++◌, map, take, drop, length, get_or, filter, bytes_eq, refl, sym, ap, subst, ◌∙◌, arith}
use Rattle.std.specs.List.{list_any, zip}
use Rattle.std.specs.Cmp.Lexicographic.{nat_list_eq_equiv}
use Rattle.std.proofs.Math.Bool.{or-true, or-false}
use Rattle.std.proofs.lemmas.Bool.Decides.{nat_tests}
use Rattle.std.proofs.Math.ListN.{drop_of_length-le}
use Rattle.std.proofs.lemmas.List.{take_more, drop_more, take_all, length-take, length-append, take-append-le}
use Rattle.std.proofs.lemmas.List.Elements.{filter-append}
use Rattle.kp_base.specs.declared.key.ObjectKey.{ObjectKey}
use Rattle.kp_object_defs.specs.Packing.{slice_name, slice_names_from}
use Rattle.std.proofs.lemmas.List.Folds.{list_any-append}

-- ---- a set of names

either : (a b : Bool) → cond a true b ≡ (b || (a || false))
either true b = sym (or-true b)
either false b = sym (or-false b)

-- one more name
pub one_more_name : (name : List ℕ) (names : List (List ℕ)) (i : ℕ) (x : List ℕ) → i < length names → x ≡ get_or names i x → cond (bytes_eq x name) true (list_any (bytes_eq name) (take i names)) ≡ list_any (bytes_eq name) (take (i + 1) names)
one_more_name name names i x within is =
    (λ j. cond (nat_list_eq_equiv.symm x name j) true (list_any (bytes_eq name) (take i names)))
    ∙ either (bytes_eq name x) (list_any (bytes_eq name) (take i names))
    ∙ sym (ap (list_any (bytes_eq name)) (take_more names i x within ∙ ap (λ y. take i names ++ y ∷ []) (sym is))
    ∙ list_any-append (bytes_eq name) (take i names) (x ∷ []))

-- ---- the first free names

-- one more name
slice_names-push : (service : ObjectKey) (n k : ℕ) → slice_names_from service (n + 1) k ≡ slice_names_from service n k ++ slice_name service (k + n) ∷ []
slice_names-push service zero k = (λ i. slice_name service (plus_zero i) ∷ [])
  where
    plus_zero : k ≡ k + 0
    plus_zero = omega arith
slice_names-push service (suc n) k =
    let next : suc n + 1 ≡ suc (n + 1) = omega arith in
    let number : suc k + n ≡ k + suc n = omega arith in
    ap (λ m. slice_names_from service m k) next
    ∙ ap (λ l. slice_name service k ∷ l) (slice_names-push service n (suc k))
    ∙ (λ i. slice_name service k ∷ slice_names_from service n (suc k) ++ slice_name service (number i) ∷ [])

module _ {X : Type 0} (p : X → Bool) (count : ℕ) where
  at_most_one : (x : X) (b : Bool) → p x ≡ b → length (filter p (x ∷ [])) ≤ 1
  at_most_one x true e = subst (λ b. length (cond b (x ∷ []) []) ≤ 1) (sym e) (omega arith)
  at_most_one x false e = subst (λ b. length (cond b (x ∷ []) []) ≤ 1) (sym e) (omega arith)

  -- there are too few so far
  pub few_more : (xs : List X) (x : X) → length (take count (filter p xs)) < count → take count (filter p xs) ++ filter p (x ∷ []) ≡ take count (filter p (xs ++ x ∷ []))
  few_more xs x few =
      let one = at_most_one x (p x) refl in
      let size = length-take count (filter p xs) in
      let short : length (filter p xs) < count = omega (arith, few, size) in
      let all = length-append (filter p xs) (filter p (x ∷ [])) in
      ap (λ l. l ++ filter p (x ∷ [])) (take_all count (filter p xs) (omega (arith, short)))
      ∙ sym (take_all count (filter p xs ++ filter p (x ∷ [])) (omega (arith, short, one, all)))
      ∙ ap (take count) (sym (filter-append p xs (x ∷ [])))

  -- there are enough
  pub enough_more : (xs : List X) (x : X) → count ≤ length (take count (filter p xs)) → take count (filter p xs) ≡ take count (filter p (xs ++ x ∷ []))
  enough_more xs x many =
      let size = length-take count (filter p xs) in
      sym (ap (take count) (filter-append p xs (x ∷ [])) ∙ take-append-le count (filter p xs) (filter p (x ∷ [])) (omega (arith, many, size)))

module _ (taken : List (List ℕ)) (service : ObjectKey) (count number : ℕ) where
  pub add_name : (keys names : List (List ℕ)) → ((name : List ℕ) → list_any (bytes_eq name) keys ≡ list_any (bytes_eq name) taken)
      → names ≡ take count (filter (λ name. not (list_any (bytes_eq name) taken)) (slice_names_from service number 1)) → length names < count
      → names ++ filter (λ name. not (list_any (bytes_eq name) keys)) (slice_name service (number + 1) ∷ [])
      ≡ take count (filter (λ name. not (list_any (bytes_eq name) taken)) (slice_names_from service (number + 1) 1))
  add_name keys names same so_far few =
      let next : number + 1 ≡ 1 + number = omega arith in
      (λ i. so_far i ++ cond (not (same (slice_name service (number + 1)) i)) (slice_name service (number + 1) ∷ []) [])
      ∙ few_more (λ name. not (list_any (bytes_eq name) taken)) count (slice_names_from service number 1) (slice_name service (number + 1)) (subst (λ l. length l < count) so_far few)
      ∙ ap (λ l. take count (filter (λ name. not (list_any (bytes_eq name) taken)) l)) ((λ i. slice_names_from service number 1 ++ slice_name service (next i) ∷ []) ∙ sym (slice_names-push service number 1))

  pub keep_names : (names : List (List ℕ)) → names ≡ take count (filter (λ name. not (list_any (bytes_eq name) taken)) (slice_names_from service number 1)) → count ≤ length names
      → names ≡ take count (filter (λ name. not (list_any (bytes_eq name) taken)) (slice_names_from service (number + 1) 1))
  keep_names names so_far many =
      let next : number + 1 ≡ 1 + number = omega arith in
      so_far
      ∙ enough_more (λ name. not (list_any (bytes_eq name) taken)) count (slice_names_from service number 1) (slice_name service (number + 1)) (subst (λ l. count ≤ length l) so_far many)
      ∙ ap (λ l. take count (filter (λ name. not (list_any (bytes_eq name) taken)) l)) ((λ i. slice_names_from service number 1 ++ slice_name service (next i) ∷ []) ∙ sym (slice_names-push service number 1))

-- ---- names and new slices side by side

module _ {A B C D : Type 0} (f : A × C → D) (g : B → C) where
  -- the next pair
  pub zip_step : (xs : List A) (ys : List B) (i : ℕ) (x : A) (y : B) → i < length xs → i < length ys → x ≡ get_or xs i x → y ≡ get_or ys i y → map f (zip (drop i xs) (map g (drop i ys))) ≡ f (x, g y) ∷ map f (zip (drop (i + 1) xs) (map g (drop (i + 1) ys)))
  zip_step xs ys i x y within inside here there =
      (λ j. map f (zip (drop_more xs i x within j) (map g (drop_more ys i y inside j))))
      ∙ (λ j. f (sym here j, g (sym there j)) ∷ map f (zip (drop (i + 1) xs) (map g (drop (i + 1) ys))))

  zip_none : (xs : List A) → zip xs (map g []) ≡ []
  zip_none [] = refl
  zip_none (x ∷ xs) = refl

  -- no pair is left behind the end of either list
  pub zip_end : (xs : List A) (ys : List B) (i : ℕ) → min (length xs) (length ys) ≤ i → map f (zip (drop i xs) (map g (drop i ys))) ≡ []
  zip_end xs ys i past = by (nat_le (length xs) i) refl
    where
      by : (b : Bool) → nat_le (length xs) i ≡ b → map f (zip (drop i xs) (map g (drop i ys))) ≡ []
      by true e = ap (λ l. map f (zip l (map g (drop i ys)))) (drop_of_length-le xs (grind (arith, nat_tests)))
      by false e =
          let beyond : length ys ≤ i = grind (arith, nat_tests, past, e) in
          ap (λ l. map f (zip (drop i xs) (map g l))) (drop_of_length-le ys beyond) ∙ ap (map f) (zip_none (drop i xs))

-- as many of a list as the other has
pub zip_take : {A B : Type 0} (xs : List A) (ys : List B) → zip (take (length ys) xs) ys ≡ zip xs ys
zip_take [] [] = refl
zip_take [] (y ∷ ys) = refl
zip_take (x ∷ xs) [] = refl
zip_take (x ∷ xs) (y ∷ ys) = ap (λ l. (x, y) ∷ l) (zip_take xs ys)
