-- Names of new slices: as many as are needed are free, they differ, and none is taken.
use Rattle.std.proofs.Common.{◌≡◌, ℕ, zero, suc, ◌+◌, ◌^◌, ◌<◌, ◌≤◌, true, false, not, List, [], ◌∷◌, ◌++◌, map, take, length, bytes_eq, refl, sym, ap, subst, ◌∙◌, arith}
use Rattle.std.specs.Prelude.{codes}
use Rattle.std.specs.Fmt.{decimal}
use Rattle.std.specs.Str.Parse.{digits_value}
use Rattle.std.specs.List.{flat_map, list_any, zip, AllByRecursion, IsDistinct}
use Rattle.std.specs.Cmp.Lexicographic.{nat_list_eq_equiv}
use Rattle.std.proofs.lemmas.Fmt.{decimal_is_IsNumeral_wide}
use Rattle.std.proofs.lemmas.List.{append_cancel_left}
use Rattle.std.proofs.lemmas.Slice.Eq.{bytes_eq-Decides}
use Rattle.std.proofs.lemmas.Bool.{false_from_ne_true}
use Rattle.kp_base.specs.declared.address.Family.{Family}
use Rattle.kp_base.specs.declared.key.ObjectKey.{ObjectKey}
use Rattle.kp_types.specs.declared.slice.Slice.{Slice}
use Rattle.kp_object_defs.specs.Packing.{slice_name, slice_names_from, free_names, NewSlice, new_slice, new_slices}
use Rattle.kp_pack_laws.proofs.Shuffles.{passing}
use Rattle.kp_pack_laws.proofs.Distinct.{distinct_filter, distinct_taken, all_taken, enough_others}

-- ---- different numbers make different names

one_number : (m n : ℕ) → m < 10 ^ 64 → n < 10 ^ 64 → decimal m ≡ decimal n → m ≡ n
one_number m n p q e = sym (decimal_is_IsNumeral_wide m p).1 ∙ ap (digits_value 10) e ∙ (decimal_is_IsNumeral_wide n q).1

names_apart : (service : ObjectKey) (j k : ℕ) → j < k → k < 10 ^ 64 → bytes_eq (slice_name service j) (slice_name service k) ≡ false
names_apart service j k less small =
    false_from_ne_true _ (λ e.
    let same = append_cancel_left (service.name ++ codes "-kp") (decimal j) (decimal k) ((bytes_eq-Decides _ _).0 e) in
    omega (arith, one_number j k (omega arith) small same))

module _ (service : ObjectKey) where
  apart_from : (j n k : ℕ) → j < k → k + n ≤ 10 ^ 64 → AllByRecursion (λ name. bytes_eq (slice_name service j) name ≡ false) (slice_names_from service n k)
  apart_from j zero k less small = tt
  apart_from j (suc n) k less small = (names_apart service j k less (omega arith), apart_from j n (suc k) (omega arith) (omega arith))

  names_differ : (n k : ℕ) → k + n ≤ 10 ^ 64 → IsDistinct bytes_eq (slice_names_from service n k)
  unfolding IsDistinct
  names_differ zero k small = tt
  names_differ (suc n) k small = (apart_from k n (suc k) (omega arith) (omega arith), names_differ n (suc k) (omega arith))

  length_names : (n k : ℕ) → length (slice_names_from service n k) ≡ n
  length_names zero k = refl
  length_names (suc n) k = ap suc (length_names n (suc k))

  -- ---- free names

  module _ (taken : List (List ℕ)) (n : ℕ) (small : length taken + n < 10 ^ 64) where
    all_differ : IsDistinct bytes_eq (slice_names_from service (length taken + n) 1)
    all_differ = names_differ _ 1 (omega (arith, small))

    pub enough_free : n ≤ length (free_names service taken n)
    enough_free =
        let all = enough_others bytes_eq nat_list_eq_equiv (λ x y. (bytes_eq-Decides x y).0) taken _ all_differ in
        omega (arith, all, length_names (length taken + n) 1)

    pub free_differ : IsDistinct bytes_eq (free_names service taken n)
    free_differ = distinct_filter bytes_eq (λ name. not (list_any (bytes_eq name) taken)) _ all_differ

    pub free_not_taken : AllByRecursion (λ name. not (list_any (bytes_eq name) taken) ≡ true) (free_names service taken n)
    free_not_taken = passing (λ name. not (list_any (bytes_eq name) taken)) _

-- ---- new slices

module _ (family : Family) (service : ObjectKey) where
  names_of_new : (names : List (List ℕ)) (made : List NewSlice) → length made ≤ length names → map (λ s. s.key.name) (map (new_slice family service) (zip names made)) ≡ take (length made) names
  names_of_new [] [] few = refl
  names_of_new [] (m ∷ ms) few = absurd (omega arith)
  names_of_new (n ∷ ns) [] few = refl
  names_of_new (n ∷ ns) (m ∷ ms) few = ap (λ rest. n ∷ rest) (names_of_new ns ms (omega arith))

  pieces_of_new : {Y : Type 0} (f : Slice → List Y) (g : NewSlice → List Y) → ((name : List ℕ) (m : NewSlice) → f (new_slice family service (name, m)) ≡ g m)
      → (names : List (List ℕ)) (made : List NewSlice) → length made ≤ length names → flat_map f (map (new_slice family service) (zip names made)) ≡ flat_map g made
  pieces_of_new f g same [] [] few = refl
  pieces_of_new f g same [] (m ∷ ms) few = absurd (omega arith)
  pieces_of_new f g same (n ∷ ns) [] few = refl
  pieces_of_new f g same (n ∷ ns) (m ∷ ms) few = λ i. same n m i ++ pieces_of_new f g same ns ms (omega arith) i

  all_of_new : (P : NewSlice → Type 0) (Q : Slice → Type 0) → ((name : List ℕ) (m : NewSlice) → P m → Q (new_slice family service (name, m)))
      → (names : List (List ℕ)) (made : List NewSlice) → AllByRecursion P made → AllByRecursion Q (map (new_slice family service) (zip names made))
  all_of_new P Q h [] made all = tt
  all_of_new P Q h (n ∷ ns) [] all = tt
  all_of_new P Q h (n ∷ ns) (m ∷ ms) all = (h n m all.0, all_of_new P Q h ns ms all.1)

  module _ (taken : List (List ℕ)) (made : List NewSlice) (small : length taken + length made < 10 ^ 64) where
    names_are : map (λ s. s.key.name) (new_slices family service taken made) ≡ take (length made) (free_names service taken (length made))
    names_are = names_of_new _ made (enough_free service taken _ small)

    pub new_names_differ : IsDistinct bytes_eq (map (λ s. s.key.name) (new_slices family service taken made))
    new_names_differ = subst (IsDistinct bytes_eq) (sym names_are) (distinct_taken bytes_eq _ _ (free_differ service taken _ small))

    pub new_names_free : AllByRecursion (λ name. not (list_any (bytes_eq name) taken) ≡ true) (map (λ s. s.key.name) (new_slices family service taken made))
    new_names_free =
        subst (AllByRecursion (λ name. not (list_any (bytes_eq name) taken) ≡ true)) (sym names_are)
        (all_taken bytes_eq (λ name. not (list_any (bytes_eq name) taken) ≡ true) _ _ (free_not_taken service taken _ small))

    -- what new slices have is what was made
    pub new_pieces : {Y : Type 0} (f : Slice → List Y) (g : NewSlice → List Y) → ((name : List ℕ) (m : NewSlice) → f (new_slice family service (name, m)) ≡ g m)
        → flat_map f (new_slices family service taken made) ≡ flat_map g made
    new_pieces f g same = pieces_of_new f g same _ made (enough_free service taken _ small)

  pub new_all : (P : NewSlice → Type 0) (Q : Slice → Type 0) → ((name : List ℕ) (m : NewSlice) → P m → Q (new_slice family service (name, m)))
      → (taken : List (List ℕ)) (made : List NewSlice) → AllByRecursion P made → AllByRecursion Q (new_slices family service taken made)
  new_all P Q h taken made all = all_of_new P Q h _ made all
