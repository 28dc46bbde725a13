-- What is found by key in lists of entries that are made of others, and lists of entries in order.
use Rattle.std.proofs.Common.{◌≡◌, true, false, cond, ◌&&◌, List, [], ◌∷◌, ◌++◌, map, Some, refl, sym, ap, ◌∙◌, T}
use Rattle.std.specs.declared.cmp.Ordering.{Ordering}
use Rattle.std.specs.Ordering.{eq_by_cmp, is_lt}
use Rattle.std.specs.Option.{option_or}
use Rattle.std.specs.List.{flat_map}
use Rattle.std.specs.Cmp.{IsTotalOrder}
use Rattle.std.specs.FinMap.{find, is_sorted, entries, from_entries, from_sorted, get-entries, get-from_entries, get-from_sorted, entries-from_sorted, same_map, IsAntisymmetric}
use Rattle.std.specs.FinMap.Entries.{below_all}

module _ {K X : Type 0} (R : K → K → Ordering) where
  -- the first answer of two lists
  pub found_in_both : (q : K) (xs ys : List (K × X)) → find R q (xs ++ ys) ≡ option_or (find R q xs) (find R q ys)
  found_in_both q [] ys = refl
  found_in_both q (e ∷ xs) ys =
      elim (eq_by_cmp R q e.0) as (λ b. cond b (Some e.1) (find R q (xs ++ ys)) ≡ option_or (cond b (Some e.1) (find R q xs)) (find R q ys)) [
        | true ↦ refl
        | false ↦ found_in_both q xs ys
      ]

  -- each list may give way to one that answers as it does
  pub found_in_each : {A : Type 0} (f g : A → List (K × X)) (q : K) → ((a : A) → find R q (f a) ≡ find R q (g a)) → (xs : List A) → find R q (flat_map f xs) ≡ find R q (flat_map g xs)
  found_in_each f g q same [] = refl
  found_in_each f g q same (a ∷ rest) =
      found_in_both q (f a) (flat_map f rest)
      ∙ ap (λ r. option_or r (find R q (flat_map f rest))) (same a)
      ∙ ap (option_or (find R q (g a))) (found_in_each f g q same rest)
      ∙ sym (found_in_both q (g a) (flat_map g rest))

  -- a list whose end gives way to one that answers as it does
  pub found_before : (q : K) (xs ys zs : List (K × X)) → find R q ys ≡ find R q zs → find R q (xs ++ ys) ≡ find R q (xs ++ zs)
  found_before q xs ys zs same = found_in_both q xs ys ∙ ap (option_or (find R q xs)) same ∙ sym (found_in_both q xs zs)

  -- the entries of a list's map answer as the list does
  pub found_in_map : IsTotalOrder R → (q : K) (es : List (K × X)) → find R q (entries (from_entries {R = R} es)) ≡ find R q es
  found_in_map total q es = sym (get-entries (from_entries {R = R} es) q) ∙ get-from_entries total es q

  -- a sorted list is the entries of its map
  pub sorted_entries : IsTotalOrder R → IsAntisymmetric R → (es : List (K × X)) → T (is_sorted R es) → entries (from_entries {R = R} es) ≡ es
  sorted_entries total exact es h =
      ap entries (same_map total exact (from_entries {R = R} es) (from_sorted {R = R} es) (λ q. get-from_entries total es q ∙ sym (get-from_sorted R es q h)))
      ∙ entries-from_sorted R es h

module _ {K X Y : Type 0} (R : K → K → Ordering) where
  -- the order of entries is that of their keys
  pub below_keys : {A : Type 0} (key : A → K) (f : A → X) (g : A → Y) (k : K) (xs : List A) → below_all R k (map (λ a. (key a, f a)) xs) ≡ below_all R k (map (λ a. (key a, g a)) xs)
  below_keys key f g k [] = refl
  below_keys key f g k (a ∷ xs) = ap (λ b. is_lt (R k (key a)) && b) (below_keys key f g k xs)

  pub sorted_keys : {A : Type 0} (key : A → K) (f : A → X) (g : A → Y) (xs : List A) → is_sorted R (map (λ a. (key a, f a)) xs) ≡ is_sorted R (map (λ a. (key a, g a)) xs)
  sorted_keys key f g [] = refl
  sorted_keys key f g (a ∷ xs) =
      ap (λ b. b && is_sorted R (map (λ a. (key a, f a)) xs)) (below_keys key f g (key a) xs)
      ∙ ap (λ b. below_all R (key a) (map (λ a. (key a, g a)) xs) && b) (sorted_keys key f g xs)
