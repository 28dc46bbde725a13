-- Elements in groups by their keys: the groups have each element whose key is one of theirs, once.
use Rattle.std.proofs.Common.{◌≡◌, Bool, true, false, List, [], ◌∷◌, refl, sym, ap, subst, IsPermutation}
use Rattle.std.specs.List.{filter, flat_map, list_any, AllByRecursion, IsDistinct}
use Rattle.std.proofs.lemmas.List.Sorted.{IsPermutation-refl}
use Rattle.kp_pack_laws.proofs.Shuffles.{same_list, and_then, joined, pieces_of_either}
use Rattle.kp_pack_laws.proofs.Distinct.{any_of_none}

none_left : {X : Type 0} (xs : List X) → filter (λ x. false) xs ≡ []
none_left [] = refl
none_left (x ∷ xs) = none_left xs

module _ {K : Type 0} (same : K → K → Bool) (exact : (x y : K) → same x y ≡ true → x ≡ y) where
  apart : (g : K) (gs : List K) → AllByRecursion (λ h. same g h ≡ false) gs → (k : K) → same k g ≡ true → list_any (same k) gs ≡ false
  apart g gs all k e = subst (λ l. list_any (same l) gs ≡ false) (sym (exact k g e)) (any_of_none _ gs all)

  pub in_groups : {X Y : Type 0} (key : X → K) (f : X → List Y) (xs : List X) (gs : List K) → IsDistinct same gs
      → IsPermutation (flat_map (λ g. flat_map f (filter (λ x. same (key x) g) xs)) gs) (flat_map f (filter (λ x. list_any (same (key x)) gs) xs))
  unfolding IsDistinct
  in_groups key f xs [] d = same_list (sym (ap (flat_map f) (none_left xs)))
  in_groups key f xs (g ∷ gs) d =
      and_then (joined (IsPermutation-refl (flat_map f (filter (λ x. same (key x) g) xs))) (in_groups key f xs gs d.1))
      (pieces_of_either f (λ x. same (key x) g) (λ x. list_any (same (key x)) gs) (λ x e. apart g gs d.0 (key x) e) xs)
