-- Lists with the same elements, and the pieces of lists put together.
use Rattle.std.proofs.Common.{◌≡◌, Bool, true, false, cond, ◌||◌, List, [], ◌∷◌, ◌++◌, map, reverse, refl, sym, ap, subst, ◌∙◌, true≢false, append_assoc, append-nil, IsPermutation}
use Rattle.std.specs.List.{filter, flat_map, AllByRecursion}
use Rattle.std.proofs.lemmas.List.{map-append, reverse-append}
use Rattle.std.proofs.lemmas.Grind.{flat_map-append}
use Rattle.std.proofs.lemmas.List.Elements.{All-from_recursion, filter_passes, recursion_from_All}
use Rattle.std.proofs.lemmas.List.Sorted.{IsPermutation-refl, IsPermutation-sym, IsPermutation-trans, IsPermutation-append, IsPermutation-append_comm, All-permutation}
use Rattle.kp_lemmas.proofs.ListFacts.{all_append}

module _ {X : Type 0} where
  pub same_list : {xs ys : List X} → xs ≡ ys → IsPermutation xs ys
  same_list {xs = xs} e = subst (IsPermutation xs) e (IsPermutation-refl xs)

  pub turned : {xs ys : List X} → IsPermutation xs ys → IsPermutation ys xs
  turned p = IsPermutation-sym _ _ p

  pub and_then : {xs ys zs : List X} → IsPermutation xs ys → IsPermutation ys zs → IsPermutation xs zs
  and_then p q = IsPermutation-trans _ _ _ p q

  pub joined : {xs ys us vs : List X} → IsPermutation xs ys → IsPermutation us vs → IsPermutation (xs ++ us) (ys ++ vs)
  joined p q = IsPermutation-append _ _ _ _ p q

  -- the second of three lists goes to the front
  pub to_front : (xs ys zs : List X) → IsPermutation (xs ++ (ys ++ zs)) (ys ++ (xs ++ zs))
  to_front xs ys zs =
      and_then (same_list (sym (append_assoc xs ys zs)))
      (and_then (joined (IsPermutation-append_comm xs ys) (IsPermutation-refl zs)) (same_list (append_assoc ys xs zs)))

  -- of two pairs the firsts, and then the seconds
  pub crossed : (us vs xs ys : List X) → IsPermutation ((us ++ vs) ++ (xs ++ ys)) ((us ++ xs) ++ (vs ++ ys))
  crossed us vs xs ys =
      and_then (same_list (append_assoc us vs (xs ++ ys)))
      (and_then (joined (IsPermutation-refl us) (to_front vs xs ys)) (same_list (sym (append_assoc us xs (vs ++ ys)))))

module _ {X Y : Type 0} (f : X → List Y) where
  pub pieces_of_reversed : (xs : List X) → IsPermutation (flat_map f (reverse xs)) (flat_map f xs)
  pieces_of_reversed [] = IsPermutation-refl []
  pieces_of_reversed (x ∷ xs) =
      and_then (same_list (ap (flat_map f) (reverse-append (x ∷ []) xs) ∙ flat_map-append f (reverse xs) (x ∷ [])))
      (and_then (IsPermutation-append_comm (flat_map f (reverse xs)) (flat_map f (x ∷ [])))
      (joined (same_list (append-nil (f x))) (pieces_of_reversed xs)))

  -- the pieces of elements that pass one of two tests, none both
  module _ (p q : X → Bool) (apart : (x : X) → p x ≡ true → q x ≡ false) where
    pub pieces_of_either : (xs : List X) → IsPermutation (flat_map f (filter p xs) ++ flat_map f (filter q xs)) (flat_map f (filter (λ x. p x || q x) xs))
    pieces_of_either [] = IsPermutation-refl []
    pieces_of_either (x ∷ xs) = by (p x) (q x) (apart x) (pieces_of_either xs)
      where
        by : (b c : Bool) → (b ≡ true → c ≡ false) → IsPermutation (flat_map f (filter p xs) ++ flat_map f (filter q xs)) (flat_map f (filter (λ y. p y || q y) xs))
            → IsPermutation (flat_map f (cond b (x ∷ filter p xs) (filter p xs)) ++ flat_map f (cond c (x ∷ filter q xs) (filter q xs))) (flat_map f (cond (b || c) (x ∷ filter (λ y. p y || q y) xs) (filter (λ y. p y || q y) xs)))
        by true true never rest = absurd (true≢false (never refl))
        by true false never rest = and_then (same_list (append_assoc (f x) _ _)) (joined (IsPermutation-refl (f x)) rest)
        by false true never rest = and_then (to_front _ (f x) _) (joined (IsPermutation-refl (f x)) rest)
        by false false never rest = rest

-- two pieces of each element
pub two_pieces : {X Y : Type 0} (f g : X → List Y) (xs : List X) → IsPermutation (flat_map f xs ++ flat_map g xs) (flat_map (λ x. f x ++ g x) xs)
two_pieces f g [] = IsPermutation-refl []
two_pieces f g (x ∷ xs) = and_then (crossed (f x) _ (g x) _) (joined (IsPermutation-refl (f x ++ g x)) (two_pieces f g xs))

-- pieces that are alike, element by element
pub alike_pieces : {X Y : Type 0} (f g : X → List Y) (xs : List X) → AllByRecursion (λ x. IsPermutation (f x) (g x)) xs → IsPermutation (flat_map f xs) (flat_map g xs)
alike_pieces f g [] all = IsPermutation-refl []
alike_pieces f g (x ∷ xs) all = joined all.0 (alike_pieces f g xs all.1)

pub same_pieces : {X Y : Type 0} (f g : X → List Y) (xs : List X) → AllByRecursion (λ x. f x ≡ g x) xs → flat_map f xs ≡ flat_map g xs
same_pieces f g [] all = refl
same_pieces f g (x ∷ xs) all = λ i. all.0 i ++ same_pieces f g xs all.1 i

-- pieces of pieces
pub pieces_twice : {X Y Z : Type 0} (f : Y → List Z) (g : X → List Y) (xs : List X) → flat_map f (flat_map g xs) ≡ flat_map (λ x. flat_map f (g x)) xs
pieces_twice f g [] = refl
pieces_twice f g (x ∷ xs) = flat_map-append f (g x) _ ∙ ap (λ rest. flat_map f (g x) ++ rest) (pieces_twice f g xs)

pub mapped_pieces : {X Y Z : Type 0} (h : Y → Z) (f : X → List Y) (xs : List X) → map h (flat_map f xs) ≡ flat_map (λ x. map h (f x)) xs
mapped_pieces h f [] = refl
mapped_pieces h f (x ∷ xs) = map-append h (f x) (flat_map f xs) ∙ ap (λ rest. map h (f x) ++ rest) (mapped_pieces h f xs)

pub same_itself : {X : Type 0} (xs : List X) → map (λ x. x) xs ≡ xs
same_itself [] = refl
same_itself (x ∷ xs) = ap (λ rest. x ∷ rest) (same_itself xs)

-- elements that pass do
pub passing : {X : Type 0} (p : X → Bool) (xs : List X) → AllByRecursion (λ x. p x ≡ true) (filter p xs)
passing p xs = recursion_from_All (λ x. p x ≡ true) _ (filter_passes p xs)

pub all_pass : {X : Type 0} (p : X → Bool) (xs : List X) → AllByRecursion (λ x. p x ≡ true) xs → filter p xs ≡ xs
all_pass p [] all = refl
all_pass p (x ∷ xs) all = ap (λ b. cond b (x ∷ filter p xs) (filter p xs)) all.0 ∙ ap (λ rest. x ∷ rest) (all_pass p xs all.1)

pub all_split : {X : Type 0} (P : X → Type 0) (xs ys : List X) → AllByRecursion P (xs ++ ys)
    → AllByRecursion P xs × AllByRecursion P ys
all_split P [] ys all = (tt, all)
all_split P (x ∷ xs) ys all = let parts = all_split P xs ys all.1 in ((all.0, parts.0), parts.1)

pub all_permuted : {X : Type 0} (P : X → Type 0) {xs ys : List X} → IsPermutation xs ys
    → AllByRecursion P xs → AllByRecursion P ys
all_permuted P same all =
    recursion_from_All P _ (All-permutation P _ _ same (All-from_recursion P _ all))

pub all_mapped : {X Y : Type 0} (P : Y → Type 0) (f : X → Y) (xs : List X) → AllByRecursion (λ x. P (f x)) xs → AllByRecursion P (map f xs)
all_mapped P f [] all = tt
all_mapped P f (x ∷ xs) all = (all.0, all_mapped P f xs all.1)

pub all_unmapped : {X Y : Type 0} (P : Y → Type 0) (f : X → Y) (xs : List X) → AllByRecursion P (map f xs) → AllByRecursion (λ x. P (f x)) xs
all_unmapped P f [] all = tt
all_unmapped P f (x ∷ xs) all = (all.0, all_unmapped P f xs all.1)

pub all_in_pieces : {X Y : Type 0} (P : Y → Type 0) (f : X → List Y) (xs : List X) → AllByRecursion (λ x. AllByRecursion P (f x)) xs → AllByRecursion P (flat_map f xs)
all_in_pieces P f [] all = tt
all_in_pieces P f (x ∷ xs) all = all_append P (f x) _ all.0 (all_in_pieces P f xs all.1)

pub all_of : {X : Type 0} (P : X → Type 0) → ((x : X) → P x) → (xs : List X) → AllByRecursion P xs
all_of P h [] = tt
all_of P h (x ∷ xs) = (h x, all_of P h xs)
