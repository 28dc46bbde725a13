-- What passes a test, of lists from which some are left out that give nothing that passes.
use Rattle.std.proofs.Common.{◌≡◌, ◌||◌, Bool, true, false, cond, List, [], ◌∷◌, ◌++◌, map, filter, filter_map, flat_map, slice_get, Contains, Option, Some, None, refl, sym, ap, subst, ◌∙◌}
use Rattle.std.specs.List.{find, list_any, cons_option}
use Rattle.std.proofs.lemmas.Bool.{or_from}
use Rattle.std.proofs.lemmas.List.Elements.{filter-append}
use Rattle.std.proofs.lemmas.List.Folds.{list_any-append}
use Rattle.std.proofs.lemmas.Option.{same_Some}
use Rattle.kp_lemmas.proofs.Members.{first_in, later_in}

-- what passes of two lists, one behind the other
pub same_append : {D : Type 0} (p : D → Bool) (xs bs cs ds : List D) → filter p xs ≡ filter p cs → filter p bs ≡ filter p ds → filter p (xs ++ bs) ≡ filter p (cs ++ ds)
same_append p xs bs cs ds f g = filter-append p xs bs ∙ (λ i. f i ++ g i) ∙ sym (filter-append p cs ds)

module _ {A D : Type 0} (p : D → Bool) (f : A → List D) where
  same_front : (o : Option A) (xs bs : List A) → filter p (flat_map f xs) ≡ filter p (flat_map f bs) → filter p (flat_map f (cons_option o xs)) ≡ filter p (flat_map f (cons_option o bs))
  same_front None xs bs h = h
  same_front (Some a) xs bs h = same_append p (f a) (flat_map f xs) (f a) (flat_map f bs) refl h

  empty_front : (o : Option A) (xs bs : List A) → ((a : A) → o ≡ Some a → filter p (f a) ≡ []) → filter p (flat_map f xs) ≡ filter p (flat_map f bs) → filter p (flat_map f xs) ≡ filter p (flat_map f (cons_option o bs))
  empty_front None xs bs none h = h
  empty_front (Some a) xs bs none h =
      h
      ∙ ap (λ ds. ds ++ filter p (flat_map f bs)) (sym (none a refl))
      ∙ sym (filter-append p (f a) (flat_map f bs))

  -- what is left out gives nothing
  pub narrowed : {K : Type 0} (known : K → Option A) (kept : K → Bool) → ((k : K) (a : A) → kept k ≡ false → known k ≡ Some a → filter p (f a) ≡ []) → (ks : List K) → filter p (flat_map f (filter_map known (filter kept ks))) ≡ filter p (flat_map f (filter_map known ks))
  narrowed known kept none [] = refl
  narrowed {K} known kept none (k ∷ ks) = by (kept k) refl (narrowed known kept none ks)
    where
      by : (b : Bool) → kept k ≡ b → filter p (flat_map f (filter_map known (filter kept ks))) ≡ filter p (flat_map f (filter_map known ks)) → filter p (flat_map f (filter_map known (cond b (k ∷ filter kept ks) (filter kept ks)))) ≡ filter p (flat_map f (cons_option (known k) (filter_map known ks)))
      by true is rest = same_front (known k) (filter_map known (filter kept ks)) (filter_map known ks) rest
      by false is rest = empty_front (known k) (filter_map known (filter kept ks)) (filter_map known ks) (λ a at. none k a is at) rest

-- where none passes, nothing is left
pub none_left : {D : Type 0} (p : D → Bool) (ds : List D) → list_any p ds ≡ false → filter p ds ≡ []
none_left p [] h = refl
none_left {D} p (d ∷ ds) h = by (p d) h (none_left p ds)
  where
    by : (b : Bool) → b || list_any p ds ≡ false → (list_any p ds ≡ false → filter p ds ≡ []) → cond b (d ∷ filter p ds) (filter p ds) ≡ []
    by true g rest = absurd (cc)
    by false g rest = rest g

-- the first that is found is the first that passes
found_first : {D : Type 0} (p : D → Bool) (ds : List D) → find p ds ≡ slice_get (filter p ds) 0
found_first p [] = refl
found_first {D} p (d ∷ ds) = by (p d) (found_first p ds)
  where
    by : (b : Bool) → find p ds ≡ slice_get (filter p ds) 0 → cond b (Some d) (find p ds) ≡ slice_get (cond b (d ∷ filter p ds) (filter p ds)) 0
    by true rest = refl
    by false rest = rest

-- where the same passes, the same is found
pub same_found : {D : Type 0} (p : D → Bool) (xs bs : List D) → filter p xs ≡ filter p bs → find p xs ≡ find p bs
same_found p xs bs same = found_first p xs ∙ ap (λ ds. slice_get ds 0) same ∙ sym (found_first p bs)

-- none of the values passes
pub none_mapped : {X D : Type 0} (p : D → Bool) (f : X → D) (xs : List X) → ((x : X) → Contains xs x → p (f x) ≡ false) → list_any p (map f xs) ≡ false
none_mapped p f [] h = refl
none_mapped p f (x ∷ xs) h = or_from (p (f x)) (list_any p (map f xs)) (h x (first_in x xs)) (none_mapped p f xs (λ y c. h y (later_in y x xs c)))

-- none of two lists passes
pub none_both : {D : Type 0} (p : D → Bool) (xs bs : List D) → list_any p xs ≡ false → list_any p bs ≡ false → list_any p (xs ++ bs) ≡ false
none_both p xs bs f g = list_any-append p xs bs ∙ or_from (list_any p xs) (list_any p bs) f g

-- none of a list passes that may be left out
pub none_used : {D : Type 0} (p : D → Bool) (b : Bool) (ds : List D) → list_any p ds ≡ false → list_any p (cond b ds []) ≡ false
none_used p true ds h = h
none_used p false ds h = refl

-- what is found is an element
pub found_in : {X : Type 0} (p : X → Bool) (xs : List X) (x : X) → find p xs ≡ Some x → Contains xs x
found_in p [] x h = absurd (cc)
found_in {X} p (y ∷ xs) x h = by (p y) h (found_in p xs x)
  where
    by : (b : Bool) → cond b (Some y) (find p xs) ≡ Some x → (find p xs ≡ Some x → Contains xs x) → Contains (y ∷ xs) x
    by true g later = subst (λ z. Contains (y ∷ xs) z) (same_Some y x g) (first_in y xs)
    by false g later = later_in x y xs (later g)
