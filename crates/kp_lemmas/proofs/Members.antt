-- Elements of lists that are made of others.
use Rattle.std.proofs.Common.{◌≡◌, ◌⊎◌, inl, inr, Bool, true, false, cond, refl, sym, ap, subst, ◌∙◌, suc, zero, Option, Some, None, List, [], ◌∷◌, map, reverse, Contains, filter, filter_map, flat_map, arith, le_of_suc-le-suc, suc-le-suc, zero-lt-suc}
use Rattle.std.specs.List.{cons_option, list_all, list_any}
use Rattle.std.proofs.lemmas.Bool.{and_from, and_parts, or_parts, or_left, or_right}
use Rattle.std.proofs.lemmas.List.Folds.{Any-from_list_any}
use Rattle.std.proofs.lemmas.List.Elements.{Contains-append_left, Contains-append_right, Contains-append_cases}
use Rattle.std.proofs.lemmas.List.Sorted.{Contains-permutation, IsPermutation-sym, IsPermutation-reverse}
use Rattle.kp_lemmas.proofs.ListFacts.{test_append}

-- the first element is in the list
pub first_in : {A : Type 0} (x : A) (xs : List A) → Contains (x ∷ xs) x
first_in x xs = (0, zero-lt-suc _, refl)

-- what is behind the first element is in the list
pub later_in : {A : Type 0} (x y : A) (xs : List A) → Contains xs x → Contains (y ∷ xs) x
later_in x y xs (k, l, e) = (suc k, suc-le-suc l, e)

-- the empty list has no element
pub none_in : {A : Type 0} (x : A) → Contains [] x → ⊥
none_in x (k, l, e) = omega arith

-- an element is the first one, or is behind it
pub in_cases : {A : Type 0} (x y : A) (xs : List A) → Contains (y ∷ xs) x → (y ≡ x) ⊎ Contains xs x
in_cases x y xs (zero, l, e) = inl e
in_cases x y xs (suc k, l, e) = inr (k, le_of_suc-le-suc l, e)

-- an element that passes is among those that pass
pub in_filter : {A : Type 0} (p : A → Bool) (x : A) (xs : List A) → Contains xs x → p x ≡ true → Contains (filter p xs) x
in_filter p x [] c h = absurd (none_in x c)
in_filter p x (y ∷ ys) c h =
    elim (in_cases x y ys c) [
      | inl e ↦ subst (λ b. Contains (cond b (y ∷ filter p ys) (filter p ys)) x) (sym (ap p e ∙ h)) (subst (Contains (y ∷ filter p ys)) e (first_in y (filter p ys)))
      | inr d ↦
          let rest = in_filter p x ys d h in
          elim (p y) as (λ b. Contains (cond b (y ∷ filter p ys) (filter p ys)) x) [ true ↦ later_in x y (filter p ys) rest | false ↦ rest ]
    ]

from_filter_by : {A : Type 0} (p : A → Bool) (x y : A) (ys : List A) → (Contains (filter p ys) x → Contains ys x × (p x ≡ true)) → (b : Bool) → p y ≡ b
    → Contains (cond b (y ∷ filter p ys) (filter p ys)) x → Contains (y ∷ ys) x × (p x ≡ true)
from_filter_by p x y ys rest true e c =
    elim (in_cases x y (filter p ys) c) [
      | inl is ↦ (subst (Contains (y ∷ ys)) is (first_in y ys), ap p (sym is) ∙ e)
      | inr d ↦ let (in_ys, passes) = rest d in (later_in x y ys in_ys, passes)
    ]
from_filter_by p x y ys rest false e c = let (in_ys, passes) = rest c in (later_in x y ys in_ys, passes)

-- and each of those is an element that passes
pub from_filter : {A : Type 0} (p : A → Bool) (x : A) (xs : List A) → Contains (filter p xs) x → Contains xs x × (p x ≡ true)
from_filter p x [] c = absurd (none_in x c)
from_filter p x (y ∷ ys) c = from_filter_by p x y ys (from_filter p x ys) (p y) refl c

from_filter_map_by : {A B : Type 0} (h : A → Option B) (y : B) (x : A) (xs : List A) (more : List B) → (Contains more y → (w : A) × Contains xs w × (h w ≡ Some y)) → (o : Option B) → h x ≡ o
    → Contains (cons_option o more) y → (w : A) × Contains (x ∷ xs) w × (h w ≡ Some y)
from_filter_map_by h y x xs more later None e c = let (w, d, same) = later c in (w, later_in w x xs d, same)
from_filter_map_by h y x xs more later (Some z) e c =
    elim (in_cases y z more c) [
      | inl d ↦ (x, first_in x xs, e ∙ ap (λ v. Some v) d)
      | inr d ↦ let (w, k, same) = later d in (w, later_in w x xs k, same)
    ]

-- what a filter with a function leaves is made of an element
pub from_filter_map : {A B : Type 0} (h : A → Option B) (y : B) (xs : List A) → Contains (filter_map h xs) y → (x : A) × Contains xs x × (h x ≡ Some y)
from_filter_map h y [] c = absurd (none_in y c)
from_filter_map h y (x ∷ xs) c = from_filter_map_by h y x xs (filter_map h xs) (from_filter_map h y xs) (h x) refl c

-- none passes a test that always fails
pub none_pass : {A : Type 0} (p : A → Bool) → ((x : A) → p x ≡ false) → (xs : List A) → filter p xs ≡ []
none_pass p never [] = refl
none_pass p never (x ∷ xs) = ap (λ b. cond b (x ∷ filter p xs) (filter p xs)) (never x) ∙ none_pass p never xs

-- an element's value is in the mapped list
pub in_map : {A B : Type 0} (f : A → B) (x : A) (xs : List A) → Contains xs x → Contains (map f xs) (f x)
in_map f x [] c = absurd (none_in x c)
in_map f x (y ∷ ys) c = elim (in_cases x y ys c) [ inl e ↦ subst (λ z. Contains (map f (y ∷ ys)) (f z)) e (first_in (f y) (map f ys)) | inr d ↦ later_in (f x) (f y) (map f ys) (in_map f x ys d) ]

-- and each value there is an element's
pub from_map : {A B : Type 0} (f : A → B) (z : B) (xs : List A) → Contains (map f xs) z → (x : A) × Contains xs x × (f x ≡ z)
from_map f z [] c = absurd (none_in z c)
from_map f z (y ∷ ys) c =
    elim (in_cases z (f y) (map f ys) c) [
      | inl e ↦ (y, first_in y ys, e)
      | inr d ↦ let (x, in_ys, is) = from_map f z ys d in (x, later_in x y ys in_ys, is)
    ]

-- each element of pieces together is in the piece of an element
pub from_flat_map : {A B : Type 0} (f : A → List B) (z : B) (xs : List A) → Contains (flat_map f xs) z → (x : A) × Contains xs x × Contains (f x) z
from_flat_map f z [] c = absurd (none_in z c)
from_flat_map f z (y ∷ ys) c =
    elim (Contains-append_cases (f y) (flat_map f ys) z c) [
      | inl d ↦ (y, first_in y ys, d)
      | inr d ↦ let (x, in_ys, is) = from_flat_map f z ys d in (x, later_in x y ys in_ys, is)
    ]

-- an element of a piece is in the pieces together
pub in_flat_map : {A B : Type 0} (f : A → List B) (x : A) (z : B) (xs : List A) → Contains xs x → Contains (f x) z → Contains (flat_map f xs) z
in_flat_map f x z [] c d = absurd (none_in x c)
in_flat_map f x z (y ∷ ys) c d =
    elim (in_cases x y ys c) [
      | inl e ↦ Contains-append_left (f y) (flat_map f ys) z (subst (λ w. Contains (f w) z) (sym e) d)
      | inr k ↦ Contains-append_right (f y) (flat_map f ys) z (in_flat_map f x z ys k d)
    ]

-- where no element passes, an element doesn't
pub none_passes : {A : Type 0} (test : A → Bool) (x : A) (xs : List A) → list_any test xs ≡ false → Contains xs x → test x ≡ false
none_passes test x [] h c = absurd (none_in x c)
none_passes test x (y ∷ ys) h c =
    let parts = or_parts (test y) (list_any test ys) h in
    elim (in_cases x y ys c) [ inl e ↦ ap test (sym e) ∙ parts.0 | inr d ↦ none_passes test x ys parts.1 d ]

-- where an element passes, some does
pub any_from : {A : Type 0} (test : A → Bool) (x : A) (xs : List A) → Contains xs x → test x ≡ true → list_any test xs ≡ true
any_from test x [] c h = absurd (none_in x c)
any_from test x (y ∷ ys) c h =
    elim (in_cases x y ys c) [
      | inl e ↦ or_left (test y) (list_any test ys) (ap test e ∙ h)
      | inr d ↦ or_right (test y) (list_any test ys) (any_from test x ys d h)
    ]

-- where some element passes, there is one
pub passing : {X : Type 0} (p : X → Bool) (xs : List X) → list_any p xs ≡ true
    → (x : X) × Contains xs x × (p x ≡ true)
passing p xs h =
    let (k, x, below, at, passes) = Any-from_list_any p xs h in (x, (k, below, at), passes)

-- what holds of all elements is a test of the list
pub all_from : {A : Type 0} (test : A → Bool) (xs : List A) → ((x : A) → Contains xs x → test x ≡ true) → list_all test xs ≡ true
all_from test [] h = refl
all_from test (x ∷ xs) h = and_from (test x) (list_all test xs) (h x (first_in x xs)) (all_from test xs (λ y c. h y (later_in y x xs c)))

-- and what a test says of all elements it says of each
pub from_all : {A : Type 0} (test : A → Bool) (xs : List A) → list_all test xs ≡ true → (x : A) → Contains xs x → test x ≡ true
from_all test [] h x c = absurd (none_in x c)
from_all test (y ∷ xs) h x c =
    let parts = and_parts (test y) (list_all test xs) h in
    elim (in_cases x y xs c) [ inl e ↦ ap test (sym e) ∙ parts.0 | inr d ↦ from_all test xs parts.1 x d ]

-- those that pass all pass
pub filter_passes : {A : Type 0} (test : A → Bool) (xs : List A) → list_all test (filter test xs) ≡ true
filter_passes test xs = all_from test (filter test xs) (λ x c. (from_filter test x xs c).1)

-- a list without elements is empty
pub without_elements : {A : Type 0} (xs : List A) → ((x : A) → Contains xs x → ⊥) → xs ≡ []
without_elements [] h = refl
without_elements (x ∷ xs) h = absurd (h x (first_in x xs))

-- a test of the values of all elements
pub all_map : {A B : Type 0} (test : B → Bool) (f : A → B) (xs : List A)
    → ((x : A) → Contains xs x → test (f x) ≡ true) → list_all test (map f xs) ≡ true
all_map test f [] h = refl
all_map test f (x ∷ xs) h =
    and_from (test (f x)) (list_all test (map f xs)) (h x (first_in x xs))
    (all_map test f xs (λ y c. h y (later_in y x xs c)))

-- a test of the pieces of all elements
pub all_flat_map : {A B : Type 0} (test : B → Bool) (f : A → List B) (xs : List A)
    → ((x : A) → Contains xs x → list_all test (f x) ≡ true) → list_all test (flat_map f xs) ≡ true
all_flat_map test f [] h = refl
all_flat_map test f (x ∷ xs) h =
    test_append test (f x) (flat_map f xs) (h x (first_in x xs))
    (all_flat_map test f xs (λ y c. h y (later_in y x xs c)))

-- a reversed list has the same elements
pub in_reverse : {A : Type 0} (x : A) (xs : List A) → Contains xs x → Contains (reverse xs) x
in_reverse x xs c = Contains-permutation xs (reverse xs) x (IsPermutation-reverse xs) c

pub from_reverse : {A : Type 0} (x : A) (xs : List A) → Contains (reverse xs) x → Contains xs x
from_reverse x xs c =
    Contains-permutation (reverse xs) xs x
    (IsPermutation-sym xs (reverse xs) (IsPermutation-reverse xs)) c
