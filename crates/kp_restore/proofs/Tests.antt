-- What tests say of all elements of a list.
use Rattle.std.proofs.Common.{◌≡◌, Bool, true, false, cond, not, ◌&&◌, ◌||◌, List, [], ◌∷◌, ◌++◌, refl, ap, ◌∙◌}
use Rattle.std.specs.List.{list_all, list_any, filter, flat_map, AllByRecursion}
use Rattle.kp_object_defs.specs.Desired.{is_empty}
use Rattle.std.proofs.lemmas.Bool.{and_parts, and_from, false≢true, not-true}
use Rattle.std.proofs.lemmas.List.Folds.{list_all-append}

-- what follows from two tests
pub all_both : {X : Type 0} (p q r : X → Bool) → ((x : X) → p x ≡ true → q x ≡ true → r x ≡ true) → (xs : List X) → list_all p xs ≡ true → list_all q xs ≡ true → list_all r xs ≡ true
all_both p q r f [] g h = refl
all_both p q r f (x ∷ xs) g h =
    let k = and_parts _ _ g in
    let l = and_parts _ _ h in
    and_from _ _ (f x k.0 l.0) (all_both p q r f xs k.1 l.1)

-- what follows from a fact
pub all_true : {X : Type 0} (p : X → Bool) (P : X → Type 0) → ((x : X) → P x → p x ≡ true) → (xs : List X) → AllByRecursion P xs → list_all p xs ≡ true
all_true p P f [] a = refl
all_true p P f (x ∷ xs) a = and_from _ _ (f x a.0) (all_true p P f xs a.1)

-- none passes where all fail
pub none_of : {X : Type 0} (p : X → Bool) (xs : List X) → not (list_any p xs) ≡ list_all (λ x. not (p x)) xs
none_of p [] = refl
none_of p (x ∷ xs) = elim (p x) as (λ b. not (b || list_any p xs) ≡ (not b && list_all (λ y. not (p y)) xs)) [ true ↦ refl | false ↦ none_of p xs ]

-- a test of lists together
pub all_flat : {A B : Type 0} (p : B → Bool) (f : A → List B) (xs : List A) → list_all p (flat_map f xs) ≡ list_all (λ x. list_all p (f x)) xs
all_flat p f [] = refl
all_flat p f (x ∷ xs) = list_all-append p (f x) (flat_map f xs) ∙ ap (λ b. list_all p (f x) && b) (all_flat p f xs)

-- what none pass
pub filter_none : {X : Type 0} (p : X → Bool) (xs : List X) → list_all (λ x. not (p x)) xs ≡ true → filter p xs ≡ []
filter_none p [] h = refl
filter_none p (x ∷ xs) h =
    let k = and_parts _ _ h in
    ap (λ b. cond b (x ∷ filter p xs) (filter p xs)) (not-true (p x) k.0) ∙ filter_none p xs k.1

-- a list with an element isn't empty
pub some_behind : {X : Type 0} (xs : List X) (y : X) (ys : List X) → is_empty (xs ++ y ∷ ys) ≡ false
some_behind [] y ys = refl
some_behind (x ∷ xs) y ys = refl

pub no_items : {A : Type 0} (xs : List A) → is_empty xs ≡ true → xs ≡ []
no_items [] h = refl
no_items (x ∷ xs) h = absurd (false≢true h)
