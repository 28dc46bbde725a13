-- Lists whose first element that passes a test is changed, and how many pass another test.
use Rattle.std.proofs.Common.{◌≡◌, ℕ, zero, suc, ◌≤◌, Bool, true, false, List, [], ◌∷◌, ◌++◌, map, filter, length, cond, Some, None, slice_get, refl, sym, ap, ◌∙◌, arith}
use Rattle.std.specs.List.{find}
use Rattle.std.proofs.lemmas.Bool.{false≢true}
use Rattle.kp_track_defs.specs.Entries.{change_first}

-- ---- How many pass

-- one more element, where who passes the first test passes the second
one_fewer : {A : Type 0} (a b : Bool) (x : A) (ps qs : List A) → (a ≡ true → b ≡ true)
    → length ps ≤ length qs → length (cond a (x ∷ ps) ps) ≤ length (cond b (x ∷ qs) qs)
one_fewer true true x ps qs h few = omega arith
one_fewer true false x ps qs h few = absurd (false≢true (h refl))
one_fewer false true x ps qs h few = omega arith
one_fewer false false x ps qs h few = few

-- fewer elements pass the stronger test
pub fewer : {A : Type 0} (p q : A → Bool) → ((x : A) → p x ≡ true → q x ≡ true) → (xs : List A)
    → length (filter p xs) ≤ length (filter q xs)
fewer p q weaker [] = omega arith
fewer p q weaker (x ∷ xs) = one_fewer (p x) (q x) x _ _ (weaker x) (fewer p q weaker xs)

-- one more element, of which another stands in the other list
one_fewer_of : {A : Type 0} (a b : Bool) (y x : A) (ps qs : List A) → (a ≡ true → b ≡ true)
    → length ps ≤ length qs → length (cond a (y ∷ ps) ps) ≤ length (cond b (x ∷ qs) qs)
one_fewer_of true true y x ps qs h few = omega arith
one_fewer_of true false y x ps qs h few = absurd (false≢true (h refl))
one_fewer_of false true y x ps qs h few = omega arith
one_fewer_of false false y x ps qs h few = few

-- fewer of the changed elements pass, where who passes then passed before
pub fewer_of_map : {A : Type 0} (p : A → Bool) (f : A → A)
    → ((x : A) → p (f x) ≡ true → p x ≡ true) → (xs : List A)
    → length (filter p (map f xs)) ≤ length (filter p xs)
fewer_of_map p f back [] = omega arith
fewer_of_map p f back (x ∷ xs) =
    one_fewer_of (p (f x)) (p x) (f x) x _ _ (back x) (fewer_of_map p f back xs)

pub fewer_of_changed : {A : Type 0} (p t : A → Bool) (f : A → A)
    → ((x : A) → t x ≡ true → p (f x) ≡ true → p x ≡ true) → (xs : List A)
    → length (filter p (change_first t f xs)) ≤ length (filter p xs)
fewer_of_changed p t f back [] = omega arith
fewer_of_changed p t f back (x ∷ xs) =
    by_test (t x) (back x) (fewer_of_changed p t f back xs)
  where
    by_test : (b : Bool) → (b ≡ true → p (f x) ≡ true → p x ≡ true)
        → length (filter p (change_first t f xs)) ≤ length (filter p xs)
        → length (filter p (cond b (f x ∷ xs) (x ∷ change_first t f xs))) ≤ length (filter p (x ∷ xs))
    by_test true h few =
        one_fewer_of (p (f x)) (p x) (f x) x _ _ (h refl) (let same : length (filter p xs) ≤ length (filter p xs) = omega arith in same)
    by_test false h few = one_fewer (p x) (p x) x _ _ (λ k. k) few

-- of two lists, one behind the other
pub pass_append : {A : Type 0} (p : A → Bool) (xs ys : List A)
    → filter p (xs ++ ys) ≡ filter p xs ++ filter p ys
pass_append p [] ys = refl
pass_append p (x ∷ xs) ys = by_test (p x) (pass_append p xs ys)
  where
    by_test : (b : Bool) → filter p (xs ++ ys) ≡ filter p xs ++ filter p ys
        → cond b (x ∷ filter p (xs ++ ys)) (filter p (xs ++ ys)) ≡ cond b (x ∷ filter p xs) (filter p xs) ++ filter p ys
    by_test true more = ap (λ zs. x ∷ zs) more
    by_test false more = more

-- where nothing is found, nothing passes
pub none_passes_unfound : {A : Type 0} (p : A → Bool) (xs : List A) → find p xs ≡ None
    → filter p xs ≡ []
none_passes_unfound p [] h = refl
none_passes_unfound p (x ∷ xs) h = by_test (p x) h (none_passes_unfound p xs)
  where
    by_test : (b : Bool) → cond b (Some x) (find p xs) ≡ None → (find p xs ≡ None → filter p xs ≡ [])
        → cond b (x ∷ filter p xs) (filter p xs) ≡ []
    by_test true h more = cc
    by_test false h more = more h

-- ---- At a place

-- an element that doesn't pass the test stays at its place
pub stays_at : {A : Type 0} (t : A → Bool) (f : A → A) (xs : List A) (i : ℕ) (x : A)
    → slice_get xs i ≡ Some x → t x ≡ false → slice_get (change_first t f xs) i ≡ Some x
stays_at t f [] i x at out = at
stays_at t f (y ∷ xs) zero x at out =
    first (t y) (let same : y ≡ x = cc in ap t same ∙ out)
  where
    first : (b : Bool) → b ≡ false → slice_get (cond b (f y ∷ xs) (y ∷ change_first t f xs)) zero ≡ Some x
    first true h = absurd (false≢true (sym h))
    first false h = at
stays_at t f (y ∷ xs) (suc i) x at out = by_test (t y) (stays_at t f xs i x at out)
  where
    by_test : (b : Bool) → slice_get (change_first t f xs) i ≡ Some x
        → slice_get (cond b (f y ∷ xs) (y ∷ change_first t f xs)) (suc i) ≡ Some x
    by_test true more = at
    by_test false more = more

-- so it does where elements come behind
pub stays_before : {A : Type 0} (xs ys : List A) (i : ℕ) (x : A) → slice_get xs i ≡ Some x
    → slice_get (xs ++ ys) i ≡ Some x
stays_before [] ys i x at = cc
stays_before (y ∷ xs) ys zero x at = at
stays_before (y ∷ xs) ys (suc i) x at = stays_before xs ys i x at

-- a changed element stands at its place
pub changed_at : {A : Type 0} (f : A → A) (xs : List A) (i : ℕ) (x : A) → slice_get xs i ≡ Some x
    → slice_get (map f xs) i ≡ Some (f x)
changed_at f [] i x at = cc
changed_at f (y ∷ xs) zero x at = let same : y ≡ x = cc in ap (λ z. Some (f z)) same
changed_at f (y ∷ xs) (suc i) x at = changed_at f xs i x at
