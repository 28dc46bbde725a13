-- Rows among lists, and lists without a row.
use Rattle.std.proofs.Common.{◌≡◌, ◌≢◌, ◌⊎◌, ℕ, zero, suc, ◌==◌, Bool, true, false, not, List, [], ◌∷◌, ◌++◌, map, filter, length, cond, Option, Some, None, option_map, slice_get, refl, sym, ap, ◌∙◌, subst, inl, inr, arith, ne_eqb}
use Rattle.std.specs.List.{find}
use Rattle.std.proofs.lemmas.Bool.{eqb-true, false≢true}
use Rattle.futures.specs.LinkedLists.{IsApart, IsIn, without}
use Rattle.futures.proofs.LinkLemmas.{IsIn-without}

-- ---- Rows among rows

pub in_left : (row : ℕ) (xs ys : List ℕ) → IsIn row xs → IsIn row (xs ++ ys)
in_left row [] ys found = absurd found
in_left row (x ∷ xs) ys (inl same) = inl same
in_left row (x ∷ xs) ys (inr found) = inr (in_left row xs ys found)

pub in_last : (row : ℕ) (xs : List ℕ) → IsIn row (xs ++ row ∷ [])
in_last row [] = inl refl
in_last row (x ∷ xs) = inr (in_last row xs)

pub in_either : (row last : ℕ) (xs : List ℕ) → IsIn row (xs ++ last ∷ []) → IsIn row xs ⊎ (last ≡ row)
in_either row last [] (inl same) = inr same
in_either row last [] (inr nowhere) = absurd nowhere
in_either row last (x ∷ xs) (inl same) = inl (inl same)
in_either row last (x ∷ xs) (inr found) =
    elim (in_either row last xs found) [ inl there ↦ inl (inr there) | inr same ↦ inr same ]

pub in_without : (key row : ℕ) (xs : List ℕ) → IsIn row xs → row ≢ key → IsIn row (without key xs)
in_without key row [] found differs = found
in_without key row (x ∷ xs) (inl same) differs = here (x == key) refl
  where
    here : (b : Bool) → (x == key) ≡ b → IsIn row (cond (not b) (x ∷ without key xs) (without key xs))
    here true is = absurd (differs (sym same ∙ eqb-true x key is))
    here false is = inl same
in_without key row (x ∷ xs) (inr found) differs = there (not (x == key)) (in_without key row xs found differs)
  where
    there : (b : Bool) → IsIn row (without key xs) → IsIn row (cond b (x ∷ without key xs) (without key xs))
    there true more = inr more
    there false more = more

-- ---- Tests of rows

-- lists are filtered without a row, or lose it when they are filtered
pub without_filter : (q : ℕ → Bool) (key : ℕ) (xs : List ℕ) → without key (filter q xs) ≡ filter q (without key xs)
without_filter q key [] = refl
without_filter q key (x ∷ xs) = step (q x) (not (x == key)) refl refl (without_filter q key xs)
  where
    step : (a b : Bool) → q x ≡ a → not (x == key) ≡ b → without key (filter q xs) ≡ filter q (without key xs)
        → without key (cond a (x ∷ filter q xs) (filter q xs)) ≡ filter q (cond b (x ∷ without key xs) (without key xs))
    step true true at is more =
        (λ i. cond (is i) (x ∷ without key (filter q xs)) (without key (filter q xs)))
        ∙ (λ i. x ∷ more i)
        ∙ sym (λ i. cond (at i) (x ∷ filter q (without key xs)) (filter q (without key xs)))
    step true false at is more =
        (λ i. cond (is i) (x ∷ without key (filter q xs)) (without key (filter q xs))) ∙ more
    step false true at is more =
        more ∙ sym (λ i. cond (at i) (x ∷ filter q (without key xs)) (filter q (without key xs)))
    step false false at is more = more

-- tests that agree on the rows
pub filter_same : (p q : ℕ → Bool) (xs : List ℕ) → ((x : ℕ) → IsIn x xs → p x ≡ q x) → filter p xs ≡ filter q xs
filter_same p q [] same = refl
filter_same p q (x ∷ xs) same =
    let more = filter_same p q xs (λ y found. same y (inr found)) in
    λ i. cond (same x (inl refl) i) (x ∷ more i) (more i)

pub map_same : {B : Type 0} (f g : ℕ → B) (xs : List ℕ) → ((x : ℕ) → IsIn x xs → f x ≡ g x) → map f xs ≡ map g xs
map_same f g [] same = refl
map_same f g (x ∷ xs) same =
    let more = map_same f g xs (λ y found. same y (inr found)) in
    λ i. same x (inl refl) i ∷ more i

pub in_filter : (q : ℕ → Bool) (row : ℕ) (xs : List ℕ) → IsIn row (filter q xs) → IsIn row xs
in_filter q row [] found = found
in_filter q row (x ∷ xs) found = step (q x) (in_filter q row xs) found
  where
    step : (b : Bool) → (IsIn row (filter q xs) → IsIn row xs)
        → IsIn row (cond b (x ∷ filter q xs) (filter q xs)) → IsIn row (x ∷ xs)
    step true more (inl same) = inl same
    step true more (inr there) = inr (more there)
    step false more there = inr (more there)

pub filter_last : (q : ℕ → Bool) (xs : List ℕ) (row : ℕ) → filter q (xs ++ row ∷ []) ≡ filter q xs ++ cond (q row) (row ∷ []) []
filter_last q [] row = refl
filter_last q (x ∷ xs) row = step (q x) (filter_last q xs row)
  where
    step : (b : Bool) → filter q (xs ++ row ∷ []) ≡ filter q xs ++ cond (q row) (row ∷ []) []
        → cond b (x ∷ filter q (xs ++ row ∷ [])) (filter q (xs ++ row ∷ [])) ≡ cond b (x ∷ filter q xs) (filter q xs) ++ cond (q row) (row ∷ []) []
    step true more = ap (λ ys. x ∷ ys) more
    step false more = more

pub map_last : {B : Type 0} (f : ℕ → B) (xs : List ℕ) (row : ℕ) → map f (xs ++ row ∷ []) ≡ map f xs ++ f row ∷ []
map_last f [] row = refl
map_last f (x ∷ xs) row = ap (λ ys. f x ∷ ys) (map_last f xs row)

-- a row whose value doesn't pass isn't missed
pub dead_without : {B : Type 0} (e : ℕ → B) (w : B → Bool) (key : ℕ) (xs : List ℕ) → w (e key) ≡ false
    → filter w (map e (without key xs)) ≡ filter w (map e xs)
dead_without e w key [] fails = refl
dead_without {B} e w key (x ∷ xs) fails = step (x == key) refl (dead_without e w key xs fails)
  where
    step : (b : Bool) → (x == key) ≡ b → filter w (map e (without key xs)) ≡ filter w (map e xs)
        → filter w (map e (cond (not b) (x ∷ without key xs) (without key xs))) ≡ cond (w (e x)) (e x ∷ filter w (map e xs)) (filter w (map e xs))
    step true is more =
        let out : w (e x) ≡ false = ap (λ y. w (e y)) (eqb-true x key is) ∙ fails in
        more ∙ sym (λ i. cond (out i) (e x ∷ filter w (map e xs)) (filter w (map e xs)))
    step false is more = λ i. cond (w (e x)) (e x ∷ more i) (more i)

-- ---- Rows apart

pub apart_without : (key : ℕ) (xs : List ℕ) → IsApart xs → IsApart (without key xs)
apart_without key [] apart = apart
apart_without key (x ∷ xs) apart = step (not (x == key)) (apart_without key xs apart.1)
  where
    step : (b : Bool) → IsApart (without key xs) → IsApart (cond b (x ∷ without key xs) (without key xs))
    step true more = (λ found. apart.0 (IsIn-without key x xs found).0, more)
    step false more = more

pub apart_push : (row : ℕ) (xs : List ℕ) → IsApart xs → ¬ IsIn row xs → IsApart (xs ++ row ∷ [])
apart_push row [] apart absent = (λ nowhere. nowhere, tt)
apart_push row (x ∷ xs) apart absent = (
  λ found. elim (in_either x row xs found) [ inl there ↦ apart.0 there | inr same ↦ absent (inl (sym same)) ],
  apart_push row xs apart.1 (λ found. absent (inr found)),
)

-- ---- Rows that are found

-- what is found among those that pass a wider test
pub find_filter : (p p' q : ℕ → Bool) (xs : List ℕ) → ((x : ℕ) → IsIn x xs → p x ≡ p' x)
    → ((x : ℕ) → p' x ≡ true → q x ≡ true) → find p (filter q xs) ≡ find p' xs
find_filter p p' q [] same wide = refl
find_filter p p' q (x ∷ xs) same wide =
    step (q x) (p' x) refl refl (find_filter p p' q xs (λ y found. same y (inr found)) wide)
  where
    step : (a b : Bool) → q x ≡ a → p' x ≡ b → find p (filter q xs) ≡ find p' xs
        → find p (cond a (x ∷ filter q xs) (filter q xs)) ≡ cond b (Some x) (find p' xs)
    step true b at is more = λ i. cond ((same x (inl refl) ∙ is) i) (Some x) (more i)
    step false true at is more = absurd (false≢true (sym at ∙ wide x is))
    step false false at is more = more

-- what is found stands among the rows and passes
pub found_in : (p : ℕ → Bool) (xs : List ℕ) (row : ℕ) → find p xs ≡ Some row → IsIn row xs × (p row ≡ true)
found_in p [] row found = cc
found_in p (x ∷ xs) row found = step (p x) refl (found_in p xs row) found
  where
    step : (b : Bool) → p x ≡ b → (find p xs ≡ Some row → IsIn row xs × (p row ≡ true))
        → cond b (Some x) (find p xs) ≡ Some row → IsIn row (x ∷ xs) × (p row ≡ true)
    step true is more here = let same : x ≡ row = cc in (inl same, sym (ap p same) ∙ is)
    step false is more there = (inr (more there).0, (more there).1)

pub find_map : {B : Type 0} (q : B → Bool) (e : ℕ → B) (xs : List ℕ) → find q (map e xs) ≡ option_map e (find (λ x. q (e x)) xs)
find_map q e [] = refl
find_map {B} q e (x ∷ xs) = step (q (e x)) (find_map q e xs)
  where
    step : (b : Bool) → find q (map e xs) ≡ option_map e (find (λ x. q (e x)) xs)
        → cond b (Some (e x)) (find q (map e xs)) ≡ option_map e (cond b (Some x) (find (λ x. q (e x)) xs))
    step true more = refl
    step false more = more
