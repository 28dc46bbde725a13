-- Sums over the elements that pass a test.
use Rattle.std.proofs.Common.{◌≡◌, ◌≤◌, ◌+◌, ℕ, Bool, true, false, cond, List, [], ◌∷◌, filter}
use Rattle.std.proofs.Common.{refl, sym, ap, subst, ◌∙◌, arith}
use Rattle.std.specs.List.{sum_by}
use Rattle.std.proofs.lemmas.List.Sums.{sum_by-cons, sum_by-le-sum_by}

module _ {X : Type 0} (f : X → ℕ) (p : X → Bool) where
  -- what counts where the test passes
  abbrev pub counted_if : X → ℕ
  counted_if x = cond (p x) (f x) 0

  pub sum_passing : (xs : List X) → sum_by counted_if xs ≡ sum_by f (filter p xs)
  sum_passing [] = refl
  sum_passing (x ∷ xs) = sum_by-cons counted_if x xs ∙ by (p x) (sum_passing xs)
    where
      by : (b : Bool) → sum_by counted_if xs ≡ sum_by f (filter p xs)
          → cond b (f x) 0 + sum_by counted_if xs
          ≡ sum_by f (cond b (x ∷ filter p xs) (filter p xs))
      by true rest = ap (λ n. f x + n) rest ∙ sym (sum_by-cons f x (filter p xs))
      by false rest = omega (arith, rest)

  counted_at : (x : X) → p x ≡ true → counted_if x ≡ f x
  counted_at x passes = ap (λ b. cond b (f x) 0) passes

  -- where all pass, all count
  pub sum_all : ((x : X) → p x ≡ true) → (xs : List X) → sum_by f xs ≤ sum_by f (filter p xs)
  sum_all passes xs =
      subst (λ n. sum_by f xs ≤ n) (sum_passing xs)
      (sum_by-le-sum_by f counted_if xs (λ x. let same = counted_at x (passes x) in omega (arith, same)))

-- where more pass, more counts
pub sum_more : {X : Type 0} (f : X → ℕ) (p q : X → Bool) → ((x : X) → p x ≡ true → q x ≡ true)
    → (xs : List X) → sum_by f (filter p xs) ≤ sum_by f (filter q xs)
sum_more {X} f p q more xs =
    let some = sum_passing f p xs in
    let all = sum_passing f q xs in
    let few = sum_by-le-sum_by (counted_if f p) (counted_if f q) xs (λ x. by x (p x) refl) in
    omega (arith, some, all, few)
  where
    by : (x : X) (b : Bool) → p x ≡ b → cond b (f x) 0 ≤ counted_if f q x
    by x true passes = let same = counted_at f q x (more x passes) in omega (arith, same)
    by x false passes = omega arith
