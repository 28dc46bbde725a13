-- Lists that are made of each by its family.
use Rattle.std.proofs.Common.{◌≡◌, ◌+◌, ◌++◌, ℕ, List, [], ◌∷◌, map, flat_map, Option}
use Rattle.std.proofs.Common.{refl, sym, ◌∙◌, arith}
use Rattle.std.specs.List.{AllByRecursion, cons_option, filter_map, sum_by}
use Rattle.std.proofs.lemmas.List.Sums.{sum_by-cons}

-- where each gives what that gives which it is of
module _ {X Y Z : Type 0} (of : X → Y) where
  pub flat_maps_by : (f : X → List Z) (g : Y → List Z) (xs : List X)
      → AllByRecursion (λ x. f x ≡ g (of x)) xs → flat_map f xs ≡ flat_map g (map of xs)
  flat_maps_by f g [] all = refl
  flat_maps_by f g (x ∷ xs) all = λ i. all.0 i ++ flat_maps_by f g xs all.1 i

  pub filter_maps_by : (f : X → Option Z) (g : Y → Option Z) (xs : List X)
      → AllByRecursion (λ x. f x ≡ g (of x)) xs → filter_map f xs ≡ filter_map g (map of xs)
  filter_maps_by f g [] all = refl
  filter_maps_by f g (x ∷ xs) all = λ i. cons_option (all.0 i) (filter_maps_by f g xs all.1 i)

pub sums_by : {X Y : Type 0} (of : X → Y) (f : X → ℕ) (g : Y → ℕ) (xs : List X)
    → AllByRecursion (λ x. f x ≡ g (of x)) xs → sum_by f xs ≡ sum_by g (map of xs)
sums_by of f g [] all = refl
sums_by of f g (x ∷ xs) all =
    sum_by-cons f x xs
    ∙ (λ i. all.0 i + sums_by of f g xs all.1 i)
    ∙ sym (sum_by-cons g (of x) (map of xs))

-- two sums over one list
pub sum_of_both : {X : Type 0} (f g : X → ℕ) (xs : List X)
    → sum_by (λ x. f x + g x) xs ≡ sum_by f xs + sum_by g xs
sum_of_both f g [] = refl
sum_of_both f g (x ∷ xs) =
    let both = sum_by-cons (λ y. f y + g y) x xs in
    let first = sum_by-cons f x xs in
    let second = sum_by-cons g x xs in
    let rest = sum_of_both f g xs in
    omega (arith, both, first, second, rest)
