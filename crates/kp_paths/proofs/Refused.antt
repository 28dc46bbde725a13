-- How many elements fail a test, by how many pass it.
use Rattle.std.proofs.Common.{◌≡◌, ◌+◌, ◌-◌, Bool, List, count_by, filter, length, not, refl, arith}
use Rattle.std.proofs.lemmas.List.Sums.{length-filter}
use Rattle.std.proofs.lemmas.List.Filters.{length-filter_both}

pub left_of : {X : Type 0} (p : X → Bool) (xs : List X)
    → length xs - length (filter (λ x. not (p x)) xs) ≡ count_by p xs
left_of p xs =
    let both : length (filter p xs) + length (filter (λ x. not (p x)) xs) ≡ length xs =
    length-filter_both p (λ x. not (p x)) (λ x. refl) xs in
    let counted : length (filter p xs) ≡ count_by p xs = length-filter p xs in
    omega (arith, both, counted)
