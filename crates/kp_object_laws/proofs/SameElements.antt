-- Lists of the same elements, in whatever order.
use Rattle.std.proofs.Common.{Bool, List, reverse, filter}
use Rattle.std.proofs.lemmas.List.Sorted.{Contains-permutation, IsPermutation-sym, IsPermutation-reverse}
use Rattle.kp_lemmas.proofs.Members.{in_filter, from_filter}
use Rattle.kp_object_laws.specs.ObjectLaws.{HaveSameElements}

-- of which those that pass are taken
pub same_filtered : {A : Type 0} (p : A → Bool) (xs ys : List A) → HaveSameElements xs ys → HaveSameElements (filter p xs) (filter p ys)
same_filtered p xs ys same x =
    (λ c. let (d, passes) = from_filter p x xs c in in_filter p x ys ((same x).0 d) passes, λ c. let (d, passes) = from_filter p x ys c in in_filter p x xs ((same x).1 d) passes)

-- a reversed list has the same elements
pub same_reversed : {A : Type 0} (xs ys : List A) → HaveSameElements xs ys → HaveSameElements (reverse xs) ys
same_reversed xs ys same x =
    (λ c. (same x).0 (Contains-permutation _ xs x (IsPermutation-sym xs (reverse xs) (IsPermutation-reverse xs)) c), λ c. Contains-permutation xs _ x (IsPermutation-reverse xs) ((same x).1 c))
