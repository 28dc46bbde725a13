-- What more was taken.
use Rattle.std.proofs.Common.{◌≡◌, List, [], subst}
use Rattle.std.proofs.lemmas.List.{append-nil}
use mathlib.Core.List.{IsPrefix}

pub prefix_same : {A : Type 0} (xs ys : List A) → xs ≡ ys → IsPrefix xs ys
prefix_same xs ys same = subst (λ l. IsPrefix xs l) same ([], append-nil xs)
