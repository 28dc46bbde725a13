-- Elements that are kept once, at their first place.
use Rattle.std.proofs.Common.{inl, inr, Bool, not, List, [], ◌∷◌, Contains, sym, subst}
use Rattle.kp_lemmas.proofs.Members.{first_in, later_in, in_cases, from_filter}
use Rattle.kp_object_defs.specs.Order.{first_places}

-- each of them is an element
pub from_places : {A : Type 0} (same : A → A → Bool) (x : A) (xs : List A)
    → Contains (first_places same xs) x → Contains xs x
from_places same x [] c = c
from_places same x (y ∷ ys) c =
    elim (in_cases x y _ c) [
      | inl e ↦ subst (λ z. Contains (z ∷ ys) x) (sym e) (first_in x ys)
      | inr d ↦ later_in x y ys (from_places same x ys (from_filter (λ z. not (same y z)) x _ d).0)
    ]
