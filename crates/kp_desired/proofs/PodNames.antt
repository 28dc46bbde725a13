-- Selected pods in a sorted map of references by their names.
use Rattle.std.proofs.Common.{◌≡◌, ℕ, ◌+◌, ◌<◌, Bool, true, false, cond, List, [], ◌∷◌, ◌++◌, map, take, length, get_or, refl, sym, ap, ◌∙◌, Bor}
use Rattle.std.specs.declared.cmp.Ordering.{Ordering}
use Rattle.std.specs.List.{filter}
use Rattle.std.specs.FinMap.{put}
use Rattle.std.proofs.lemmas.List.{append-nil}
use Rattle.std.proofs.lemmas.List.Elements.{filter_more}
use Rattle.kp_object_defs.specs.Order.{by_key, values_of}
use Rattle.kp_object_defs.proofs.InOrder.{by_key-push}
use Rattle.kp_desired.specs.ByName.{shown}

-- the values of a map of references
pub values-shown : {K X : Type 0} (es : List (Bor K × Bor X)) → map (λ v. v.now) (map (λ e. e.1) es) ≡ values_of (shown es)
values-shown [] = refl
values-shown (e ∷ es) = ap (λ rest. e.1.now ∷ rest) (values-shown es)

module _ {K X : Type 0} (R : K → K → Ordering) (key : X → K) (p : X → Bool) (xs : List X) (i : ℕ) (x : X) (lt : i < length xs) (is : x ≡ get_or xs i x) where
  more : filter p (take (i + 1) xs) ≡ filter p (take i xs) ++ cond (p x) (x ∷ []) []
  more = filter_more p xs i x lt ∙ ap (λ y. filter p (take i xs) ++ cond (p y) (y ∷ []) []) (sym is)

  -- an element that passes goes to its place, and another is left out
  place : (b : Bool) → by_key R key (filter p (take i xs) ++ cond b (x ∷ []) []) ≡ cond b (put R (key x) x (by_key R key (filter p (take i xs)))) (by_key R key (filter p (take i xs)))
  place true = by_key-push R key (filter p (take i xs)) x
  place false = ap (by_key R key) (append-nil (filter p (take i xs)))

  pub by_key-filter : by_key R key (filter p (take (i + 1) xs)) ≡ cond (p x) (put R (key x) x (by_key R key (filter p (take i xs)))) (by_key R key (filter p (take i xs)))
  by_key-filter = ap (by_key R key) more ∙ place (p x)
