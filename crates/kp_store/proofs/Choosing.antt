-- Tests of the Services that select a pod.
use Rattle.std.proofs.Common.{◌≡◌, ◌&&◌, ◌||◌, Bool, true, false, List, [], ◌∷◌, refl, sym, ap, ◌∙◌}
use Rattle.std.specs.List.{list_any}
use Rattle.std.specs.Ordering.{eq_by_cmp}
use Rattle.kp_lemmas.proofs.Orders.{one_from_tie}
use Rattle.kp_base.specs.Keys.{key_cmp}
use Rattle.kp_base.specs.declared.key.ObjectKey.{ObjectKey}
use Rattle.kp_base.proofs.KeyOrder.{key_exact}

-- a test beside a truth value
pub any_and : {X : Type 0} (p : X → Bool) (b : Bool) (xs : List X) → list_any (λ x. p x && b) xs ≡ list_any p xs && b
any_and p b [] = refl
any_and p b (x ∷ xs) = ap (λ c. (p x && b) || c) (any_and p b xs) ∙ by (p x) b (list_any p xs)
  where
    by : (a b c : Bool) → (a && b) || (c && b) ≡ (a || c) && b
    by true true c = refl
    by true false true = refl
    by true false false = refl
    by false b c = refl

-- what is told of a key is told of the key that is the same
pub at_key : (tells : ObjectKey → Bool) (k q : ObjectKey) → eq_by_cmp key_cmp k q && tells q ≡ eq_by_cmp key_cmp k q && tells k
at_key tells k q = by (eq_by_cmp key_cmp k q) refl
  where
    by : (b : Bool) → eq_by_cmp key_cmp k q ≡ b → b && tells q ≡ b && tells k
    by true is = ap tells (sym (one_from_tie key_exact k q is))
    by false is = refl
