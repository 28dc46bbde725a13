-- A value of a map that is written as it was.
use Rattle.std.proofs.Common.{◌≡◌, ℕ, zero, suc, List, [], ◌∷◌, map, slice_get, Some, refl, ap}
use Rattle.indexmap.specs.IndexMap.{set_value_at}

module _ {K X : Type 0} (w : X) where
  first_again : (k : K) (v : X) (es : List (K × X)) → Some v ≡ Some w → ◌≡◌ {A = List (K × X)} ((k, w) ∷ es) ((k, v) ∷ es)
  first_again k v es is = let same : w ≡ v = cc in ap (λ x. (k, x) ∷ es) same

  -- the entries stay
  pub written_again : (es : List (K × X)) (i : ℕ) → slice_get (map (λ e. e.1) es) i ≡ Some w → set_value_at es i w ≡ es
  written_again [] i is = refl
  written_again ((k, v) ∷ es) zero is = first_again k v es is
  written_again (e ∷ es) (suc i) is = ap (λ rest. e ∷ rest) (written_again es i is)
