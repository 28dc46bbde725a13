-- What references in a sorted map refer to.
use Rattle.std.proofs.Common.{◌≡◌, List, [], ◌∷◌, map, refl, ap, Bor}
use Rattle.std.specs.Map.Iter.{deref_pair}
use Rattle.kp_object_defs.specs.Order.{values_of}
use Rattle.kp_packer.specs.Views.{shown}

-- the values
pub values-shown : {K X : Type 0} (es : List (Bor K × Bor X)) → shown (map (λ e. e.1) es) ≡ values_of (map deref_pair es)
values-shown [] = refl
values-shown (e ∷ es) = ap (λ rest. e.1.now ∷ rest) (values-shown es)

-- the keys
pub keys-shown : {K X : Type 0} (es : List (Bor K × Bor X)) → shown (map (λ e. e.0) es) ≡ map (λ e. e.0) (map deref_pair es)
keys-shown [] = refl
keys-shown (e ∷ es) = ap (λ rest. e.0.now ∷ rest) (keys-shown es)
