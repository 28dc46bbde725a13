-- A list of entries in any order, as a map of `indexmap` or a sorted one of std keeps it, seen as a finite
-- map. R is the order of the keys, and E the test of the map's look-ups.
use Rattle.std.proofs.Common.{◌≡◌, Bool, cond, List, [], ◌∷◌, Some, None, refl, sym, ap, ◌∙◌}
use Rattle.std.specs.declared.cmp.Ordering.{Ordering}
use Rattle.std.specs.Ordering.{eq_by_cmp}
use Rattle.std.specs.Cmp.{IsTotalOrder, eq_by_cmp_equiv}
use Rattle.std.specs.FinMap.{find, get, get-from_entries, get-insert, get-remove, from_entries, insert, remove, same_map, IsAntisymmetric}
use Rattle.std.specs.Map.{lookup}

module _ {K X : Type 0} {R : K → K → Ordering} {E : K → K → Bool} (total : IsTotalOrder R) (ties : (x y : K) → E x y ≡ eq_by_cmp R x y) where
  -- a look-up by E finds what one by R finds
  lookup-find : (q : K) (es : List (K × X)) → lookup (E q) es ≡ find R q es
  lookup-find q [] = refl
  lookup-find q (e ∷ es) = λ i. cond (ties q e.0 i) (Some e.1) (lookup-find q es i)

  -- a look-up in the entries is one in their map
  pub lookup-get : (es : List (K × X)) (q : K) → lookup (E q) es ≡ get (from_entries {R = R} es) q
  lookup-get es q = lookup-find q es ∙ sym (get-from_entries total es q)

  -- entries that answer as es with v at k are the map of es with v at k
  pub inserted : IsAntisymmetric R → (es fs : List (K × X)) (k : K) (v : X) → ((q : K) → lookup (E q) fs ≡ cond (E k q) (Some v) (lookup (E q) es)) → from_entries {R = R} fs ≡ insert (from_entries es) k v
  inserted exact es fs k v h =
      same_map total exact _ _ (λ q.
      sym (lookup-get fs q) ∙ h q
      ∙ (λ i. cond (ties k q i) (Some v) (lookup-get es q i))
      ∙ ap (λ b. cond b (Some v) (get (from_entries {R = R} es) q)) ((eq_by_cmp_equiv total).symm k q)
      ∙ sym (get-insert total (from_entries es) k v q))

  -- entries that answer as es without k are the map of es without k
  pub removed : IsAntisymmetric R → (es fs : List (K × X)) (k : K) → ((q : K) → lookup (E q) fs ≡ cond (E k q) None (lookup (E q) es)) → from_entries {R = R} fs ≡ remove (from_entries es) k
  removed exact es fs k h =
      same_map total exact _ _ (λ q.
      sym (lookup-get fs q) ∙ h q
      ∙ (λ i. cond (ties k q i) None (lookup-get es q i))
      ∙ ap (λ b. cond b None (get (from_entries {R = R} es) q)) ((eq_by_cmp_equiv total).symm k q)
      ∙ sym (get-remove total (from_entries es) k q))
