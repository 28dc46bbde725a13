-- Finite maps that are given as lists of entries.
use Rattle.std.proofs.Common.{◌≡◌, Bool, true, false, cond, not, List, filter, None, refl, sym, ap, ◌∙◌}
use Rattle.std.specs.Cmp.{IsTotalOrder, alike_right, eq_by_cmp_equiv}
use Rattle.std.specs.FinMap.{find, from_entries, remove, get-from_entries, get-remove, same_map, IsAntisymmetric}
use Rattle.std.specs.FinMap.Entries.{find-where_key}
use Rattle.std.specs.Ordering.{eq_by_cmp, is_eq}
use Rattle.std.specs.declared.cmp.Ordering.{Ordering}

turned : {A : Type 0} (b : Bool) (x y : A) → cond (not b) x y ≡ cond b y x
turned true x y = refl
turned false x y = refl

module _ {K X : Type 0} (R : K → K → Ordering) where
  -- the entries without those of a key
  abbrev pub without : K → List (K × X) → List (K × X)
  without k es = filter (λ e. not (eq_by_cmp R k e.0)) es

module _ {K X : Type 0} {R : K → K → Ordering} (total : IsTotalOrder R) where
  pub removed_are : IsAntisymmetric R → (es : List (K × X)) (k : K) → from_entries {R = R} (without R k es) ≡ remove (from_entries es) k
  removed_are exact es k =
      same_map total exact _ _ (λ q.
      get-from_entries total (without R k es) q
      ∙ find-where_key R (λ x. not (eq_by_cmp R k x)) q (λ x t. ap (λ r. not (is_eq r)) (sym (alike_right total q x k t))) es
      ∙ turned (eq_by_cmp R k q) (find R q es) None
      ∙ ap (λ b. cond b None (find R q es)) ((eq_by_cmp_equiv total).symm k q)
      ∙ ap (λ o. cond (eq_by_cmp R q k) None o) (sym (get-from_entries total es q))
      ∙ sym (get-remove total (from_entries es) k q))
