-- The entries of a sorted map of std are those of the finite map that they make.
use Rattle.std.proofs.Common.{◌≡◌, List, [], ◌∷◌, map, sym, subst, ◌∙◌, T}
use Rattle.std.specs.declared.cmp.Ordering.{Ordering}
use Rattle.std.specs.declared.cmp.Ordering.TheVariants.{Less}
use Rattle.std.specs.Ordering.{is_lt}
use Rattle.std.specs.Cmp.{IsTotalOrder}
use Rattle.std.specs.List.{AllByRecursion}
use Rattle.std.specs.List.Sorted.{IsStrictlySortedBy}
use Rattle.std.specs.FinMap.{IsAntisymmetric, is_sorted, entries, entries_sorted, from_entries, get-entries, get-from_entries}
use Rattle.std.specs.FinMap.Entries.{below_all, same_entries}
use Rattle.kp_lemmas.proofs.Booleans.{fact_of_both}

module _ {K X : Type 0} (R : K → K → Ordering) where
  below_from : (k : K) (es : List (K × X)) → AllByRecursion (λ l. R k l ≡ Less) (map (λ e. e.0) es) → T (below_all R k es)
  below_from k [] all = tt
  below_from k (e ∷ es) all = fact_of_both _ _ (subst (λ o. T (is_lt o)) (sym all.0) tt) (below_from k es all.1)

  -- entries whose keys rise are sorted
  pub sorted_from : (es : List (K × X)) → IsStrictlySortedBy R (map (λ e. e.0) es) → T (is_sorted R es)
  unfolding IsStrictlySortedBy
  sorted_from [] rise = tt
  sorted_from (e ∷ es) rise = fact_of_both _ _ (below_from e.0 es rise.0) (sorted_from es rise.1)

-- entries whose keys rise are those of their map
pub entries_of : {K X : Type 0} {R : K → K → Ordering} → IsTotalOrder R → IsAntisymmetric R → (es : List (K × X)) → IsStrictlySortedBy R (map (λ e. e.0) es) → entries (from_entries {R = R} es) ≡ es
entries_of {R} total exact es rise =
    same_entries R total exact (entries (from_entries {R = R} es)) es (entries_sorted (from_entries {R = R} es)) (sorted_from R es rise) (λ q. sym (get-entries (from_entries {R = R} es) q) ∙ get-from_entries total es q)
