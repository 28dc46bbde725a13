-- Lists of entries by their keys, and what finite maps give for their keys together.
use Rattle.std.proofs.Common.{◌≡◌, false, List, [], ◌∷◌, ◌++◌, map, flat_map, Option, Some, None}
use Rattle.std.proofs.Common.{refl, sym, ap, ◌∙◌, T}
use Rattle.std.specs.declared.cmp.Ordering.{Ordering}
use Rattle.std.specs.declared.cmp.Ordering.TheVariants.{Less}
use Rattle.std.specs.List.{AllByRecursion, cons_option, filter_map, list_any}
use Rattle.std.specs.List.Sorted.{IsStrictlySortedBy}
use Rattle.std.specs.Ordering.{eq_by_cmp}
use Rattle.std.specs.Cmp.{IsTotalOrder}
use Rattle.std.specs.FinMap.{FinMap, IsAntisymmetric, entries, entries_sorted, find, get}
use Rattle.std.specs.FinMap.{get-entries, is_sorted, keys, values}
use Rattle.std.specs.FinMap.Entries.{below_all, is_some-find}
use Rattle.kp_lemmas.proofs.Booleans.{both_facts}
use Rattle.kp_lemmas.proofs.Entries.{entries_found}
use Rattle.kp_lemmas.proofs.Options.{none_of}
use Rattle.kp_lemmas.proofs.Orders.{less_from_fact}
use Rattle.kp_writer_laws.proofs.LocalChanges.{same_given}

module _ {K X : Type 0} (R : K → K → Ordering) where
  below_keys : (k : K) (es : List (K × X)) → T (below_all R k es)
      → AllByRecursion (λ l. R k l ≡ Less) (map (λ e. e.0) es)
  below_keys k [] h = tt
  below_keys k (e ∷ es) h =
      (less_from_fact (R k e.0) (both_facts _ _ h).0, below_keys k es (both_facts _ _ h).1)

  -- the keys of sorted entries rise
  pub keys_rise : (es : List (K × X)) → T (is_sorted R es)
      → IsStrictlySortedBy R (map (λ e. e.0) es)
  unfolding IsStrictlySortedBy
  keys_rise [] h = tt
  keys_rise (e ∷ es) h =
      (below_keys e.0 es (both_facts _ _ h).0, keys_rise es (both_facts _ _ h).1)

  -- what isn't among the keys isn't found
  pub not_found : (es : List (K × X)) (k : K) → list_any (eq_by_cmp R k) (map (λ e. e.0) es) ≡ false
      → find R k es ≡ None
  not_found es k h = none_of (find R k es) (is_some-find R k es ∙ h)

-- ---- What is given for the keys of a map, in order

module _ {Y : Type 0} where
  -- what is given, if it is something
  abbrev some_of : List Y → Option (List Y)
  some_of [] = None
  some_of (y ∷ ys) = Some (y ∷ ys)

  -- lists one after another
  abbrev all_of : List (List Y) → List Y
  all_of lists = flat_map (λ ys. ys) lists

  one_more : (ys : List Y) (more : List (List Y))
      → all_of (cons_option (some_of ys) more) ≡ ys ++ all_of more
  one_more [] more = refl
  one_more (y ∷ ys) more = refl

module _ {K X Y : Type 0} {R : K → K → Ordering} (total : IsTotalOrder R)
    (exact : IsAntisymmetric R) (gives : Option X → List Y) (nothing : gives None ≡ []) where
  -- what is given for a key, if it is something
  abbrev given_at : FinMap R X → K → Option (List Y)
  given_at m k = some_of (gives (get m k))

  by_entries : (m : FinMap R X) (es : List (K × X)) → AllByRecursion (λ e. get m e.0 ≡ Some e.1) es
      → all_of (filter_map (given_at m) (map (λ e. e.0) es))
      ≡ flat_map (λ x. gives (Some x)) (map (λ e. e.1) es)
  by_entries m [] h = refl
  by_entries m (e ∷ es) h =
      one_more (gives (get m e.0)) (filter_map (given_at m) (map (λ e. e.0) es))
      ∙ (λ i. gives (h.0 i) ++ by_entries m es h.1 i)

  by_keys : (m : FinMap R X)
      → all_of (filter_map (given_at m) (keys m)) ≡ flat_map (λ x. gives (Some x)) (values m)
  by_keys m = by_entries m (entries m) (entries_found total m)

  none_given : (m : FinMap R X) (k : K) → list_any (eq_by_cmp R k) (keys m) ≡ false
      → given_at m k ≡ None
  none_given m k out =
      ap (λ o. some_of (gives o)) (get-entries m k ∙ not_found R (entries m) k out)
      ∙ ap some_of nothing

  -- maps that give the same for each key give the same together
  pub same_together : (m n : FinMap R X) → ((k : K) → gives (get m k) ≡ gives (get n k))
      → flat_map (λ x. gives (Some x)) (values m) ≡ flat_map (λ x. gives (Some x)) (values n)
  same_together m n same =
      let alike : (k : K) → given_at m k ≡ given_at n k = λ k. ap some_of (same k) in
      sym (by_keys m)
      ∙ ap all_of (same_given R (given_at m) exact total (keys m) (keys n)
      (λ k here out. alike k ∙ none_given n k out)
      (λ k here out. none_given m k out)
      (keys_rise R (entries m) (entries_sorted m)) (keys_rise R (entries n) (entries_sorted n))
      ∙ ap (λ f. filter_map f (keys n)) (λ i k. alike k i))
      ∙ by_keys n
