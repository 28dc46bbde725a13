-- The entries of finite maps, sorted by key.
use Rattle.std.proofs.Common.{◌≡◌, cond, List, [], ◌∷◌, map, Some, refl, sym, ap, ◌∙◌, T}
use Rattle.std.specs.declared.cmp.Ordering.{Ordering}
use Rattle.std.specs.declared.cmp.Ordering.TheVariants.{Less, Equal, Greater}
use Rattle.std.specs.Ordering.{is_eq, ordering_reverse, match_ordering}
use Rattle.std.specs.Cmp.{IsTotalOrder, tied_itself}
use Rattle.std.specs.BTreeSet.{insert_key}
use Rattle.std.specs.List.{AllByRecursion}
use Rattle.std.specs.FinMap.{FinMap, find, put, is_sorted, get, entries, empty, entries_sorted, get-entries, len-entries, len-empty}
use Rattle.std.specs.FinMap.Entries.{by_order, below_all}
use Rattle.std.proofs.lemmas.List.{nil_from_length}
use Rattle.kp_lemmas.proofs.Booleans.{both_facts}
use Rattle.kp_lemmas.proofs.Orders.{less_from_fact}
use Rattle.kp_lemmas.proofs.ListFacts.{all_weaker}

module _ {K X : Type 0} (R : K → K → Ordering) where
  keys_by_order : (o : Ordering) (k : K) (v : X) (e : K × X) (es : List (K × X))
      → map (λ f. f.0) (put R k v es) ≡ insert_key R (map (λ f. f.0) es) k
      → map (λ f. f.0) (by_order o ((k, v) ∷ e ∷ es) ((e.0, v) ∷ es) (e ∷ put R k v es)) ≡ match_ordering o (k ∷ e.0 ∷ map (λ f. f.0) es) (e.0 ∷ map (λ f. f.0) es) (e.0 ∷ insert_key R (map (λ f. f.0) es) k)
  keys_by_order Less k v e es h = refl
  keys_by_order Equal k v e es h = refl
  keys_by_order Greater k v e es h = ap (λ ks. e.0 ∷ ks) h

  -- the keys of entries with one more
  pub put_keys : (k : K) (v : X) (es : List (K × X))
      → map (λ e. e.0) (put R k v es) ≡ insert_key R (map (λ e. e.0) es) k
  put_keys k v [] = refl
  put_keys k v (e ∷ es) = keys_by_order (R k e.0) k v e es (put_keys k v es)

  -- the empty map has no entries
  pub empty_entries : entries (empty {X = X} {R = R}) ≡ []
  empty_entries =
      nil_from_length (entries (empty {X = X} {R = R})) (sym (len-entries (empty {X = X} {R = R})) ∙ len-empty R X)

module _ {K X : Type 0} {R : K → K → Ordering} (total : IsTotalOrder R) where
  -- a key behind another is found behind it
  pub find_behind : (e f : K × X) (es : List (K × X)) → R e.0 f.0 ≡ Less
      → find R f.0 (e ∷ es) ≡ find R f.0 es
  find_behind e f es h =
      ap (λ o. cond (is_eq o) (Some e.1) (find R f.0 es)) (total.antisymm f.0 e.0 ∙ ap ordering_reverse h)

  -- so are those of all entries behind it
  pub found_behind : (e : K × X) (all es : List (K × X)) → T (below_all R e.0 es)
      → AllByRecursion (λ f. find R f.0 all ≡ Some f.1) es
      → AllByRecursion (λ f. find R f.0 (e ∷ all) ≡ Some f.1) es
  found_behind e all [] below found = tt
  found_behind e all (f ∷ es) below found =
      let both = both_facts _ _ below in
      (find_behind e f all (less_from_fact (R e.0 f.0) both.0) ∙ found.0, found_behind e all es both.1 found.1)

  -- each of sorted entries is what a look-up finds
  pub sorted_found : (es : List (K × X)) → T (is_sorted R es)
      → AllByRecursion (λ e. find R e.0 es ≡ Some e.1) es
  sorted_found [] sorted = tt
  sorted_found (e ∷ es) sorted =
      let both = both_facts _ _ sorted in
      (ap (λ o. cond (is_eq o) (Some e.1) (find R e.0 es)) (tied_itself total e.0), found_behind e es es both.0 (sorted_found es both.1))

  -- each entry of a map is what the map has at its key
  pub entries_found : (m : FinMap R X) → AllByRecursion (λ e. get m e.0 ≡ Some e.1) (entries m)
  entries_found m =
      all_weaker (λ e. find R e.0 (entries m) ≡ Some e.1) (λ e. get m e.0 ≡ Some e.1) (λ e h. get-entries m e.0 ∙ h) (entries m)
      (sorted_found (entries m) (entries_sorted m))
