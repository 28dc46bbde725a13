-- The objects of the keys in a bucket are those with its tag.
use Rattle.std.proofs.Common.{◌≡◌, ◌||◌, Bool, true, false, cond, List, [], ◌∷◌, length, map, filter, Option, Some, None, is_some, refl, sym, ap, subst, ◌∙◌, T}
use Rattle.std.specs.List.{filter_map, cons_option, list_any, AllByRecursion}
use Rattle.std.specs.Ordering.{eq_by_cmp, is_lt}
use Rattle.std.specs.FinMap as finite
use Rattle.std.specs.FinMap.{FinMap, find, is_sorted, entries, entries_sorted, get, get-entries, contains_key, len, len-entries}
use Rattle.std.specs.FinMap.Entries.{below_all, same_entries}
use Rattle.std.proofs.lemmas.List.{length-map}
use Rattle.kp_lemmas.proofs.Booleans.{both_facts, fact_of_both, true_from_fact}
use Rattle.kp_lemmas.proofs.Orders.{less_is_other, one_from_tie}
use Rattle.kp_lemmas.proofs.ListFacts.{all_filter}
use Rattle.kp_lemmas.proofs.Entries.{entries_found}
use Rattle.kp_base.specs.Keys.{key_cmp}
use Rattle.kp_base.specs.declared.key.ObjectKey.{ObjectKey}
use Rattle.kp_base.proofs.KeyOrder.{key_total, key_exact}
use Rattle.kp_object_defs.specs.OwnKeys.{IsUnderOwnKeys}
use Rattle.kp_store.specs.Indexes.{Keys, is_among, is_tagged}

-- options of nothing
one_option : (a b : Option (Unit {0})) → is_some a ≡ is_some b → a ≡ b
one_option None None e = refl
one_option None (Some b) e = absurd (cc)
one_option (Some a) None e = absurd (cc)
one_option (Some a) (Some b) e = refl

-- keys without their values
abbrev bare : {K X : Type 0} → List (K × X) → List (K × Unit {0})
bare es = map (λ e. (e.0, tt)) es

bare_keys : {K X : Type 0} (es : List (K × X)) → map (λ e. e.0) (bare es) ≡ map (λ e. e.0) es
bare_keys [] = refl
bare_keys (e ∷ es) = ap (λ ks. e.0 ∷ ks) (bare_keys es)

module _ {X : Type 0} (p : X → Bool) where
  -- the entries whose values pass
  abbrev pub passing : List (ObjectKey × X) → List (ObjectKey × X)
  passing es = filter (λ e. p e.1) es

  below_passing : (k : ObjectKey) (es : List (ObjectKey × X)) → T (below_all key_cmp k es) → T (below_all key_cmp k (bare (passing es)))
  below_passing k [] h = tt
  below_passing k (e ∷ es) h =
      let both = both_facts (is_lt (key_cmp k e.0)) (below_all key_cmp k es) h in
      let rest = below_passing k es both.1 in
      elim (p e.1) as (λ b. T (below_all key_cmp k (bare (cond b (e ∷ passing es) (passing es))))) [
        | true ↦ fact_of_both (is_lt (key_cmp k e.0)) (below_all key_cmp k (bare (passing es))) both.0 rest
        | false ↦ rest
      ]

  sorted_passing : (es : List (ObjectKey × X)) → T (is_sorted key_cmp es) → T (is_sorted key_cmp (bare (passing es)))
  sorted_passing [] h = tt
  sorted_passing (e ∷ es) h =
      let both = both_facts (below_all key_cmp e.0 es) (is_sorted key_cmp es) h in
      let rest = sorted_passing es both.1 in
      elim (p e.1) as (λ b. T (is_sorted key_cmp (bare (cond b (e ∷ passing es) (passing es))))) [
        | true ↦ fact_of_both (below_all key_cmp e.0 (bare (passing es))) (is_sorted key_cmp (bare (passing es))) (below_passing e.0 es both.0) rest
        | false ↦ rest
      ]

  -- the value, if there is one, passes
  abbrev pub passes : Option X → Bool
  passes None = false
  passes (Some x) = p x

  -- a key that is below all is not found
  below_none : {Y : Type 0} (k : ObjectKey) (es : List (ObjectKey × Y)) → T (below_all key_cmp k es) → is_some (find key_cmp k es) ≡ false
  below_none k [] h = refl
  below_none k (e ∷ es) h =
      let both = both_facts (is_lt (key_cmp k e.0)) (below_all key_cmp k es) h in
      ap (λ b. is_some (cond b (Some e.1) (find key_cmp k es))) (less_is_other (key_cmp k e.0) (true_from_fact (is_lt (key_cmp k e.0)) both.0))
      ∙ below_none k es both.1

  found_by : (k : ObjectKey) (e : ObjectKey × X) (es : List (ObjectKey × X)) → T (below_all key_cmp e.0 es) → is_some (find key_cmp k (bare (passing es))) ≡ passes (find key_cmp k es) → (t b : Bool) → eq_by_cmp key_cmp k e.0 ≡ t → p e.1 ≡ b → is_some (find key_cmp k (bare (cond b (e ∷ passing es) (passing es)))) ≡ passes (cond t (Some e.1) (find key_cmp k es))
  found_by k e es below rest true true at is = ap (λ t. is_some (cond t (Some tt) (find key_cmp k (bare (passing es))))) at ∙ sym is
  found_by k e es below rest true false at is =
      below_none k (bare (passing es)) (below_passing k es (subst (λ q. T (below_all key_cmp q es)) (sym (one_from_tie key_exact k e.0 at)) below))
      ∙ sym is
  found_by k e es below rest false true at is = ap (λ t. is_some (cond t (Some tt) (find key_cmp k (bare (passing es))))) at ∙ rest
  found_by k e es below rest false false at is = rest

  found_passing : (k : ObjectKey) (es : List (ObjectKey × X)) → T (is_sorted key_cmp es) → is_some (find key_cmp k (bare (passing es))) ≡ passes (find key_cmp k es)
  found_passing k [] h = refl
  found_passing k (e ∷ es) h =
      let both = both_facts (below_all key_cmp e.0 es) (is_sorted key_cmp es) h in
      found_by k e es both.0 (found_passing k es both.1) (eq_by_cmp key_cmp k e.0) (p e.1) refl refl

  values_passing : (es : List (ObjectKey × X)) → map (λ e. e.1) (passing es) ≡ filter p (map (λ e. e.1) es)
  values_passing [] = refl
  values_passing (e ∷ es) =
      elim (p e.1) as (λ b. map (λ e. e.1) (cond b (e ∷ passing es) (passing es)) ≡ cond b (e.1 ∷ filter p (map (λ e. e.1) es)) (filter p (map (λ e. e.1) es))) [
        | true ↦ ap (λ xs. e.1 ∷ xs) (values_passing es)
        | false ↦ values_passing es
      ]

  got_all : (m : FinMap key_cmp X) (es : List (ObjectKey × X)) → AllByRecursion (λ e. get m e.0 ≡ Some e.1) es → filter_map (get m) (map (λ e. e.0) es) ≡ map (λ e. e.1) es
  got_all m [] all = refl
  got_all m (e ∷ es) all = λ i. cons_option (all.0 i) (got_all m es all.1 i)

  -- a bucket that has the keys whose values pass has them in order
  pub bucket_keys : (m : FinMap key_cmp X) (keys : Keys) → ((k : ObjectKey) → contains_key keys k ≡ passes (get m k)) → finite.keys keys ≡ map (λ e. e.0) (passing (entries m))
  bucket_keys m keys has =
      ap (map (λ e. e.0)) (same_entries key_cmp key_total key_exact (entries keys) (bare (passing (entries m))) (entries_sorted keys) (sorted_passing (entries m) (entries_sorted m)) (λ k. one_option (find key_cmp k (entries keys)) (find key_cmp k (bare (passing (entries m)))) (ap is_some (sym (get-entries keys k)) ∙ has k ∙ ap passes (get-entries m k) ∙ sym (found_passing k (entries m) (entries_sorted m)))))
      ∙ bare_keys (passing (entries m))

  pub found_passes : (m : FinMap key_cmp X) (keys : Keys) → ((k : ObjectKey) → contains_key keys k ≡ passes (get m k)) → filter_map (get m) (finite.keys keys) ≡ filter p (finite.values m)
  found_passes m keys has =
      ap (filter_map (get m)) (bucket_keys m keys has)
      ∙ got_all m (passing (entries m)) (all_filter (λ e. get m e.0 ≡ Some e.1) (λ e. p e.1) (entries m) (entries_found key_total m))
      ∙ values_passing (entries m)

  -- and so many keys as values pass
  pub count_passes : (m : FinMap key_cmp X) (keys : Keys) → ((k : ObjectKey) → contains_key keys k ≡ passes (get m k)) → len keys ≡ length (filter p (finite.values m))
  count_passes m keys has =
      len-entries keys
      ∙ sym (length-map (entries keys) (λ e. e.0))
      ∙ ap length (bucket_keys m keys has)
      ∙ length-map (passing (entries m)) (λ e. e.0)
      ∙ sym (length-map (passing (entries m)) (λ e. e.1))
      ∙ ap length (values_passing (entries m))

agrees : {T X : Type 0} (same : T → T → Bool) (tags : X → List T) (tag : T) (o : Option X) → is_tagged same tags tag o ≡ passes (λ x. is_among same (tags x) tag) o
agrees same tags tag None = refl
agrees same tags tag (Some x) = refl

pub found_all : {T X : Type 0} (same : T → T → Bool) (tags : X → List T) (tag : T) (m : FinMap key_cmp X) (keys : Keys) → ((k : ObjectKey) → contains_key keys k ≡ is_tagged same tags tag (get m k)) → filter_map (get m) (finite.keys keys) ≡ filter (λ x. is_among same (tags x) tag) (finite.values m)
found_all {X} same tags tag m keys has = found_passes (λ x. is_among same (tags x) tag) m keys (λ k. has k ∙ agrees same tags tag (get m k))

-- a bucket has as many keys as objects have its tag
pub count_all : {T X : Type 0} (same : T → T → Bool) (tags : X → List T) (tag : T) (m : FinMap key_cmp X) (keys : Keys) → ((k : ObjectKey) → contains_key keys k ≡ is_tagged same tags tag (get m k)) → len keys ≡ length (filter (λ x. is_among same (tags x) tag) (finite.values m))
count_all same tags tag m keys has = count_passes (λ x. is_among same (tags x) tag) m keys (λ k. has k ∙ agrees same tags tag (get m k))

-- ---- objects under their own keys

own_of : {X : Type 0} (key_of : X → ObjectKey) (m : FinMap key_cmp X) → IsUnderOwnKeys key_of m
    → (es : List (ObjectKey × X)) → AllByRecursion (λ e. get m e.0 ≡ Some e.1) es
    → map key_of (map (λ e. e.1) es) ≡ map (λ e. e.0) es
own_of key_of m own [] all = refl
own_of key_of m own (e ∷ es) all =
    λ i. own e.0 e.1 all.0 i ∷ own_of key_of m own es all.1 i

-- a bucket that has the keys of the objects that pass has these keys in order
pub keys_passing : {X : Type 0} (key_of : X → ObjectKey) (p : X → Bool) (m : FinMap key_cmp X)
    → IsUnderOwnKeys key_of m → (keys : Keys) → ((k : ObjectKey) → contains_key keys k ≡ passes p (get m k))
    → finite.keys keys ≡ map key_of (filter p (finite.values m))
keys_passing key_of p m own keys has =
    bucket_keys p m keys has
    ∙ sym (own_of key_of m own (passing p (entries m)) (all_filter (λ e. get m e.0 ≡ Some e.1) (λ e. p e.1) (entries m) (entries_found key_total m)))
    ∙ ap (map key_of) (values_passing p (entries m))

among_bare : {X : Type 0} (k : ObjectKey) (es : List (ObjectKey × X))
    → list_any (eq_by_cmp key_cmp k) (map (λ e. e.0) es) ≡ is_some (find key_cmp k (bare es))
among_bare k [] = refl
among_bare k (e ∷ es) = by (eq_by_cmp key_cmp k e.0) (find key_cmp k (bare es)) (among_bare k es)
  where
    by : {b : Bool} (t : Bool) (o : Option (Unit {0})) → b ≡ is_some o
        → t || b ≡ is_some (cond t (Some tt) o)
    by true o is = refl
    by false o is = is

-- a key is among those of the objects that pass where its object passes
pub passing_keys : {X : Type 0} (key_of : X → ObjectKey) (p : X → Bool) (m : FinMap key_cmp X)
    → IsUnderOwnKeys key_of m → (k : ObjectKey)
    → list_any (eq_by_cmp key_cmp k) (map key_of (filter p (finite.values m))) ≡ passes p (get m k)
passing_keys {X} key_of p m own k =
    ap (λ xs. list_any (eq_by_cmp key_cmp k) (map key_of xs)) (sym (values_passing p (entries m)))
    ∙ ap (list_any (eq_by_cmp key_cmp k)) (own_of key_of m own (passing p (entries m)) found)
    ∙ among_bare k (passing p (entries m))
    ∙ found_passing p k (entries m) (entries_sorted m)
    ∙ ap (passes p) (sym (get-entries m k))
  where
    found : AllByRecursion (λ e. get m e.0 ≡ Some e.1) (passing p (entries m))
    found = all_filter (λ e. get m e.0 ≡ Some e.1) (λ e. p e.1) (entries m) (entries_found key_total m)
