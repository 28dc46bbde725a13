-- The Services of keys that are there, in order of the keys, are the stored ones among the keys.
use Rattle.std.proofs.Common.{◌≡◌, true, List, [], ◌∷◌, map, filter, filter_map, Contains, Option, Some, None, inl, inr, refl, sym, ap, subst, ◌∙◌, is_lt}
use Rattle.std.specs.List.{cons_option}
use Rattle.std.specs.Cmp.{eq_by_cmp_equiv}
use Rattle.std.specs.FinMap as finite
use Rattle.std.specs.FinMap.{FinMap, contains_key-keys, entries, entries_sorted, get, is_sorted}
use Rattle.std.specs.FinMap.Entries.{below_all}
use Rattle.std.proofs.lemmas.Bool.{and_from, and_parts}
use Rattle.std.proofs.lemmas.Map.Views.{Contains-from_any, list_any-from_Contains}
use Rattle.kp_lemmas.proofs.Booleans.{true_from_fact}
use Rattle.kp_lemmas.proofs.Members.{first_in, from_filter_map, in_cases, later_in, none_in}
use Rattle.kp_lemmas.proofs.Orders.{one_from_tie}
use Rattle.kp_base.specs.Keys.{key_cmp}
use Rattle.kp_base.specs.declared.key.ObjectKey.{ObjectKey}
use Rattle.kp_base.proofs.KeyOrder.{key_total, key_exact}
use Rattle.kp_object_defs.specs.OwnKeys.{IsUnderOwnKeys}
use Rattle.kp_object_laws.proofs.OwnEntries.{owned}
use Rattle.kp_settle_laws.proofs.OwnValues.{from_passing, in_passing, one_in_order, passing_in_order}
use Rattle.kp_store.specs.Indexes.{Keys}

-- what is made of an element is among what is made of all
in_filter_map : {A B : Type 0} (h : A → Option B) (x : A) (y : B) (xs : List A) → Contains xs x
    → h x ≡ Some y → Contains (filter_map h xs) y
in_filter_map h x y [] c is = absurd (none_in x c)
in_filter_map h x y (z ∷ zs) c is =
    elim (in_cases x z zs c) [
      | inl same ↦
          subst (λ o. Contains (cons_option o (filter_map h zs)) y) (sym (ap h same ∙ is))
          (first_in y (filter_map h zs))
      | inr d ↦
          let rest = in_filter_map h x y zs d is in
          elim (h z) as (λ o. Contains (cons_option o (filter_map h zs)) y) [
            | None ↦ rest
            | Some w ↦ later_in y w (filter_map h zs) rest
          ]
    ]

module _ {X : Type 0} (key_of : X → ObjectKey) (m : FinMap key_cmp X)
    (own : IsUnderOwnKeys key_of m) where
  -- what is found at sorted keys is in their order
  below_found : {Y : Type 0} (k : ObjectKey) (es : List (ObjectKey × Y))
      → below_all key_cmp k es ≡ true
      → below_all key_cmp k (owned key_of (filter_map (get m) (map (λ e. e.0) es))) ≡ true
  below_found k [] below = refl
  below_found k (e ∷ es) below =
      let parts = and_parts (is_lt (key_cmp k e.0)) (below_all key_cmp k es) below in
      by (get m e.0) refl parts.0 (below_found k es parts.1)
    where
      by : (o : Option X) → get m e.0 ≡ o → is_lt (key_cmp k e.0) ≡ true
          → below_all key_cmp k (owned key_of (filter_map (get m) (map (λ e. e.0) es))) ≡ true
          → below_all key_cmp k
          (owned key_of (cons_option o (filter_map (get m) (map (λ e. e.0) es)))) ≡ true
      by None at less rest = rest
      by (Some x) at less rest =
          and_from _ _ (ap (λ l. is_lt (key_cmp k l)) (own e.0 x at) ∙ less) rest

  sorted_found : {Y : Type 0} (es : List (ObjectKey × Y)) → is_sorted key_cmp es ≡ true
      → is_sorted key_cmp (owned key_of (filter_map (get m) (map (λ e. e.0) es))) ≡ true
  sorted_found [] sorted = refl
  sorted_found (e ∷ es) sorted =
      let parts = and_parts (below_all key_cmp e.0 es) (is_sorted key_cmp es) sorted in
      by (get m e.0) refl (below_found e.0 es parts.0) (sorted_found es parts.1)
    where
      later : List X
      later = filter_map (get m) (map (λ e. e.0) es)

      by : (o : Option X) → get m e.0 ≡ o
          → below_all key_cmp e.0 (owned key_of later) ≡ true
          → is_sorted key_cmp (owned key_of later) ≡ true
          → is_sorted key_cmp (owned key_of (cons_option o later)) ≡ true
      by None at below rest = rest
      by (Some x) at below rest =
          and_from _ _ (ap (λ k. below_all key_cmp k (owned key_of later))
          (own e.0 x at) ∙ below) rest

  -- so these are the values whose keys are among them
  pub found_among : (keys : Keys)
      → filter_map (get m) (finite.keys keys)
      ≡ filter (λ x. finite.contains_key keys (key_of x)) (finite.values m)
  found_among keys =
      one_in_order key_of _ _ (λ x. (
        λ c. let (k, among, at) = from_filter_map (get m) x (finite.keys keys) c in
            let same : key_of x ≡ k = own k x at in
            in_passing key_of m own (λ x. finite.contains_key keys (key_of x)) x
            (ap (get m) same ∙ at)
            (ap (finite.contains_key keys) same ∙ contains_key-keys keys k
            ∙ list_any-from_Contains (eq_by_cmp_equiv key_total) k (finite.keys keys) among),
        λ c. let (at, among) =
            from_passing key_of m own (λ x. finite.contains_key keys (key_of x)) x c in
            in_filter_map (get m) (key_of x) x (finite.keys keys)
            (Contains-from_any (one_from_tie key_exact) (key_of x) (finite.keys keys)
            (sym (contains_key-keys keys (key_of x)) ∙ among)) at,
      )) (sorted_found (entries keys) (true_from_fact _ (entries_sorted keys)))
      (passing_in_order key_of m own (λ x. finite.contains_key keys (key_of x)))
