-- The values of a map that stand under their own keys: each is what a look-up of its key finds.
use Rattle.std.proofs.Common.{◌≡◌, Bool, true, List, Contains, Some, filter, sym, ◌∙◌}
use Rattle.std.specs.FinMap as finite
use Rattle.std.specs.FinMap.{FinMap, get, is_sorted}
use Rattle.kp_lemmas.proofs.Members.{from_filter, in_filter}
use Rattle.kp_base.specs.Keys.{key_cmp}
use Rattle.kp_base.specs.declared.key.ObjectKey.{ObjectKey}
use Rattle.kp_base.proofs.KeyOrder.{key_exact, key_total}
use Rattle.kp_object_defs.specs.OwnKeys.{IsUnderOwnKeys}
use Rattle.kp_object_laws.specs.ObjectLaws.{HaveSameElements}
use Rattle.kp_object_laws.proofs.OwnEntries.{filter_in_order, found_in, found_itself, owned, put_in_order}
use Rattle.kp_object_laws.proofs.OwnKeys.{found_in_values, values_in_order}

module _ {X : Type 0} (key_of : X → ObjectKey) where
  -- lists in order with the same elements are one
  pub one_in_order : (xs ys : List X) → HaveSameElements xs ys
      → is_sorted key_cmp (owned key_of xs) ≡ true → is_sorted key_cmp (owned key_of ys) ≡ true
      → xs ≡ ys
  one_in_order xs ys same first second =
      sym (put_in_order key_total key_exact key_of xs xs (λ x. (λ c. c, λ c. c)) first)
      ∙ put_in_order key_total key_exact key_of xs ys same second

  module _ (m : FinMap key_cmp X) (own : IsUnderOwnKeys key_of m) where
    -- what a look-up finds under its own key is a value
    pub in_values : (x : X) → get m (key_of x) ≡ Some x → Contains (finite.values m) x
    in_values x at =
        (found_in key_total key_exact key_of (key_of x) (finite.values m) x
        (found_in_values key_of m own (key_of x) ∙ at)).0

    -- and so each value is found
    pub from_values : (x : X) → Contains (finite.values m) x → get m (key_of x) ≡ Some x
    from_values x c =
        sym (found_in_values key_of m own (key_of x))
        ∙ found_itself key_total key_exact key_of (finite.values m)
        (values_in_order key_of m own) x c

    module _ (p : X → Bool) where
      -- the values that pass are in order
      pub passing_in_order : is_sorted key_cmp (owned key_of (filter p (finite.values m))) ≡ true
      passing_in_order =
          filter_in_order key_total key_exact key_of p (finite.values m)
          (values_in_order key_of m own)

      pub in_passing : (x : X) → get m (key_of x) ≡ Some x → p x ≡ true
          → Contains (filter p (finite.values m)) x
      in_passing x at is = in_filter p x (finite.values m) (in_values x at) is

      pub from_passing : (x : X) → Contains (filter p (finite.values m)) x
          → (get m (key_of x) ≡ Some x) × (p x ≡ true)
      from_passing x c =
          let both = from_filter p x (finite.values m) c in (from_values x both.0, both.1)

  -- two maps have the same values that pass, where each of these that stands in one stands in both
  pub passing_alike : (p : X → Bool) (m n : FinMap key_cmp X)
      → IsUnderOwnKeys key_of m → IsUnderOwnKeys key_of n
      → ((x : X) → p x ≡ true → get m (key_of x) ≡ Some x → get n (key_of x) ≡ Some x)
      → ((x : X) → p x ≡ true → get n (key_of x) ≡ Some x → get m (key_of x) ≡ Some x)
      → filter p (finite.values m) ≡ filter p (finite.values n)
  passing_alike p m n own_m own_n there back =
      one_in_order _ _ (λ x. (
        λ c. let both = from_passing m own_m p x c in
            in_passing n own_n p x (there x both.1 both.0) both.1,
        λ c. let both = from_passing n own_n p x c in
            in_passing m own_m p x (back x both.1 both.0) both.1,
      )) (passing_in_order m own_m p) (passing_in_order n own_n p)
