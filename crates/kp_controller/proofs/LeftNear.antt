-- The slices that are left over are near to the Services that their labels name, so they are found
-- by these.
use Rattle.std.proofs.Common.{◌≡◌, Bool, true, false, true≢false, cond, not, ℕ, List, [], map, filter, flat_map, Contains, Option, Some, None, refl, sym, ap, subst, ◌∙◌}
use Rattle.std.specs.List.{list_any}
use Rattle.std.specs.Cmp.{eq_by_cmp_equiv}
use Rattle.std.specs.Cmp.Lexicographic.{nat_list_eq_equiv}
use Rattle.std.specs.Ordering.{eq_by_cmp}
use Rattle.std.specs.FinMap as finite
use Rattle.std.specs.FinMap.{contains_key-keys, get, same_map}
use Rattle.std.proofs.lemmas.Bool.{and_from, and_parts, false_from_ne_true}
use Rattle.std.proofs.lemmas.Map.Views.{Contains-from_any, list_any-from_Contains}
use Rattle.std.proofs.lemmas.Option.{same_Some}
use Rattle.kp_lemmas.proofs.Members.{from_filter, from_flat_map, from_map, in_filter, in_flat_map, in_map, none_in}
use Rattle.kp_lemmas.proofs.Orders.{one_from_tie}
use Rattle.kp_base.specs.Keys.{key_cmp}
use Rattle.kp_base.specs.declared.key.ObjectKey.{ObjectKey}
use Rattle.kp_base.proofs.KeyOrder.{key_total, key_exact}
use Rattle.kp_types.specs.declared.slice.Slice.{Slice}
use Rattle.kp_object_defs.specs.Entries.{is_named, is_of_service}
use Rattle.kp_object_defs.specs.Objects.{Objects}
use Rattle.kp_object_defs.specs.OwnKeys.{IsUnderOwnKeys}
use Rattle.kp_object_defs.specs.SlicesNow.{Slices, is_leftover, names_absent, without_leftovers}
use Rattle.kp_settle_laws.specs.Settled.{AreLeftBy}
use Rattle.kp_settle_laws.proofs.Found.{found_without as found_unless_left, kept}
use Rattle.kp_settle_laws.proofs.Managed.{absent_by_label}
use Rattle.kp_settle_laws.proofs.OwnValues.{from_values, in_values}
use Rattle.kp_store.specs.Indexes.{Keys}
use Rattle.kp_controller.specs.Clashing.{may_clash}
use Rattle.kp_controller.specs.Replaced.{without_keys}
use Rattle.kp_controller.specs.Settling.{left_near}
use Rattle.kp_controller.proofs.Kept.{found_without}
use Rattle.kp_controller.proofs.Narrowed.{own_may_clash}

-- a slice that is left over is labelled
labelled : (o : Objects) (s : Slice) → is_leftover o s ≡ true
    → (service : ObjectKey) × (is_of_service service s ≡ true)
labelled o s left = by s.service (and_parts s.managed _ left).1 refl
  where
    by : (label : Option (List ℕ)) → names_absent o s.key.namespace label ≡ true
        → s.service ≡ label → (service : ObjectKey) × (is_of_service service s ≡ true)
    by None absent is = absurd (cc)
    by (Some name) absent is = (
      record { namespace = s.key.namespace; name = name },
      and_from _ _ (nat_list_eq_equiv.refl s.key.namespace)
          (ap (is_named name) is ∙ nat_list_eq_equiv.refl name),
    )

module _ (o : Objects) (m : Slices) (own : IsUnderOwnKeys (λ (s : Slice). s.key) m) (keys : Keys)
    (left : AreLeftBy (λ k. finite.contains_key keys k) o m) where
  abbrev found_keys : List ObjectKey
  found_keys = flat_map (left_near o m) (finite.keys keys)

  near_one : (service : ObjectKey) (s : Slice) → get m s.key ≡ Some s → is_leftover o s ≡ true
      → is_of_service service s ≡ true → Contains (left_near o m service) s.key
  near_one service s at is of =
      let absent = sym (absent_by_label o service s of) ∙ (and_parts s.managed _ is).1 in
      by (finite.contains_key o.services service) absent
    where
      by : (b : Bool) → not b ≡ true
          → Contains (cond b [] (map (λ (t : Slice). t.key)
          (filter (is_leftover o) (filter (may_clash service) (finite.values m))))) s.key
      by true h = absurd (cc)
      by false h =
          in_map (λ (t : Slice). t.key) s _ (in_filter (is_leftover o) s _
          (in_filter (may_clash service) s (finite.values m)
          (in_values (λ (t : Slice). t.key) m own s at) (own_may_clash service s of)) is)

  is_found : (s : Slice) → get m s.key ≡ Some s → is_leftover o s ≡ true → Contains found_keys s.key
  is_found s at is =
      let owner = labelled o s is in
      let touched = sym (contains_key-keys keys owner.0) ∙ left s owner.0 at is owner.1 in
      in_flat_map (left_near o m) owner.0 s.key (finite.keys keys)
      (Contains-from_any (one_from_tie key_exact) owner.0 (finite.keys keys) touched)
      (near_one owner.0 s at is owner.1)

  found_is : (key : ObjectKey) → Contains found_keys key
      → (s : Slice) × (get m s.key ≡ Some s) × (is_leftover o s ≡ true) × (s.key ≡ key)
  found_is key c =
      let from = from_flat_map (left_near o m) key (finite.keys keys) c in
      by from.0 (finite.contains_key o.services from.0) from.2
    where
      by : (service : ObjectKey) (b : Bool)
          → Contains (cond b [] (map (λ (t : Slice). t.key)
          (filter (is_leftover o) (filter (may_clash service) (finite.values m))))) key
          → (s : Slice) × (get m s.key ≡ Some s) × (is_leftover o s ≡ true) × (s.key ≡ key)
      by service true c = absurd (none_in key c)
      by service false c =
          let (s, inside, is) = from_map (λ (t : Slice). t.key) key _ c in
          let (near, over) = from_filter (is_leftover o) s _ inside in
          let there = (from_filter (may_clash service) s (finite.values m) near).0 in
          (s, from_values (λ (t : Slice). t.key) m own s there, over, is)

  -- a key is among those that are found exactly where what the map has there is left over
  told : (q : ObjectKey) (s : Slice) → get m q ≡ Some s
      → list_any (eq_by_cmp key_cmp q) found_keys ≡ is_leftover o s
  told q s at = by (is_leftover o s) refl
    where
      same : s.key ≡ q
      same = own q s at

      by : (b : Bool) → is_leftover o s ≡ b → list_any (eq_by_cmp key_cmp q) found_keys ≡ b
      by true is =
          list_any-from_Contains (eq_by_cmp_equiv key_total) q found_keys
          (subst (Contains found_keys) same (is_found s (ap (get m) same ∙ at) is))
      by false isnt =
          false_from_ne_true _ (λ hit.
          let (t, there, over, key) =
          found_is q (Contains-from_any (one_from_tie key_exact) q found_keys hit) in
          let one : t ≡ s = same_Some t s (sym there ∙ ap (get m) key ∙ at) in
          true≢false (sym over ∙ ap (is_leftover o) one ∙ isnt))

  pub left_by_index : without_keys found_keys m ≡ without_leftovers o m
  left_by_index =
      same_map key_total key_exact _ _ (λ q.
      found_without found_keys m q ∙ by q (get m q) refl ∙ sym (found_unless_left o m q))
    where
      nothing : (b : Bool) → ◌≡◌ {A = Option Slice} (cond b None None) None
      nothing true = refl
      nothing false = refl

      turned : (b : Bool) (s : Slice) → cond b None (Some s) ≡ cond (not b) (Some s) None
      turned true s = refl
      turned false s = refl

      by : (q : ObjectKey) (found : Option Slice) → get m q ≡ found
          → cond (list_any (eq_by_cmp key_cmp q) found_keys) None (get m q)
          ≡ kept (is_leftover o) (get m q)
      by q None at =
          ap (cond (list_any (eq_by_cmp key_cmp q) found_keys) None) at
          ∙ nothing (list_any (eq_by_cmp key_cmp q) found_keys)
          ∙ sym (ap (kept (is_leftover o)) at)
      by q (Some s) at =
          (λ i. cond (told q s at i) None (at i))
          ∙ turned (is_leftover o s) s ∙ sym (ap (kept (is_leftover o)) at)
