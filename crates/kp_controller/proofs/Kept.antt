-- Slices without those that pass a test: taken out by their keys, they are those of the other entries.
use Rattle.std.proofs.Common.{◌≡◌, Bool, true, false, cond, not, ◌||◌, List, [], ◌∷◌, map, filter, Option, Some, None, refl, sym, ap, ◌∙◌}
use Rattle.std.specs.List.{list_any}
use Rattle.std.specs.Ordering.{eq_by_cmp}
use Rattle.std.specs.FinMap as finite
use Rattle.std.specs.FinMap.{find, is_sorted, get-entries, get-remove, get-from_entries, entries_sorted, same_map}
use Rattle.std.specs.FinMap.Entries.{below_all}
use Rattle.std.proofs.lemmas.Bool.{and_parts}
use Rattle.kp_lemmas.proofs.Booleans.{true_from_fact}
use Rattle.kp_base.specs.Keys.{key_cmp}
use Rattle.kp_base.specs.declared.key.ObjectKey.{ObjectKey}
use Rattle.kp_base.proofs.KeyOrder.{key_total, key_exact}
use Rattle.kp_types.specs.declared.slice.Slice.{Slice}
use Rattle.kp_object_defs.specs.OwnKeys.{IsUnderOwnKeys}
use Rattle.kp_object_defs.specs.SlicesNow.{Slices}
use Rattle.kp_object_laws.proofs.OwnEntries.{AreOwn, own_entries}
use Rattle.kp_settle_laws.proofs.Found.{found_others, kept, not_behind, others}
use Rattle.kp_controller.specs.Replaced.{without_keys}

-- what is found once keys are taken out
pub found_without : (keys : List ObjectKey) (m : Slices) (q : ObjectKey)
    → finite.get (without_keys keys m) q
    ≡ cond (list_any (eq_by_cmp key_cmp q) keys) None (finite.get m q)
found_without [] m q = refl
found_without (k ∷ ks) m q = found_without ks (finite.remove m k) q ∙ ap (cond (list_any (eq_by_cmp key_cmp q) ks) None) (get-remove key_total m k q) ∙ by (eq_by_cmp key_cmp q k) (list_any (eq_by_cmp key_cmp q) ks)
  where
    by : (a b : Bool) → cond b None (cond a None (finite.get m q)) ≡ cond (a || b) None (finite.get m q)
    by true true = refl
    by true false = refl
    by false b = refl

module _ (test : Slice → Bool) where
  -- a slice is found, and it passes
  passes : Option Slice → Bool
  passes None = false
  passes (Some s) = test s

  abbrev Keys : List (ObjectKey × Slice) → List ObjectKey
  Keys es = map (λ s. s.key) (filter test (map (λ e. e.1) es))

  -- a key is one of those that pass where what is found at it passes
  key_passes : (es : List (ObjectKey × Slice)) → is_sorted key_cmp es ≡ true → AreOwn key_total key_exact (λ (s : Slice). s.key) es → (q : ObjectKey)
      → list_any (eq_by_cmp key_cmp q) (Keys es) ≡ passes (find key_cmp q es)
  unfolding passes
  key_passes [] sorted own q = refl
  key_passes (e ∷ es) sorted own q =
      let parts = and_parts (below_all key_cmp e.0 es) (is_sorted key_cmp es) sorted in
      by parts.0 (key_passes es parts.1 own.1 q) (test e.1) refl (eq_by_cmp key_cmp q e.0) refl
    where
      first : (b : Bool) → eq_by_cmp key_cmp q e.0 ≡ b → eq_by_cmp key_cmp q e.1.key ≡ b
      first b tied = ap (eq_by_cmp key_cmp q) (sym own.0) ∙ tied

      by : below_all key_cmp e.0 es ≡ true → list_any (eq_by_cmp key_cmp q) (Keys es) ≡ passes (find key_cmp q es) → (t : Bool) → test e.1 ≡ t → (b : Bool) → eq_by_cmp key_cmp q e.0 ≡ b
          → list_any (eq_by_cmp key_cmp q) (map (λ (s : Slice). s.key) (cond t (e.1 ∷ filter test (map (λ f. f.1) es)) (filter test (map (λ f. f.1) es)))) ≡ passes (cond b (Some e.1) (find key_cmp q es))
      by below rest true is true tied = ap (λ b. b || list_any (eq_by_cmp key_cmp q) (Keys es)) (first true tied) ∙ sym is
      by below rest true is false tied = ap (λ b. b || list_any (eq_by_cmp key_cmp q) (Keys es)) (first false tied) ∙ rest
      by below rest false is true tied = rest ∙ ap passes (not_behind q e es below tied) ∙ sym is
      by below rest false is false tied = rest

  kept_by : (o : Option Slice) → cond (passes o) None o ≡ kept test o
  unfolding passes
  kept_by None = refl
  kept_by (Some s) = by (test s)
    where
      by : (t : Bool) → cond t None (Some s) ≡ cond (not t) (Some s) None
      by true = refl
      by false = refl

  -- slices without those that pass are the map of the other entries
  pub without_passing : (m : Slices) → IsUnderOwnKeys (λ (s : Slice). s.key) m
      → without_keys (map (λ s. s.key) (filter test (finite.values m))) m ≡ finite.from_entries (filter (λ e. not (test e.1)) (finite.entries m))
  without_passing m own =
      let es = finite.entries m in
      let sorted : is_sorted key_cmp es ≡ true = true_from_fact (is_sorted key_cmp es) (entries_sorted m) in
      let owned = own_entries key_total key_exact (λ (s : Slice). s.key) es sorted (λ k x h. own k x (get-entries m k ∙ h)) in
      same_map key_total key_exact _ _ (λ q.
      found_without (Keys es) m q
      ∙ ap (λ b. cond b None (finite.get m q)) (key_passes es sorted owned q ∙ ap passes (sym (get-entries m q)))
      ∙ kept_by (finite.get m q)
      ∙ sym (found_others test m q)
      ∙ sym (get-from_entries key_total (others test es) q))
