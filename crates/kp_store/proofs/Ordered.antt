-- Keys that are put in order are those of the entries, and the objects found by them are all.
use Rattle.std.proofs.Common.{◌≡◌, true, false, List, [], ◌∷◌, map, filter, Option, Some, None, is_some, refl, ap, ◌∙◌}
use Rattle.std.specs.List.{filter_map, list_any}
use Rattle.std.specs.Option.{unwrap_or}
use Rattle.std.specs.Ordering.{eq_by_cmp}
use Rattle.std.specs.FinMap as finite
use Rattle.std.specs.FinMap.{FinMap, contains_key, empty, entries, from_entries, get, get-empty, get-from_entries}
use Rattle.std.specs.FinMap.Entries.{is_some-find}
use Rattle.kp_base.specs.Keys.{key_cmp}
use Rattle.kp_base.specs.declared.key.ObjectKey.{ObjectKey}
use Rattle.kp_base.proofs.KeyOrder.{key_total}
use Rattle.kp_store.specs.Indexes.{Keys}
use Rattle.kp_store.proofs.Found.{passes, bucket_keys, found_passes}

-- no key is there before the first
pub none_before : (k : ObjectKey) → contains_key (empty {X = Unit {0}} {R = key_cmp}) k ≡ false
none_before k = ap is_some (get-empty {X = Unit {0}} key_cmp k)

-- nor where there is no bucket
pub unused : (o : Option Keys) (k : ObjectKey) → is_some o ≡ false → contains_key (unwrap_or o empty) k ≡ false
unused None k h = none_before k
unused (Some keys) k h = absurd (cc)

-- the keys of a map are those of its entries
pub has_entries : {X : Type 0} (k : ObjectKey) (es : List (ObjectKey × X))
    → contains_key (from_entries {R = key_cmp} es) k
    ≡ list_any (eq_by_cmp key_cmp k) (map (λ e. e.0) es)
has_entries k es = ap is_some (get-from_entries key_total es k) ∙ is_some-find key_cmp k es

all_pass : {X : Type 0} (xs : List X) → filter (λ x. true) xs ≡ xs
all_pass [] = refl
all_pass (x ∷ xs) = ap (λ ys. x ∷ ys) (all_pass xs)

module _ {X : Type 0} (m : FinMap key_cmp X) (keys : Keys)
    (has : (k : ObjectKey) → contains_key keys k ≡ contains_key m k) where
  each_passes : (k : ObjectKey) → contains_key keys k ≡ passes (λ (x : X). true) (get m k)
  each_passes k = has k ∙ by (get m k)
    where
      by : (o : Option X) → is_some o ≡ passes (λ (x : X). true) o
      by None = refl
      by (Some x) = refl

  -- the keys of a map, in order
  pub ordered_keys : finite.keys keys ≡ finite.keys m
  ordered_keys =
      bucket_keys (λ (x : X). true) m keys each_passes
      ∙ ap (map (λ e. e.0)) (all_pass (entries m))

  -- and its values
  pub ordered_values : filter_map (get m) (finite.keys keys) ≡ finite.values m
  ordered_values =
      found_passes (λ (x : X). true) m keys each_passes ∙ all_pass (finite.values m)
