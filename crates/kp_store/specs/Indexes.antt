-- Keys of objects by what the objects are found by, their tags: a bucket for each tag.
use Rattle.std.specs.Prelude.{◌≡◌, ℕ, ◌&&◌, ◌||◌, not, Bool, true, false, List, [], ◌∷◌, take, Option, Some, None}
use Rattle.std.specs.List.{list_any}
use Rattle.std.specs.Option.{unwrap_or}
use Rattle.std.specs.Ordering.{eq_by_cmp}
use Rattle.std.specs.Map.{lookup}
use Rattle.std.specs.FinMap as finite
use Rattle.kp_base.specs.Keys.{key_cmp}
use Rattle.kp_base.specs.declared.key.ObjectKey.{ObjectKey}

-- keys, as a map to nothing
abbrev pub Keys : Type 0
Keys = finite.FinMap key_cmp (Unit {0})

-- more keys beside keys
abbrev pub with_keys : List ObjectKey → Keys → Keys
with_keys [] keys = keys
with_keys (k ∷ ks) keys = finite.insert (with_keys ks keys) k tt

-- no key stands twice, neither in the list nor there and beside it
abbrev pub are_once : List ObjectKey → Keys → Bool
are_once [] keys = true
are_once (k ∷ ks) keys = not (finite.contains_key (with_keys ks keys) k) && are_once ks keys

-- same is the test of tags
module _ {T : Type 0} (same : T → T → Bool) where
  -- a tag is among tags
  abbrev pub is_among : List T → T → Bool
  is_among tags t = list_any (same t) tags

  -- the bucket of a tag
  abbrev pub bucket : List (T × Keys) → T → Keys
  bucket buckets t = unwrap_or (lookup (same t) buckets) finite.empty

  -- a key stands in the bucket of a tag
  abbrev pub has : List (T × Keys) → T → ObjectKey → Bool
  has buckets t k = finite.contains_key (bucket buckets t) k

  -- no bucket is empty: what a tag finds has a key
  abbrev pub AreFilled : List (T × Keys) → Type 0
  AreFilled buckets = (t : T) → ¬ (lookup (same t) buckets ≡ Some finite.empty)

  -- no bucket but that of this tag is empty
  abbrev pub AreFilledBut : T → List (T × Keys) → Type 0
  AreFilledBut tag buckets =
      (t : T) → same tag t ≡ false → ¬ (lookup (same t) buckets ≡ Some finite.empty)

  -- t and k are this tag and this key
  abbrev pub is_pair : T → ObjectKey → T → ObjectKey → Bool
  is_pair tag key t k = same t tag && eq_by_cmp key_cmp k key

  -- t is among the tags, and k is this key
  abbrev pub is_tag_of : List T → ObjectKey → T → ObjectKey → Bool
  is_tag_of tags key t k = eq_by_cmp key_cmp k key && is_among tags t

  -- the key was added to the buckets of some first tags
  abbrev pub IsPartly : List T → ObjectKey → List (T × Keys) → List (T × Keys) → Type 0
  IsPartly tags key before after =
      (i : ℕ)
      × ((t : T) (k : ObjectKey) → has after t k ≡ is_tag_of (take i tags) key t k || has before t k)

  -- the object, if there is one, has a tag
  abbrev pub is_tagged : {X : Type 0} → (X → List T) → T → Option X → Bool
  is_tagged tags t None = false
  is_tagged tags t (Some x) = is_among (tags x) t

  -- each bucket has the keys of the objects with its tag
  abbrev pub IsIndexOf : {X : Type 0} → (X → List T) → finite.FinMap key_cmp X → List (T × Keys) → Type 0
  IsIndexOf tags objects buckets =
      (t : T) (k : ObjectKey) → has buckets t k ≡ is_tagged tags t (finite.get objects k)
