-- Slices that are taken out, and slices that are put in.
use Rattle.std.specs.Prelude.{◌≡◌, Bool, false, List, [], ◌∷◌, map}
use Rattle.std.specs.List.{fold, list_any}
use Rattle.std.specs.Ordering.{eq_by_cmp}
use Rattle.std.specs.FinMap as finite
use Rattle.kp_base.specs.Keys.{key_cmp}
use Rattle.kp_base.specs.declared.key.ObjectKey.{ObjectKey}
use Rattle.kp_types.specs.declared.slice.Slice.{Slice}
use Rattle.kp_object_defs.specs.SlicesNow.{Slices}

-- slices without those of some keys
abbrev pub without_keys : List ObjectKey → Slices → Slices
without_keys keys slices = fold (λ m key. finite.remove m key) slices keys

-- slices with more of them, of which the first of a key counts
abbrev pub with_slices : List Slice → Slices → Slices
with_slices [] slices = slices
with_slices (s ∷ more) slices = finite.insert (with_slices more slices) s.key s

-- whether slices have one of a key
abbrev pub has_key : List Slice → ObjectKey → Bool
has_key slices key = list_any (eq_by_cmp key_cmp key) (map (λ s. s.key) slices)

-- Of keys that no new slice has, these are exactly those of the old ones.
abbrev pub AreGone : List Slice → List Slice → List ObjectKey → Type 0
AreGone before after keys =
    (key : ObjectKey) → has_key after key ≡ false
    → list_any (eq_by_cmp key_cmp key) keys ≡ has_key before key
