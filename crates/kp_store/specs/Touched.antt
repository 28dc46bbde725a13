-- Services that events touched, as they are kept: all of them, or those of some keys.
use Rattle.std.specs.Prelude.{◌≡◌, ◌||◌, Bool, true}
use Rattle.std.specs.FinMap as finite
use Rattle.kp_base.specs.declared.key.ObjectKey.{ObjectKey}
use Rattle.kp_store.specs.declared.touched.Touched.{Touched}

-- the Service of this key is among those that were touched
abbrev pub is_touched : Touched → ObjectKey → Bool
is_touched t service = t.all || finite.contains_key t.keys service

-- those that a test tells were touched too
abbrev pub AddsTo : (ObjectKey → Bool) → Touched → Touched → Type 0
AddsTo test before after =
    (k : ObjectKey) → is_touched after k ≡ test k || is_touched before k

-- all that were touched still are
abbrev pub StaysIn : Touched → Touched → Type 0
StaysIn before after =
    (k : ObjectKey) → is_touched before k ≡ true → is_touched after k ≡ true
