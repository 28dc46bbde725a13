-- Services that events touched, as a plane collects them.
use Rattle.std.specs.Prelude.{◌≡◌, ◌||◌, Bool}
use Rattle.kp_base.specs.declared.key.ObjectKey.{ObjectKey}
use Rattle.kp_store.specs.Touched.{is_touched}
use Rattle.kp_plane.specs.declared.collected.Collected.{Collected}

-- the Service of this key is among those that were touched
abbrev pub is_collected : Collected → ObjectKey → Bool
is_collected t service = is_touched t.last service || is_touched t.joined service

-- others are collected than before: those that a test tells as well
abbrev pub Collects : (ObjectKey → Bool) → Collected → Collected → Type 0
Collects test before after =
    (k : ObjectKey) → is_collected after k ≡ test k || is_collected before k

-- the same are collected as before
abbrev pub CollectsSame : Collected → Collected → Type 0
CollectsSame before after = (k : ObjectKey) → is_collected after k ≡ is_collected before k

-- all that are collected are joined
abbrev pub AreJoined : Collected → Type 0
AreJoined t = (k : ObjectKey) → is_touched t.joined k ≡ is_collected t k
