-- Events that lead past a Service: from some objects to others, and none of them touches it.
use Rattle.std.specs.Prelude.{◌≡◌, Bool, false, List}
use Rattle.std.specs.List.{fold}
use Rattle.kp_base.specs.declared.key.ObjectKey.{ObjectKey}
use Rattle.kp_types.specs.Setting.{Settings}
use Rattle.kp_types.specs.declared.event.Event.{Event}
use Rattle.kp_object_defs.specs.Objects.{Objects, objects_step}
use Rattle.kp_touch_laws.specs.TouchLaws.{touches_one}

-- Such events, for the Service of this key. What an event leaves of each Service that it doesn't
-- touch stays over all of them.
pub record LeadPast (settings : Settings) (o p : Objects) (service : ObjectKey) : Type 0 where
  pub events : List Event
  pub leads : p ≡ fold objects_step o events
  pub past : touches_one settings o events service ≡ false

-- there are some for each Service that a test doesn't tell
abbrev pub LeadPastOthers : Settings → Objects → Objects → (ObjectKey → Bool) → Type 0
LeadPastOthers settings o p touched =
    (service : ObjectKey) → touched service ≡ false → LeadPast settings o p service

-- Those that a test doesn't tell later, another test didn't tell before; and events that led past
-- one of them from anywhere lead on past it.
abbrev pub GoesOnPast :
    Settings → Objects → (ObjectKey → Bool) → Objects → (ObjectKey → Bool) → Type 0
GoesOnPast settings before old after new =
    (from : Objects) (service : ObjectKey) → new service ≡ false
    → (old service ≡ false)
    × (LeadPast settings from before service → LeadPast settings from after service)
