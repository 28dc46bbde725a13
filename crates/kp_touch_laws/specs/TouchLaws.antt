-- An event leaves what the ports of a Service are made of, where it doesn't touch the Service.
use Rattle.std.specs.Prelude.{◌≡◌, ◌||◌, Bool, false, List, [], ◌∷◌, Option}
use Rattle.std.specs.List.{fold}
use Rattle.kp_base.specs.declared.address.Family.{Family}
use Rattle.kp_base.specs.declared.key.ObjectKey.{ObjectKey}
use Rattle.kp_base.specs.declared.key.PortKey.{PortKey}
use Rattle.kp_types.specs.Setting.{Settings, config_of_family, view_of}
use Rattle.kp_types.specs.declared.event.Event.{Event}
use Rattle.kp_object_defs.specs.Objects.{Objects, objects_step}
use Rattle.kp_object_defs.specs.OwnKeys.{AreUnderOwnKeys}
use Rattle.kp_object_defs.specs.PortByKey.{info_at}
use Rattle.kp_object_defs.specs.PortInfo.{PortInfo}
use Rattle.kp_table_defs.specs.Parts.{PortRules}
use Rattle.kp_history_defs.specs.Inputs.{inputs_of}
use Rattle.kp_history_defs.specs.KeptRules.{rules_at}
use Rattle.kp_touch_defs.specs.Touches.{touches}

-- an event touches a Service, as the settings have it
abbrev pub touches_in : Settings → Objects → Event → ObjectKey → Bool
touches_in settings o event service =
    touches settings.config.node settings.config.controller o event service

-- one of events does, each over the objects after those before it
abbrev pub touches_one : Settings → Objects → List Event → ObjectKey → Bool
touches_one settings o [] service = false
touches_one settings o (e ∷ es) service =
    touches_in settings o e service || touches_one settings (objects_step o e) es service

-- what an event leaves of the ports of each Service that it doesn't touch
abbrev pub LeavesUntouched : {X : Type 0} → (Settings → Objects → PortKey → X) → Type 0
LeavesUntouched {X} of =
    (settings : Settings) (o : Objects) (event : Event) (key : PortKey)
    → AreUnderOwnKeys o → touches_in settings o event key.object ≡ false
    → of settings (objects_step o event) key ≡ of settings o key

-- and what events leave, one after the other, where none of them touches the Service
abbrev pub LeaveByAll : {X : Type 0} → (Settings → Objects → PortKey → X) → Type 0
LeaveByAll {X} of =
    (settings : Settings) (o : Objects) (events : List Event) (key : PortKey)
    → AreUnderOwnKeys o → touches_one settings o events key.object ≡ false
    → of settings (fold objects_step o events) key ≡ of settings o key

-- The event leaves the inputs of the ports: their Service, their endpoints with their hints, and
-- the zone of the proxy's own node.
abbrev pub UntouchedInputs : Type 0
UntouchedInputs = LeavesUntouched inputs_of

-- So do events,
abbrev pub InputsByAll : Type 0
InputsByAll = LeaveByAll inputs_of

-- what is known of a port in a family
abbrev pub known_at : Family → Settings → Objects → PortKey → Option PortInfo
known_at family settings o key = info_at family (config_of_family family settings.config) o key

-- so an event leaves what is known of them in each family,
abbrev pub UntouchedInfos : Type 0
UntouchedInfos = (family : Family) → LeavesUntouched (known_at family)

-- so do events,
abbrev pub InfosByAll : Type 0
InfosByAll = (family : Family) → LeaveByAll (known_at family)

-- what a port contributes to the tables of a family
abbrev pub rules_in : Family → Settings → Objects → PortKey → Option PortRules
rules_in family settings o key = rules_at (view_of family settings) o key

-- and an event leaves that too,
abbrev pub UntouchedRules : Type 0
UntouchedRules = (family : Family) → LeavesUntouched (rules_in family)

-- as events do.
abbrev pub RulesByAll : Type 0
RulesByAll = (family : Family) → LeaveByAll (rules_in family)
