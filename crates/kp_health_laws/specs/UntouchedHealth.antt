-- What the health port of a Service answers stays where no event touches the Service.
use Rattle.std.specs.Prelude.{◌≡◌, false, List}
use Rattle.std.specs.List.{fold}
use Rattle.kp_base.specs.declared.config.Config.{Config}
use Rattle.kp_base.specs.declared.key.ObjectKey.{ObjectKey}
use Rattle.kp_types.specs.declared.event.Event.{Event}
use Rattle.kp_choice_defs.specs.Settings.{settings_of}
use Rattle.kp_object_defs.specs.Objects.{Objects, objects_step}
use Rattle.kp_object_defs.specs.OwnKeys.{AreUnderOwnKeys}
use Rattle.kp_touch_laws.specs.TouchLaws.{touches_one}
use Rattle.kp_health_defs.specs.HealthPorts.{health_at}

-- Events leave what a health port answers, where none of them touches its Service.
abbrev pub HealthByAll : Type 0
HealthByAll =
    (config : Config) (o : Objects) (events : List Event) (service : ObjectKey)
    → AreUnderOwnKeys o → touches_one (settings_of config) o events service ≡ false
    → health_at config (fold objects_step o events) service ≡ health_at config o service
