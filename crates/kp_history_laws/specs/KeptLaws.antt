-- Contributions of ports to the tables of a family that are kept are those of the objects, where
-- those of the ports that may have changed are made anew.
use Rattle.std.specs.Prelude.{◌≡◌, false, List}
use Rattle.std.specs.FinMap as finite
use Rattle.kp_base.specs.declared.address.Family.{Family}
use Rattle.kp_base.specs.declared.key.PortKey.{PortKey}
use Rattle.kp_types.specs.Setting.{Setting, Settings, view_of}
use Rattle.kp_types.specs.declared.event.Event.{Event}
use Rattle.kp_object_defs.specs.Objects.{Objects, objects_step}
use Rattle.kp_object_defs.specs.OwnKeys.{AreUnderOwnKeys}
use Rattle.kp_table_defs.specs.Parts.{rules_of_objects}
use Rattle.kp_history_defs.specs.Affected.{affected_ports}
use Rattle.kp_history_defs.specs.Inputs.{changed_ports}
use Rattle.kp_history_defs.specs.KeptRules.{rules_at, with_rules_of}
use Rattle.kp_history_laws.specs.EventLaws.{has_port}

-- What ports of objects contribute is found by their names.
abbrev pub RulesByName : Type 0
RulesByName =
    (setting : Setting) (o : Objects) (key : PortKey)
    → AreUnderOwnKeys o → finite.get (rules_of_objects setting o) key ≡ rules_at setting o key

-- these ports made anew are enough, from some objects to others
abbrev pub AreEnough : Setting → Objects → Objects → List PortKey → Type 0
AreEnough setting before after keys =
    with_rules_of setting after keys (rules_of_objects setting before)
    ≡ rules_of_objects setting after

-- Ports are enough where they hold each port whose contribution changed.
abbrev pub EnoughByRules : Type 0
EnoughByRules =
    (setting : Setting) (before after : Objects) (keys : List PortKey)
    → AreUnderOwnKeys before → AreUnderOwnKeys after
    → ((key : PortKey) → has_port keys key ≡ false
    → rules_at setting after key ≡ rules_at setting before key)
    → AreEnough setting before after keys

-- So are those that an event affects.
abbrev pub AffectedAreEnough : Type 0
AffectedAreEnough =
    (settings : Settings) (family : Family) (o : Objects) (event : Event) → AreUnderOwnKeys o
    → AreEnough (view_of family settings) o (objects_step o event) (affected_ports settings o event)

-- So are those whose inputs changed.
abbrev pub ChangedAreEnough : Type 0
ChangedAreEnough =
    (settings : Settings) (family : Family) (before after : Objects)
    → AreUnderOwnKeys before → AreUnderOwnKeys after
    → AreEnough (view_of family settings) before after (changed_ports settings before after)
