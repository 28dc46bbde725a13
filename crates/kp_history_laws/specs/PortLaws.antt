-- What the lists of changed and of affected ports hold.
use Rattle.std.specs.Prelude.{◌≡◌, true, false, []}
use Rattle.kp_base.specs.Keys.{port_key_cmp}
use Rattle.kp_base.specs.declared.key.PortKey.{PortKey}
use Rattle.kp_types.specs.Setting.{Settings}
use Rattle.kp_types.specs.declared.event.Event.{Event}
use Rattle.kp_object_defs.specs.Objects.{Objects, objects_step}
use Rattle.kp_object_defs.specs.Order.{rises}
use Rattle.kp_object_defs.specs.OwnKeys.{AreUnderOwnKeys}
use Rattle.kp_history_defs.specs.Affected.{affected_ports}
use Rattle.kp_history_defs.specs.Inputs.{inputs_of, changed_ports}
use Rattle.kp_history_laws.specs.EventLaws.{has_port}

-- A changed port has other inputs.
abbrev pub ChangedInputs : Type 0
ChangedInputs =
    (settings : Settings) (before after : Objects) (key : PortKey)
    → has_port (changed_ports settings before after) key ≡ true
    → inputs_of settings after key ≡ inputs_of settings before key → ⊥

-- Each other port has the same.
abbrev pub UnchangedInputs : Type 0
UnchangedInputs =
    (settings : Settings) (before after : Objects) (key : PortKey)
    → AreUnderOwnKeys before → AreUnderOwnKeys after
    → has_port (changed_ports settings before after) key ≡ false
    → inputs_of settings after key ≡ inputs_of settings before key

-- Between the same objects, as where changes were undone, no port changed.
abbrev pub NoneChanged : Type 0
NoneChanged = (settings : Settings) (o : Objects) → changed_ports settings o o ≡ []

-- An event affects each port that it changes.
abbrev pub AffectedHoldChanged : Type 0
AffectedHoldChanged =
    (settings : Settings) (o : Objects) (event : Event) (key : PortKey) → AreUnderOwnKeys o
    → has_port (changed_ports settings o (objects_step o event)) key ≡ true
    → has_port (affected_ports settings o event) key ≡ true

-- Changed ports stand in order, each once.
abbrev pub ChangedInOrder : Type 0
ChangedInOrder =
    (settings : Settings) (before after : Objects)
    → rises port_key_cmp (changed_ports settings before after) ≡ true

-- So do affected ports.
abbrev pub AffectedInOrder : Type 0
AffectedInOrder =
    (settings : Settings) (o : Objects) (event : Event)
    → rises port_key_cmp (affected_ports settings o event) ≡ true
