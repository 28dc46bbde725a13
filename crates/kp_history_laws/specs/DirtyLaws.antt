-- What the list of dirty ports of a family holds, of which something else is known than before.
use Rattle.std.specs.Prelude.{◌≡◌, true, false, [], map}
use Rattle.std.specs.FinMap.{find}
use Rattle.kp_base.specs.Keys.{port_key_cmp}
use Rattle.kp_base.specs.declared.address.Family.{Family}
use Rattle.kp_base.specs.declared.key.PortKey.{PortKey}
use Rattle.kp_types.specs.Setting.{Setting, Settings, view_of}
use Rattle.kp_object_defs.specs.Objects.{Objects}
use Rattle.kp_object_defs.specs.Order.{rises}
use Rattle.kp_object_defs.specs.OwnKeys.{AreUnderOwnKeys}
use Rattle.kp_object_defs.specs.PortByKey.{info_at}
use Rattle.kp_object_defs.specs.PortInfo.{port_infos}
use Rattle.kp_history_defs.specs.DirtyPorts.{dirty_keys}
use Rattle.kp_history_defs.specs.Inputs.{changed_ports}
use Rattle.kp_history_laws.specs.EventLaws.{has_port}

-- What is known of the ports of some objects is found by the ports' names.
abbrev pub InfosByName : Type 0
InfosByName =
    (setting : Setting) (o : Objects) (key : PortKey) → AreUnderOwnKeys o
    → find port_key_cmp key (map (λ i. (i.key, i)) (port_infos setting.family setting.config o))
    ≡ info_at setting.family setting.config o key

-- the same is known of a port of some objects as of that of others
abbrev pub AreKnownAlike : Setting → Objects → Objects → PortKey → Type 0
AreKnownAlike setting before after key =
    info_at setting.family setting.config after key
    ≡ info_at setting.family setting.config before key

-- Of a dirty port something else is known.
abbrev pub DirtyInfos : Type 0
DirtyInfos =
    (setting : Setting) (before after : Objects) (key : PortKey)
    → has_port (dirty_keys setting before after) key ≡ true
    → AreKnownAlike setting before after key → ⊥

-- Of each other port the same is known.
abbrev pub CleanInfos : Type 0
CleanInfos =
    (setting : Setting) (before after : Objects) (key : PortKey)
    → AreUnderOwnKeys before → AreUnderOwnKeys after
    → has_port (dirty_keys setting before after) key ≡ false
    → AreKnownAlike setting before after key

-- Each dirty port of a family is one whose inputs changed.
abbrev pub DirtyAreChanged : Type 0
DirtyAreChanged =
    (settings : Settings) (family : Family) (before after : Objects) (key : PortKey)
    → AreUnderOwnKeys before → AreUnderOwnKeys after
    → has_port (dirty_keys (view_of family settings) before after) key ≡ true
    → has_port (changed_ports settings before after) key ≡ true

-- Between the same objects no port is dirty.
abbrev pub NoneDirty : Type 0
NoneDirty = (setting : Setting) (o : Objects) → dirty_keys setting o o ≡ []

-- Dirty ports stand in order, each once.
abbrev pub DirtyInOrder : Type 0
DirtyInOrder =
    (setting : Setting) (before after : Objects)
    → rises port_key_cmp (dirty_keys setting before after) ≡ true
