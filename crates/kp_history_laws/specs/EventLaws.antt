-- An event leaves what a port is made of, where it doesn't affect the port.
use Rattle.std.specs.Prelude.{◌≡◌, Bool, false, List}
use Rattle.std.specs.List.{list_any}
use Rattle.std.specs.Ordering.{eq_by_cmp}
use Rattle.kp_base.specs.Keys.{port_key_cmp}
use Rattle.kp_base.specs.declared.address.Family.{Family}
use Rattle.kp_base.specs.declared.key.PortKey.{PortKey}
use Rattle.kp_types.specs.Setting.{Settings, view_of}
use Rattle.kp_types.specs.declared.event.Event.{Event}
use Rattle.kp_object_defs.specs.Objects.{Objects, objects_step}
use Rattle.kp_object_defs.specs.OwnKeys.{AreUnderOwnKeys}
use Rattle.kp_history_defs.specs.Affected.{affects, affected_ports}
use Rattle.kp_history_defs.specs.Inputs.{inputs_of}
use Rattle.kp_history_defs.specs.KeptRules.{rules_at}

-- whether a port is in a list
abbrev pub has_port : List PortKey → PortKey → Bool
has_port keys key = list_any (eq_by_cmp port_key_cmp key) keys

-- An event that doesn't affect the ports of a Service leaves the inputs of each.
abbrev pub UnaffectedService : Type 0
UnaffectedService =
    (settings : Settings) (o : Objects) (event : Event) (key : PortKey)
    → AreUnderOwnKeys o → affects settings o event key.object ≡ false
    → inputs_of settings (objects_step o event) key ≡ inputs_of settings o key

-- what holds of each port that an event doesn't affect
abbrev pub HoldsOfUnaffected : (Settings → Objects → Event → PortKey → Type 0) → Type 0
HoldsOfUnaffected P =
    (settings : Settings) (o : Objects) (event : Event) (key : PortKey)
    → AreUnderOwnKeys o → has_port (affected_ports settings o event) key ≡ false
    → P settings o event key

-- An event leaves the inputs of each port that isn't among the affected ones.
abbrev pub UnaffectedInputs : Type 0
UnaffectedInputs =
    HoldsOfUnaffected (λ settings o event key.
    inputs_of settings (objects_step o event) key ≡ inputs_of settings o key)

-- So it leaves its contribution to the tables of each family.
abbrev pub UnaffectedRules : Type 0
UnaffectedRules =
    (family : Family)
    → HoldsOfUnaffected (λ settings o event key.
    rules_at (view_of family settings) (objects_step o event) key
    ≡ rules_at (view_of family settings) o key)
