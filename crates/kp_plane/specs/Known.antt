-- What a writer knows of ports while events come in.
use Rattle.std.specs.Prelude.{◌≡◌, ℕ, Bool, true, false, List, filter}
use Rattle.std.specs.FinMap as finite
use Rattle.std.specs.List.{filter_map, flat_map, list_any}
use Rattle.std.specs.List.Sorted.{IsStrictlySortedBy}
use Rattle.std.specs.Ordering.{eq_by_cmp}
use Rattle.kp_base.specs.Keys.{key_cmp, port_key_cmp}
use Rattle.kp_base.specs.declared.key.ObjectKey.{ObjectKey}
use Rattle.kp_base.specs.declared.key.PortKey.{PortKey}
use Rattle.kp_types.specs.Setting.{Setting}
use Rattle.kp_object_defs.specs.Objects.{Objects}
use Rattle.kp_object_defs.specs.PortByKey.{info_at}
use Rattle.kp_object_defs.specs.PortInfo.{PortInfo}
use Rattle.kp_known_ports.specs.Known.{port_count}
use Rattle.kp_blocks.specs.Joined.{is_port_of}
use Rattle.kp_writer_laws.specs.LocalLaws.{is_one_of}
use Rattle.kp_writer.specs.Known.{port_keys_at}
use Rattle.kp_writer.specs.Old.{unwritten}
use Rattle.kp_writer.specs.Shared.{shared_rule_count}
use Rattle.kp_writer.specs.Written.{Ports}

-- of a port the same is known as the objects tell
abbrev pub IsKnown : Setting → Objects → Ports → PortKey → Type 0
IsKnown setting o ports key = finite.get ports key ≡ info_at setting.family setting.config o key

-- of each port of other Services than those that a test tells
abbrev pub KnowsOthers : Setting → Objects → (ObjectKey → Bool) → Ports → Type 0
KnowsOthers setting o told ports =
    (key : PortKey) → told key.object ≡ false → IsKnown setting o ports key

-- whether a Service is one of some
abbrev pub is_listed : List ObjectKey → ObjectKey → Bool
is_listed services service = list_any (eq_by_cmp key_cmp service) services

-- whether a port is one of theirs
abbrev pub is_port_of_one : List ObjectKey → PortKey → Bool
is_port_of_one services key = is_listed services key.object

-- of each port of a Service
abbrev pub KnowsService : Setting → Objects → ObjectKey → Ports → Type 0
KnowsService setting o service ports =
    (key : PortKey) → is_port_of service key ≡ true → IsKnown setting o ports key

-- Objects after others tell the same of each port whose Service isn't touched after, and it wasn't
-- touched before.
abbrev pub LeavesUntouched :
    Setting → Objects → (ObjectKey → Bool) → Objects → (ObjectKey → Bool) → Type 0
LeavesUntouched setting o touched p more =
    (key : PortKey) → more key.object ≡ false
    → (touched key.object ≡ false)
    × (info_at setting.family setting.config p key ≡ info_at setting.family setting.config o key)

-- how many ports the Services of these keys have, where they are there
abbrev pub asked_count : Objects → List ObjectKey → ℕ
asked_count o services = port_count (filter_map (finite.get o.services) services)

-- what objects tell of the ports of Services, one Service after another
abbrev pub infos_in : Setting → Objects → List ObjectKey → List PortInfo
infos_in setting o services =
    filter_map (info_at setting.family setting.config o) (flat_map (port_keys_at o) services)

-- how many rules in the shared chains those of them have of which something else was written
abbrev pub made_count : Setting → Ports → Objects → List ObjectKey → ℕ
made_count setting written o services =
    shared_rule_count setting (unwritten written (infos_in setting o services))

-- among names of ports in order each stands of which objects tell something else than was written
pub record AreDirty (setting : Setting) (written : Ports) (o : Objects) (keys : List PortKey)
    : Type 0 where
  pub in_order : IsStrictlySortedBy port_key_cmp keys
  pub rest : (key : PortKey) → is_one_of keys key ≡ false → IsKnown setting o written key

-- how many rules the ports of these names have in the shared chains
abbrev pub rules_of : Setting → Objects → List PortKey → ℕ
rules_of setting o keys =
    shared_rule_count setting (filter_map (info_at setting.family setting.config o) keys)

-- how many ports the Services have whose keys pass a test
abbrev pub touched_count : Objects → (ObjectKey → Bool) → ℕ
touched_count o touched = port_count (filter (λ s. touched s.key) (finite.values o.services))
