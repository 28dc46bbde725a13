-- The ports of which something else is known in a family than before, told by what is known of each
-- port and not by what that is made of: these are at most the ports whose inputs changed.
use Rattle.std.specs.Prelude.{◌==◌, ◌&&◌, Bool, List, map, not}
use Rattle.std.specs.List.{filter}
use Rattle.std.specs.Option.{option_eq}
use Rattle.std.specs.Cmp.Lexicographic.{pointwise}
use Rattle.std.specs.contracts.prelude.BoolPartialEq.TheImpl as bool_eq
use Rattle.kp_base.specs.contracts.address.AddressPartialEq.TheImpl as address_eq
use Rattle.kp_base.specs.contracts.key.EndpointPartialEq.TheImpl as endpoint_eq
use Rattle.kp_base.specs.contracts.key.PortKeyPartialEq.TheImpl as key_eq
use Rattle.kp_base.specs.contracts.range.CidrPartialEq.TheImpl as range_eq
use Rattle.kp_base.specs.declared.key.PortKey.{PortKey}
use Rattle.kp_types.specs.Setting.{Setting}
use Rattle.kp_types.specs.contracts.service.PolicyPartialEq.TheImpl as policy_eq
use Rattle.kp_types.specs.declared.lists.Lists.{Lists}
use Rattle.kp_object_defs.specs.Objects.{Objects}
use Rattle.kp_object_defs.specs.PortByKey.{info_at}
use Rattle.kp_object_defs.specs.PortInfo.{PortInfo}
use Rattle.kp_history_defs.specs.Inputs.{ports_of_either}
use Rattle.kp_history_defs.specs.declared.dirty.DirtyPort.{DirtyPort}

-- whether two ports have one name and the same destinations
abbrev pub same_destinations : PortInfo → PortInfo → Bool
same_destinations a b =
    key_eq.ghosts.eq a.key b.key
    && ((a.number == b.number)
    && (address_eq.ghosts.eq a.address b.address
    && (pointwise address_eq.ghosts.eq a.external b.external
    && (pointwise address_eq.ghosts.eq a.balancer b.balancer
    && option_eq (λ p q. p == q) a.node_port b.node_port))))

-- whether two ports let in and choose alike
abbrev pub same_policies : PortInfo → PortInfo → Bool
same_policies a b =
    option_eq (pointwise range_eq.ghosts.eq) a.ranges b.ranges
    && (option_eq (λ s t. s == t) a.affinity b.affinity
    && (policy_eq.ghosts.eq a.internal b.internal && policy_eq.ghosts.eq a.outer b.outer))

-- whether two ports have the same endpoints
abbrev pub same_lists : Lists → Lists → Bool
same_lists a b =
    pointwise endpoint_eq.ghosts.eq a.cluster b.cluster
    && (pointwise endpoint_eq.ghosts.eq a.local b.local && bool_eq.ghosts.eq a.has_any b.has_any)

-- whether the same is known of two ports
abbrev pub same_info : PortInfo → PortInfo → Bool
same_info a b = same_destinations a b && (same_policies a b && same_lists a.lists b.lists)

-- whether the same is known of a port before and after
abbrev pub keeps_info : Setting → Objects → Objects → PortKey → Bool
keeps_info setting before after key =
    option_eq same_info (info_at setting.family setting.config before key)
    (info_at setting.family setting.config after key)

-- a port, with what was known of it before
abbrev pub dirty_port : Setting → Objects → PortKey → DirtyPort
dirty_port setting before key =
    record { key = key; before = info_at setting.family setting.config before key }

-- the names of the ports of which something else is known after than before, in order
abbrev pub dirty_keys : Setting → Objects → Objects → List PortKey
dirty_keys setting before after =
    filter (λ key. not (keeps_info setting before after key)) (ports_of_either before after)

-- these ports
abbrev pub dirty_ports : Setting → Objects → Objects → List DirtyPort
dirty_ports setting before after = map (dirty_port setting before) (dirty_keys setting before after)
