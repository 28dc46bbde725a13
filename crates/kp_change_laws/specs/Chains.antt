-- The law of the chains that lines of changes name: the rules of a port in nat's shared chains are
-- those of its doors, each of which jumps to the chain that its line would name.
use Rattle.std.specs.Prelude.{◌≡◌, ℕ, List, [], ◌∷◌, Option, Some, None}
use Rattle.std.specs.List.{flat_map}
use Rattle.kp_base.specs.Net.{AddressParts}
use Rattle.kp_types.specs.Rules.{rule_of}
use Rattle.kp_types.specs.Setting.{Setting}
use Rattle.kp_types.specs.declared.chain.PortChain.{PortChain}
use Rattle.kp_types.specs.declared.rule.Match.TheVariants as match
use Rattle.kp_types.specs.declared.rule.Rule.{Rule}
use Rattle.kp_types.specs.declared.rule.Target.{Target}
use Rattle.kp_types.specs.declared.rule.Target.TheVariants as target
use Rattle.kp_object_defs.specs.PortInfo.{PortInfo}
use Rattle.kp_door_defs.specs.Doors.{Door, address_doors, node_door}
use Rattle.kp_table_defs.specs.Layout.{node_port_block, port_chain, rule_at, service_block}
use Rattle.kp_change_defs.specs.DoorText.{chain_kind_at}

-- the rule for what comes to a port at an address, or at the node
abbrev pub rule_to : PortInfo → Target → Option AddressParts → ℕ → Rule
rule_to i t (Some a) number = rule_at i t a
rule_to i t None number = rule_of (match.Port i.key.proto number ∷ []) t

-- a door's rule that jumps to a chain of this kind, if there is to be one
abbrev pub jump_of : Setting → Door → Option PortChain → List Rule
jump_of setting d None = []
jump_of setting d (Some kind) =
    rule_to d.info (target.Jump (port_chain setting d.info kind)) d.address d.number ∷ []

-- a door's rule in nat, by the chain that its line names
abbrev pub rule_of_door : Setting → Door → List Rule
rule_of_door setting d = jump_of setting d (chain_kind_at d.kind d.info)

-- These are the rules of KUBE-SERVICES and of KUBE-NODEPORTS.
abbrev pub DoorsMakeTheRules : Type 0
DoorsMakeTheRules =
    (setting : Setting) (i : PortInfo)
    → (service_block setting i ≡ flat_map (rule_of_door setting) (address_doors i))
    × (node_port_block setting i ≡ flat_map (rule_of_door setting) (node_door i i.node_port))
