-- A door as it is printed, and the chain by which its packets go (this project's choice).
use Rattle.std.specs.Prelude.{ℕ, List, [], ◌++◌, cond, codes, decimal, Option, Some, None}
use Rattle.kp_base.specs.Net.{AddressParts}
use Rattle.kp_base.specs.declared.address.Family.{Family}
use Rattle.kp_base.specs.declared.key.PortKey.{PortKey}
use Rattle.kp_types.specs.Setting.{Naming}
use Rattle.kp_types.specs.declared.chain.ChainKey.TheVariants as chain
use Rattle.kp_types.specs.declared.chain.PortChain.{PortChain}
use Rattle.kp_types.specs.declared.chain.PortChain.TheVariants.{Ext}
use Rattle.kp_types.specs.declared.decision.DoorKind.{DoorKind}
use Rattle.kp_types.specs.declared.decision.DoorKind.TheVariants as door
use Rattle.kp_choice_defs.specs.AddressText.{endpoint_text, host_text}
use Rattle.kp_object_defs.specs.Desired.{is_empty}
use Rattle.kp_object_defs.specs.PortInfo.{PortInfo, internal_list}
use Rattle.kp_door_defs.specs.Doors.{Door}
use Rattle.kp_table_defs.specs.Layout.{balancer_chain, chain_of_policy}
use Rattle.kp_text_defs.specs.Answers.{door_kind_text}
use Rattle.kp_text_defs.specs.Keys.{port_text}

-- where a door is: its address, or a star for those of the node, and its number
abbrev pub destination_text : Family → Option AddressParts → ℕ → List ℕ
destination_text family (Some a) number = endpoint_text (record { address = a; port = number })
destination_text family None number = host_text family (codes "*") ++ codes ":" ++ decimal number

-- a door: its port, its kind and where it is
abbrev pub door_text : Door → List ℕ
door_text d =
    port_text d.info.key ++ codes " " ++ door_kind_text d.kind ++ codes " "
    ++ destination_text d.info.address.family d.address d.number

-- the kind of chain that a rule of nat for a port's door jumps to, where there is such a rule
abbrev pub chain_kind_at : DoorKind → PortInfo → Option PortChain
chain_kind_at door.Cluster i =
    cond (is_empty (internal_list i)) None (Some (chain_of_policy i.internal))
chain_kind_at door.External i = cond i.lists.has_any (Some Ext) None
chain_kind_at door.Balancer i = cond i.lists.has_any (Some (balancer_chain i.ranges)) None
chain_kind_at door.Node i = cond i.lists.has_any (Some Ext) None

-- the name of such a chain
abbrev pub by_text : Naming → PortKey → Option PortChain → List ℕ
by_text name_of key None = []
by_text name_of key (Some kind) = codes " by " ++ name_of (chain.Port kind key)

-- what a line begins with: the door, and the chain by which its packets go
abbrev pub head_text : Naming → Door → List ℕ
head_text name_of d =
    codes "change " ++ door_text d ++ by_text name_of d.info.key (chain_kind_at d.kind d.info)
