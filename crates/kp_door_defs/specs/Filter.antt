-- The filter: which packets are rejected or dropped at Services without endpoints, and at load balancers
-- for sources that aren't admitted (Kubernetes documents on Services, `loadBalancerSourceRanges`, and on
-- traffic policies; KEP-2086). In which hooks a chain stands, and the order of chains, are this project's
-- choice.
use Rattle.std.specs.Prelude.{◌&&◌, Bool, true, false, List, [], ◌∷◌, ◌++◌, map, cond, Option, is_some}
use Rattle.std.specs.List.{find, flat_map}
use Rattle.kp_base.specs.Net.{is_local_address}
use Rattle.kp_types.specs.Setting.{FamilyConfig}
use Rattle.kp_types.specs.declared.packet.Packet.{Packet}
use Rattle.kp_types.specs.declared.packet.Origin.{Origin}
use Rattle.kp_types.specs.declared.packet.Origin.TheVariants as origin
use Rattle.kp_types.specs.declared.decision.DoorKind.TheVariants as door
use Rattle.kp_object_defs.specs.Desired.{is_empty}
use Rattle.kp_object_defs.specs.PortInfo.{PortInfo, internal_list, external_list}
use Rattle.kp_door_defs.specs.Doors.{Door, door_at, node_door, fits}

-- what a line of the filter does with a packet for its door
pub data Refusal : Type 0 where
  Rejects : Refusal
  DropsClosed : Refusal
  DropsNoLocal : Refusal

-- a line: a door, and what happens to its packets
pub record Line : Type 0 where
  pub door : Door
  pub refusal : Refusal

-- the refusal of a door without endpoints: a reject where its port has none at all, and else a drop
abbrev pub refusal_by : Bool → Refusal
refusal_by true = DropsNoLocal
refusal_by false = Rejects

-- a line for a door
abbrev pub line_of : Refusal → Door → Line
line_of refusal d = record { door = d; refusal = refusal }

-- the firewall's lines of a port: its load-balancer addresses, where there are source ranges and endpoints
abbrev pub firewall_lines : PortInfo → List Line
firewall_lines i =
    cond (is_some i.ranges && i.lists.has_any) (map (λ a. line_of DropsClosed (door_at door.Balancer i a)) i.balancer) []

-- the lines of a port for doors that are reached from outside, where the list of the external policy is empty
abbrev pub external_lines : PortInfo → List Line
external_lines i =
    cond (is_empty (external_list i))
    (map (line_of (refusal_by i.lists.has_any))
    (map (door_at door.External i) i.external ++ map (door_at door.Balancer i) i.balancer ++ node_door i i.node_port)) []

-- the line of a port's cluster address, where the list of the internal policy is empty
abbrev pub service_lines : PortInfo → List Line
service_lines i =
    cond (is_empty (internal_list i))
    (line_of (refusal_by i.lists.has_any) (door_at door.Cluster i i.address) ∷ []) []

-- the hooks of the filter table
pub data Hook : Type 0 where
  Input : Hook
  Forward : Hook
  Output : Hook

-- the lines of a hook, chain by chain and port by port
abbrev pub hook_lines : Hook → List PortInfo → List Line
hook_lines Input infos = flat_map firewall_lines infos ++ flat_map external_lines infos
hook_lines Forward infos =
    flat_map firewall_lines infos ++ flat_map external_lines infos ++ flat_map service_lines infos
hook_lines Output infos = flat_map firewall_lines infos ++ flat_map service_lines infos

-- INPUT, where a destination is the node's own
abbrev pub input_if : Bool → List Hook
input_if true = Input ∷ []
input_if false = []

-- INPUT or FORWARD
abbrev pub input_or_forward : Bool → List Hook
input_or_forward true = Input ∷ []
input_or_forward false = Forward ∷ []

-- the hooks that a packet passes, by whether its destination is the node's own
abbrev pub hooks_by : Origin → Bool → List Hook
hooks_by origin.Wire local = input_or_forward local
hooks_by origin.Node local = Output ∷ input_if local

-- the hooks of a packet
abbrev pub hooks_of : FamilyConfig → Packet → List Hook
hooks_of config packet = hooks_by packet.from (is_local_address config.addresses packet.target)

-- the first line that a packet fits, hook by hook
abbrev pub filtered : FamilyConfig → List PortInfo → Packet → Option Line
filtered config infos packet =
    find (λ l. fits config.addresses packet l.door) (flat_map (λ h. hook_lines h infos) (hooks_of config packet))
