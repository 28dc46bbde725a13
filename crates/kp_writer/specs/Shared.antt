-- Which shared chains are joined: those where the rules of a changed port differ.
use Rattle.std.specs.Prelude.{ℕ, ◌+◌, ◌||◌, Bool, true, false, List, [], ◌∷◌, Option, Some, None}
use Rattle.std.specs.Prelude.{not}
use Rattle.std.specs.List.{find, fold}
use Rattle.kp_base.specs.declared.address.Family.{Family}
use Rattle.kp_types.specs.Places.{filter_of, nat_of}
use Rattle.kp_types.specs.Setting.{Setting}
use Rattle.kp_types.specs.contracts.chain.ChainAtPartialEq.TheImpl as same
use Rattle.kp_types.specs.declared.chain.ChainAt.{ChainAt}
use Rattle.kp_types.specs.declared.rule.ChainText.{ChainText}
use Rattle.kp_types.specs.declared.rule.Rule.{Rule}
use Rattle.kp_object_defs.specs.PortInfo.{PortInfo}
use Rattle.kp_table_defs.specs.Edits.{same_rules}
use Rattle.kp_table_defs.specs.Layout as layout
use Rattle.kp_chains.specs.Blocks.{block_count, blocks_of}
use Rattle.kp_chains.specs.declared.blocks.Blocks.{Blocks}
use Rattle.kp_blocks.specs.Joined.{Block, BlocksByPort, joined_rules}
use Rattle.kp_writer.specs.Next.{NextParts, join}
use Rattle.kp_writer.specs.declared.shared.Touched.{Touched}

-- what is known of a port before and after
abbrev pub Change : Type 0
Change = Option PortInfo × Option PortInfo

-- the rules of a port in the shared chains, if there is one
abbrev pub blocks_if : Setting → Option PortInfo → Blocks
blocks_if setting None = record {
  services = [];
  node_ports = [];
  firewall = [];
  external = [];
  refusals = [];
}
blocks_if setting (Some i) = blocks_of setting i

-- a port's block, if it is found
abbrev pub block_found : Option Block → Block
block_found None = []
block_found (Some block) = block

-- a chain's rules, if it is found
abbrev pub rules_found : Option ChainText → List Rule
rules_found None = []
rules_found (Some c) = c.rules

-- whether a chain stands at a place
abbrev pub stands_at : ChainAt → ChainText → Bool
stands_at at c = same.ghosts.eq c.at at

-- the rules that a block has in a chain
abbrev pub chain_rules : ChainAt → Block → List Rule
chain_rules at block = rules_found (find (stands_at at) block)

-- the shared chains of a family
abbrev pub services : Family → ChainAt
services family = record { table = nat_of family; chain = layout.kube_services }

abbrev pub node_ports : Family → ChainAt
node_ports family = record { table = nat_of family; chain = layout.kube_node_ports }

abbrev pub firewall : Family → ChainAt
firewall family = record { table = filter_of family; chain = layout.kube_proxy_firewall }

abbrev pub external : Family → ChainAt
external family = record { table = filter_of family; chain = layout.kube_external_services }

abbrev pub refusals : Family → ChainAt
refusals family = record { table = filter_of family; chain = layout.kube_services }

-- the rules that a block has in each of them
abbrev pub blocks_in : Family → Block → Blocks
blocks_in family block = record {
  services = chain_rules (services family) block;
  node_ports = chain_rules (node_ports family) block;
  firewall = chain_rules (firewall family) block;
  external = chain_rules (external family) block;
  refusals = chain_rules (refusals family) block;
}

-- whether the rules of a chain differ
abbrev pub differ : List Rule → List Rule → Bool
differ before after = not (same_rules before after)

-- which chains are touched, with those where two blocks differ
abbrev pub touch : Touched → Blocks → Blocks → Touched
touch t b a = record {
  services = t.services || differ b.services a.services;
  node_ports = t.node_ports || differ b.node_ports a.node_ports;
  firewall = t.firewall || differ b.firewall a.firewall;
  external = t.external || differ b.external a.external;
  refusals = t.refusals || differ b.refusals a.refusals;
}

-- the same, with those where a port's blocks differ
abbrev pub touch_by : Setting → Touched → Change → Touched
touch_by setting t (before, after) = touch t (blocks_if setting before) (blocks_if setting after)

-- no chain is touched
abbrev pub untouched : Touched
untouched = record {
  services = false;
  node_ports = false;
  firewall = false;
  external = false;
  refusals = false;
}

-- which chains changes touch
abbrev pub touched_by : Setting → List Change → Touched
touched_by setting changes = fold (touch_by setting) untouched changes

-- how many rules ports have in the shared chains
abbrev pub shared_rule_count : Setting → List PortInfo → ℕ
shared_rule_count setting [] = 0
shared_rule_count setting (i ∷ is) =
    block_count (blocks_of setting i) + shared_rule_count setting is

-- a shared chain of a family is joined where it is touched
abbrev pub join_if : Family → BlocksByPort → NextParts → Bool → ChainAt → NextParts
join_if family blocks n true at = join n at (joined_rules family blocks at)
join_if family blocks n false at = n

-- what stands with the shared chains that are touched
abbrev pub with_shared : Family → BlocksByPort → Touched → NextParts → NextParts
with_shared family blocks t n =
    join_if family blocks
    (join_if family blocks
    (join_if family blocks
    (join_if family blocks
    (join_if family blocks n t.services (services family)) t.node_ports (node_ports family))
    t.firewall (firewall family))
    t.external (external family))
    t.refusals (refusals family)
