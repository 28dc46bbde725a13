-- The rules of a port in the shared chains.
use Rattle.std.specs.Prelude.{ℕ, ◌+◌, List, [], ◌∷◌, length, Option, Some, None}
use Rattle.kp_base.specs.declared.address.Family.{Family}
use Rattle.kp_types.specs.Places.{nat_of, filter_of}
use Rattle.kp_types.specs.Setting.{Setting}
use Rattle.kp_types.specs.declared.chain.ChainAt.{ChainAt}
use Rattle.kp_types.specs.declared.rule.Rule.{Rule}
use Rattle.kp_object_defs.specs.PortInfo.{PortInfo}
use Rattle.kp_table_defs.specs.Layout.{row, kube_services, kube_node_ports, kube_proxy_firewall, kube_external_services, service_block, node_port_block, firewall_block, external_block, refusal_block}
use Rattle.kp_chains.specs.declared.blocks.Blocks.{Blocks}

-- the rules of a port in each of them
abbrev pub blocks_of : Setting → PortInfo → Blocks
blocks_of setting i = record {
  services = service_block setting i;
  node_ports = node_port_block setting i;
  firewall = firewall_block i;
  external = external_block setting.family i;
  refusals = refusal_block i;
}

-- how many rules blocks have together
abbrev pub block_count : Blocks → ℕ
block_count b = length b.services + length b.node_ports + length b.firewall + length b.external + length b.refusals

-- blocks, each under the place of its chain in a family's tables
abbrev pub rows_of_blocks : Family → Blocks → List (ChainAt × List Rule)
rows_of_blocks family b =
    row (nat_of family) kube_services b.services
    ∷ row (nat_of family) kube_node_ports b.node_ports
    ∷ row (filter_of family) kube_proxy_firewall b.firewall
    ∷ row (filter_of family) kube_external_services b.external
    ∷ row (filter_of family) kube_services b.refusals
    ∷ []

-- the rules of a port in each shared chain, if the port takes part
abbrev pub block_rows_known : Setting → Option PortInfo → List (ChainAt × List Rule)
block_rows_known setting None = []
block_rows_known setting (Some i) = rows_of_blocks setting.family (blocks_of setting i)
