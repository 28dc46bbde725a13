-- What ports contribute to the full table, as the program keeps it.
use Rattle.std.specs.Prelude.{◌≡◌, ℕ, ◌+◌, List, [], ◌∷◌, ◌++◌}
use Rattle.std.specs.List.{flat_map, sum_by}
use Rattle.kp_base.specs.declared.address.Family.{Family}
use Rattle.kp_types.specs.Setting.{Setting, Settings, view_of}
use Rattle.kp_object_defs.specs.PortInfo.{PortInfo}
use Rattle.kp_table_defs.specs.Layout.{service_block, node_port_block, firewall_block, external_block, refusal_block, port_rows}
use Rattle.kp_chains.specs.Rows.{rows_of_texts, rule_count}
use Rattle.kp_chains.specs.Blocks.{blocks_of}
pub use Rattle.kp_chains.specs.Blocks.{block_count}
use Rattle.kp_chains.specs.declared.blocks.Blocks.{Blocks}
pub use Rattle.kp_known_ports.specs.Known.{all_port_count}
use Rattle.kp_full_table.specs.declared.part.Part.{Part}

-- the rules of ports in the shared chains
abbrev pub blocks_of_ports : Setting → List PortInfo → Blocks
blocks_of_ports setting infos = record {
  services = flat_map (service_block setting) infos;
  node_ports = flat_map (node_port_block setting) infos;
  firewall = flat_map firewall_block infos;
  external = flat_map (external_block setting.family) infos;
  refusals = flat_map refusal_block infos;
}

-- a part is what these ports contribute
pub record IsPartOf (setting : Setting) (infos : List PortInfo) (p : Part) : Type 0 where
  pub chains : rows_of_texts p.chains ≡ flat_map (port_rows setting) infos
  pub blocks : p.blocks ≡ blocks_of_ports setting infos

-- the rules of one list of blocks and then of another
abbrev pub joined_blocks : Blocks → Blocks → Blocks
joined_blocks a b = record {
  services = a.services ++ b.services;
  node_ports = a.node_ports ++ b.node_ports;
  firewall = a.firewall ++ b.firewall;
  external = a.external ++ b.external;
  refusals = a.refusals ++ b.refusals;
}

-- how many rules a port has, in its own chains and in the shared ones
abbrev pub port_rule_count : Setting → PortInfo → ℕ
port_rule_count setting i = rule_count (port_rows setting i) + block_count (blocks_of setting i)

-- how many rules ports have together
abbrev pub all_rule_count : Setting → List PortInfo → ℕ
all_rule_count setting [] = 0
all_rule_count setting (i ∷ is) = port_rule_count setting i + all_rule_count setting is

-- how many rules ports have together in the tables of all families of a node
abbrev pub families_rule_count : Settings → (Family → List PortInfo) → ℕ
families_rule_count settings infos =
    sum_by (λ family. all_rule_count (view_of family settings) (infos family)) settings.families
