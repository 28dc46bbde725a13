-- What one Service port contributes to the tables of a family, its own chains and its rules in the
-- shared ones, and the tables of all contributions between the fixed rules.
use Rattle.std.specs.Prelude.{List, ◌++◌, map}
use Rattle.std.specs.List.{flat_map}
use Rattle.std.specs.FinMap as finite
use Rattle.kp_base.specs.Keys.{port_key_cmp}
use Rattle.kp_base.specs.declared.address.Family.{Family}
use Rattle.kp_types.specs.Places.{chain_cmp}
use Rattle.kp_types.specs.Setting.{Setting, Settings, view_of}
use Rattle.kp_types.specs.declared.chain.ChainAt.{ChainAt}
use Rattle.kp_types.specs.declared.rule.Rule.{Rule}
use Rattle.kp_object_defs.specs.Objects.{Objects}
use Rattle.kp_object_defs.specs.PortInfo.{PortInfo, port_infos}
use Rattle.kp_table_defs.specs.Layout.{nat_rows_with, filter_rows_with, port_rows, service_block, node_port_block, firewall_block, external_block, refusal_block}
use Rattle.kp_table_defs.specs.Rebuild.{Chains}

-- What a port contributes: its own chains; its rules in KUBE-SERVICES and KUBE-NODEPORTS of nat; and in
-- KUBE-PROXY-FIREWALL, KUBE-EXTERNAL-SERVICES and KUBE-SERVICES of filter.
pub record PortRules : Type 0 where
  pub chains : finite.FinMap chain_cmp (List Rule)
  pub services : List Rule
  pub node_ports : List Rule
  pub firewall : List Rule
  pub external : List Rule
  pub refusals : List Rule

-- the contributions of ports
abbrev pub RulesByPort : Type 0
RulesByPort = finite.FinMap port_key_cmp PortRules

-- the contribution of a port
abbrev pub rules_of_port : Setting → PortInfo → PortRules
rules_of_port setting i = record {
  chains = finite.from_entries (port_rows setting i);
  services = service_block setting i;
  node_ports = node_port_block setting i;
  firewall = firewall_block i;
  external = external_block setting.family i;
  refusals = refusal_block i;
}

-- the contributions of ports, by their names
abbrev pub rules_by_port : Setting → List PortInfo → RulesByPort
rules_by_port setting infos = finite.from_entries (map (λ i. (i.key, rules_of_port setting i)) infos)

-- the chains of some contributions: the shared ones, in which the ports' rules stand in order, and the ports' own
abbrev pub rows_of_ports : Family → List PortRules → List (ChainAt × List Rule)
rows_of_ports family ports =
    nat_rows_with family (flat_map (λ p. p.node_ports) ports) (flat_map (λ p. p.services) ports)
    ++ filter_rows_with family (flat_map (λ p. p.firewall) ports) (flat_map (λ p. p.external) ports)
    (flat_map (λ p. p.refusals) ports) ++ flat_map (λ p. finite.entries p.chains) ports

-- the tables of a family of the contributions, in order of the ports' names
abbrev pub table_of_ports : Family → RulesByPort → Chains
table_of_ports family ports = finite.from_entries (rows_of_ports family (finite.values ports))

-- the contributions of all ports of some objects
abbrev pub rules_of_objects : Setting → Objects → RulesByPort
rules_of_objects setting o = rules_by_port setting (port_infos setting.family setting.config o)

-- the tables of all families, of what ports contribute to each
abbrev pub tables_of_ports : Settings → (Family → RulesByPort) → Chains
tables_of_ports settings ports =
    finite.from_entries
    (flat_map (λ family. rows_of_ports family (finite.values (ports family))) settings.families)

-- what all ports of some objects contribute to the tables of a family of a node
abbrev pub rules_by_family : Settings → Objects → Family → RulesByPort
rules_by_family settings o family = rules_of_objects (view_of family settings) o
