-- What decisions, tables and clashes are told beside the objects: the address families, the
-- names of chains, how endpoints are picked, and the configuration, of which each family sees
-- its own part (this project's choice).
use Rattle.std.specs.Prelude.{ℕ, Bool, List, [], ◌∷◌, Option, cond, option_and_then, Some, None}
use Rattle.std.specs.List.{list_any}
use Rattle.kp_base.specs.Net.{AddressParts, RangeParts, same_family}
use Rattle.kp_base.specs.declared.address.Family.{Family}
use Rattle.kp_base.specs.declared.address.Family.TheVariants.{V4, V6}
use Rattle.kp_base.specs.declared.config.Config.{Config}
use Rattle.kp_types.specs.declared.chain.ChainKey.{ChainKey}

-- the name of a chain by what it is for
abbrev pub Naming : Type 0
Naming = ChainKey → List ℕ

-- the index, from 0, of an endpoint by the packet's draws and the number of endpoints
abbrev pub Pick : Type 0
Pick = (ℕ → ℕ) → ℕ → ℕ

-- the configuration as a family sees it: of the cluster's ranges its own, and all addresses of
-- the node
pub record FamilyConfig : Type 0 where
  pub node : List ℕ
  pub addresses : List AddressParts
  pub cluster : Option RangeParts
  pub masquerade_all : Bool
  pub controller : Bool

-- what is told of one family
pub record Setting : Type 0 where
  pub family : Family
  pub name_of : Naming
  pub pick : Pick
  pub config : FamilyConfig

-- the configuration of a node, with the cluster's range in each family
pub record NodeConfig : Type 0 where
  pub node : List ℕ
  pub addresses : List AddressParts
  pub cluster : Family → Option RangeParts
  pub masquerade_all : Bool
  pub controller : Bool

-- what is told of a node: the families that it has tables of, in their order, and what is told
-- of each
pub record Settings : Type 0 where
  pub families : List Family
  pub name_of : Naming
  pub pick : Pick
  pub config : NodeConfig

-- the configuration of a node as a family sees it
abbrev pub config_of_family : Family → NodeConfig → FamilyConfig
config_of_family family config = record {
  node = config.node;
  addresses = config.addresses;
  cluster = config.cluster family;
  masquerade_all = config.masquerade_all;
  controller = config.controller;
}

-- what is told of one family of a node
abbrev pub view_of : Family → Settings → Setting
view_of family settings = record {
  family = family;
  name_of = settings.name_of;
  pick = settings.pick;
  config = config_of_family family settings.config;
}

-- whether a node has tables of a family
abbrev pub has_tables_of : Family → Settings → Bool
has_tables_of family settings = list_any (same_family family) settings.families

-- a range of a family
abbrev pub range_in : Family → RangeParts → Option RangeParts
range_in family r = cond (same_family r.base.family family) (Some r) None

-- both families, in the order of their tables and slices
abbrev pub both_families : List Family
both_families = V4 ∷ V6 ∷ []

-- the families that the node has tables of
abbrev pub table_families : Config → List Family
table_families config = cond config.dual both_families (V4 ∷ [])

-- the range of the cluster's pods in a family
abbrev pub cluster_range : Family → Config → Option RangeParts
cluster_range V4 config = option_and_then (range_in V4) config.cluster
cluster_range V6 config = option_and_then (range_in V6) config.cluster6

-- a configuration as a family sees it
abbrev pub config_for : Family → Config → FamilyConfig
config_for family config = record {
  node = config.node;
  addresses = config.addresses;
  cluster = cluster_range family config;
  masquerade_all = config.masquerade_all;
  controller = config.controller;
}

-- the configuration of a node, as both families see it
abbrev pub node_config : Config → NodeConfig
node_config config = record {
  node = config.node;
  addresses = config.addresses;
  cluster = λ family. cluster_range family config;
  masquerade_all = config.masquerade_all;
  controller = config.controller;
}
