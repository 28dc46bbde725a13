-- The full table of some objects, with the tables of each family, and the clash of two chains of a
-- family that are needed and have one name.
use Rattle.std.specs.Prelude.{ℕ, ◌==◌, Bool, false, List, ◌++◌, map, Option, slice_get}
use Rattle.std.specs.List.{filter, filter_map, flat_map}
use Rattle.std.specs.FinMap as finite
use Rattle.kp_base.specs.Keys.{endpoint_cmp}
use Rattle.kp_base.specs.declared.address.Family.{Family}
use Rattle.kp_types.specs.Setting.{Setting, Settings, view_of}
use Rattle.kp_types.specs.Places.{chain_cmp}
use Rattle.kp_types.specs.declared.chain.ChainAt.{ChainAt}
use Rattle.kp_types.specs.declared.chain.ChainKey.{ChainKey}
use Rattle.kp_types.specs.declared.chain.ChainKey.TheVariants as key
use Rattle.kp_types.specs.declared.chain.Clash.{Clash}
use Rattle.kp_types.specs.declared.chain.PortChain.{PortChain}
use Rattle.kp_types.specs.declared.rule.Rule.{Rule}
use Rattle.kp_choice_defs.specs.Names.{first_clash, port_chain_place}
use Rattle.kp_object_defs.specs.Objects.{Objects}
use Rattle.kp_object_defs.specs.Order.{distinct_in_order}
use Rattle.kp_object_defs.specs.PortInfo.{PortInfo, infos_by_family}
use Rattle.kp_table_defs.specs.Keys.{all_endpoints, chain_kinds, own_keys}
use Rattle.kp_table_defs.specs.Layout.{rows_of}

-- the chains of a table, by place
abbrev pub Chains : Type 0
Chains = finite.FinMap chain_cmp (List Rule)

-- a table: its chains, and how many batches were applied to it
pub record TableParts : Type 0 where
  pub chains : finite.FinMap chain_cmp (List Rule)
  pub syncs : ℕ

-- the chains of a family's tables by what is known of the ports
abbrev pub full_chains : Setting → List PortInfo → Chains
full_chains setting infos = finite.from_entries (rows_of setting infos)

-- the chains of the tables of all families, by what each knows of the ports
abbrev pub rows_of_families : Settings → (Family → List PortInfo) → List (ChainAt × List Rule)
rows_of_families settings infos =
    flat_map (λ family. rows_of (view_of family settings) (infos family)) settings.families

-- the full table of some objects
abbrev pub full_table : Settings → Objects → TableParts
full_table settings o = record {
  chains = finite.from_entries (rows_of_families settings (infos_by_family settings o));
  syncs = 0;
}

-- whether a chain is a port's of this kind
abbrev pub is_of_kind : PortChain → ChainKey → Bool
is_of_kind kind (key.Port other port) = port_chain_place kind == port_chain_place other
is_of_kind kind (key.Sep port e) = false

-- the keys of the chains of a port's endpoints, in order
abbrev pub endpoint_keys : PortInfo → List ChainKey
endpoint_keys i = map (key.Sep i.key) (distinct_in_order endpoint_cmp (all_endpoints i))

-- The keys of all chains that ports need, in the order that a clash is told in: those of ports by
-- kind and port, and then those of endpoints by port and endpoint, each once.
abbrev pub needed_keys : List PortInfo → List ChainKey
needed_keys infos =
    flat_map (λ kind. filter (is_of_kind kind) (flat_map own_keys infos)) chain_kinds
    ++ flat_map endpoint_keys infos

-- the clash among ports in a family: two different chains that are needed and have one name, if there
-- are any
abbrev pub clash_among : Setting → List PortInfo → Option Clash
clash_among setting infos = first_clash setting.name_of (needed_keys infos)

-- the clashes of families, in their order, by what each knows of the ports
abbrev pub clashes_among : Settings → (Family → List PortInfo) → List Clash
clashes_among settings infos =
    filter_map (λ family. clash_among (view_of family settings) (infos family)) settings.families

-- the clash of some objects: that of the first family that has one
abbrev pub clash_of : Settings → Objects → Option Clash
clash_of settings o = slice_get (clashes_among settings (infos_by_family settings o)) 0
