-- Laws of the tables of a node's families: those of each stand in the full table as they stand
-- alone.
use Rattle.std.specs.Prelude.{◌≡◌, ◌↔◌, true, false, List, [], None, slice_get}
use Rattle.std.specs.FinMap as finite
use Rattle.std.specs.List.{flat_map, list_all}
use Rattle.kp_base.specs.Net.{same_family}
use Rattle.kp_base.specs.declared.address.Family.{Family}
use Rattle.kp_base.specs.declared.config.Config.{Config}
use Rattle.kp_types.specs.Places.{family_of_table}
use Rattle.kp_types.specs.Setting.{Setting, Settings, has_tables_of, table_families, view_of}
use Rattle.kp_types.specs.declared.chain.ChainAt.{ChainAt}
use Rattle.kp_choice_defs.specs.Settings.{setting_of, settings_of}
use Rattle.kp_object_defs.specs.Objects.{Objects}
use Rattle.kp_object_defs.specs.PortInfo.{PortInfo}
use Rattle.kp_table_defs.specs.Edits.{changes_between, changes_of}
use Rattle.kp_table_defs.specs.Layout.{rows_of}
use Rattle.kp_table_defs.specs.Parts.{rules_by_family, rules_by_port, tables_of_ports}
use Rattle.kp_table_defs.specs.Rebuild.{Chains, clash_among, clashes_among, full_chains, full_table, rows_of_families}
use Rattle.kp_table_laws.specs.Laws.{AreInOrder}

-- the chains of all families, by what each knows of the ports
abbrev pub chains_of_families : Settings → (Family → List PortInfo) → Chains
chains_of_families settings infos = finite.from_entries (rows_of_families settings infos)

-- a table holds what another does at each place of a family's tables
abbrev pub HasTablesOf : Family → Chains → Chains → Type 0
HasTablesOf family table chains =
    (q : ChainAt) → family_of_table q.table ≡ family → finite.get table q ≡ finite.get chains q

-- All chains of a family stand in its tables.
abbrev pub RowsStandInFamily : Type 0
RowsStandInFamily =
    (setting : Setting) (infos : List PortInfo)
    → list_all (λ r. same_family (family_of_table r.0.table) setting.family) (rows_of setting infos)
    ≡ true

-- The chains of all families have the tables of each as they stand alone,
abbrev pub FamilyStandsAlone : Type 0
FamilyStandsAlone =
    (settings : Settings) (infos : Family → List PortInfo) (family : Family)
    → has_tables_of family settings ≡ true
    → HasTablesOf family (chains_of_families settings infos)
    (full_chains (view_of family settings) (infos family))

-- and none of a family that the node has no tables of.
abbrev pub NoneBeside : Type 0
NoneBeside =
    (settings : Settings) (infos : Family → List PortInfo) (family : Family)
    → has_tables_of family settings ≡ false
    → HasTablesOf family (chains_of_families settings infos) finite.empty

-- The changes of a family's tables depend on these alone.
abbrev pub ChangesByTables : Type 0
ChangesByTables =
    (family : Family) (before after old new : Chains)
    → HasTablesOf family before old → HasTablesOf family after new
    → changes_of family before after ≡ changes_of family old new

-- So they are those of the family alone,
abbrev pub ChangesOfFamily : Type 0
ChangesOfFamily =
    (settings : Settings) (old new : Family → List PortInfo) (family : Family)
    → has_tables_of family settings ≡ true
    → changes_of family (chains_of_families settings old) (chains_of_families settings new)
    ≡ changes_of family (full_chains (view_of family settings) (old family))
    (full_chains (view_of family settings) (new family))

-- and there are none beside.
abbrev pub NoChangesBeside : Type 0
NoChangesBeside =
    (settings : Settings) (old new : Family → List PortInfo) (family : Family)
    → has_tables_of family settings ≡ false
    → changes_of family (chains_of_families settings old) (chains_of_families settings new) ≡ []

-- All changes are those of each family that the node has tables of, in their order.
abbrev pub ChangesOfNode : Type 0
ChangesOfNode =
    (config : Config) (old new : Family → List PortInfo)
    → changes_between (chains_of_families (settings_of config) old)
    (chains_of_families (settings_of config) new)
    ≡ flat_map (λ family. changes_of family (full_chains (setting_of family config) (old family))
    (full_chains (setting_of family config) (new family))) (table_families config)

-- The contributions of ports in each family make the chains of all.
abbrev pub PortsMakeTheTables : Type 0
PortsMakeTheTables =
    (settings : Settings) (infos : Family → List PortInfo)
    → ((family : Family) → AreInOrder (infos family))
    → tables_of_ports settings (λ family. rules_by_port (view_of family settings) (infos family))
    ≡ chains_of_families settings infos

-- The contributions of the ports of some objects make the full table of the objects.
abbrev pub PortsOfObjectsMakeTheTable : Type 0
PortsOfObjectsMakeTheTable =
    (settings : Settings) (o : Objects)
    → tables_of_ports settings (rules_by_family settings o) ≡ (full_table settings o).chains

-- No chains clash exactly where none do in a family that the node has tables of.
abbrev pub NoClashInFamilies : Type 0
NoClashInFamilies =
    (settings : Settings) (infos : Family → List PortInfo)
    → (slice_get (clashes_among settings infos) 0 ≡ None)
    ↔ ((family : Family) → has_tables_of family settings ≡ true
    → clash_among (view_of family settings) (infos family) ≡ None)
