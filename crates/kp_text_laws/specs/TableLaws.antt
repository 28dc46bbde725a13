-- What holds of the text of the full table, and of the batch between two full tables.
use Rattle.std.specs.Prelude.{◌≡◌, true, List, Contains}
use Rattle.std.specs.FinMap as finite
use Rattle.std.specs.List.{fold, list_all}
use Rattle.kp_base.specs.declared.address.Family.{Family}
use Rattle.kp_base.specs.declared.config.Config.{Config}
use Rattle.kp_types.specs.Chains.{is_chain_name}
use Rattle.kp_types.specs.Edits.{edits_of_family}
use Rattle.kp_types.specs.Setting.{Setting, Settings, has_tables_of, view_of}
use Rattle.kp_types.specs.declared.chain.ChainAt.{ChainAt}
use Rattle.kp_types.specs.declared.chain.ChainKey.{ChainKey}
use Rattle.kp_types.specs.declared.rule.Edit.{Edit}
use Rattle.kp_types.specs.declared.rule.Edit.TheVariants.{Remove}
use Rattle.kp_types.specs.declared.rule.Rule.{Rule}
use Rattle.kp_types.specs.declared.rule.Target.TheVariants.{Jump}
use Rattle.kp_choice_defs.specs.Settings.{setting_of, settings_of}
use Rattle.kp_object_defs.specs.Objects.{Objects}
use Rattle.kp_object_defs.specs.PortInfo.{PortInfo, port_infos}
use Rattle.kp_table_defs.specs.Edits.{chains_after_edit, changes_between}
use Rattle.kp_table_defs.specs.Ranks.{has_chains_of, is_ranked}
use Rattle.kp_table_defs.specs.Rebuild.{Chains, TableParts, full_chains, full_table}
use Rattle.kp_restore_defs.specs.BatchText.{batch_text_of, is_canonical_batch}
use Rattle.kp_restore_defs.specs.BatchesBetween.{HaveSameBuiltIn}
use Rattle.kp_restore_defs.specs.RuleText.{is_canonical_range}
use Rattle.kp_restore_defs.specs.TableText.{is_canonical_chain, is_canonical_part, is_canonical_table, table_text_of}
use Rattle.kp_table_laws.specs.Families.{HasTablesOf}
use Rattle.kp_walk_laws.specs.Laws.{IsPrefixed, OffersAny}
use Rattle.kp_text_laws.specs.Bounds.{AreBounded, IsBoundedConfig, IsBoundedInfo, passes_if_some}

-- What is asked of a setting: its names of chains are names that chains may have, and begin as
-- kube-proxy's do, and the cluster's range, if there is one, is of the family.
pub record IsPrintable (setting : Setting) : Type 0 where
  pub named : (k : ChainKey) → is_chain_name (setting.name_of k) ≡ true
  pub prefixed : IsPrefixed setting.name_of
  pub cluster : passes_if_some (is_canonical_range setting.family) setting.config.cluster ≡ true

-- So is each setting of the product, whose cluster range is a range.
abbrev pub ProductIsPrintable : Type 0
ProductIsPrintable =
    (family : Family) (config : Config) → IsBoundedConfig config
    → IsPrintable (setting_of family config)

-- ---- Tables

-- Each chain of a family's tables has texts of its own, where the ports are within their bounds.
abbrev pub FullChainsCanonical : Type 0
FullChainsCanonical =
    (setting : Setting) (infos : List PortInfo) → IsPrintable setting
    → ((i : PortInfo) → Contains infos i → OffersAny i)
    → ((i : PortInfo) → Contains infos i → IsBoundedInfo setting.family i)
    → list_all (is_canonical_chain setting.family (full_chains setting infos))
    (finite.entries (full_chains setting infos)) ≡ true

-- So these tables alone have a text of their own.
abbrev pub FullTableCanonical : Type 0
FullTableCanonical =
    (setting : Setting) (infos : List PortInfo) → IsPrintable setting
    → ((i : PortInfo) → Contains infos i → OffersAny i)
    → ((i : PortInfo) → Contains infos i → IsBoundedInfo setting.family i)
    → is_canonical_table setting.family (full_chains setting infos) ≡ true

-- And so they have where the ports are those of any objects within their bounds.
abbrev pub OwnTableCanonical : Type 0
OwnTableCanonical =
    (setting : Setting) (o : Objects) → IsPrintable setting → AreBounded o
    → is_canonical_table setting.family
    (full_chains setting (port_infos setting.family setting.config o))
    ≡ true

-- What holds of a table of which a family's tables are printed and read back: they have a text of
-- their own, no other tables of the family have this text, each jump of the table goes to a chain
-- of a greater rank, and it has the built-in chains of the family.
pub record IsReadableTable (family : Family) (chains : Chains) : Type 0 where
  pub canonical : is_canonical_part family chains ≡ true
  pub only : (other : Chains) → is_canonical_table family other ≡ true
      → table_text_of family other ≡ table_text_of family chains → HasTablesOf family other chains
  pub ranked : is_ranked chains ≡ true
  pub built_in : has_chains_of family chains ≡ true

-- So is the full table of any objects within their bounds, clash or not, in each family that the
-- node has tables of.
abbrev pub FullTableReadsBack : Type 0
FullTableReadsBack =
    (settings : Settings) (o : Objects) (family : Family)
    → has_tables_of family settings ≡ true → IsPrintable (view_of family settings) → AreBounded o
    → IsReadableTable family (full_table settings o).chains

-- And so is each table that is rebuilt from such objects.
abbrev pub RebuiltReadsBack : Type 0
RebuiltReadsBack =
    (config : Config) (o : Objects) (t : TableParts) (family : Family)
    → IsBoundedConfig config → AreBounded o → has_tables_of family (settings_of config) ≡ true
    → t ≡ full_table (settings_of config) o → IsReadableTable family t.chains

-- The built-in chains of all full tables of a family are the same.
abbrev pub FullTablesHaveSameBuiltIn : Type 0
FullTablesHaveSameBuiltIn =
    (setting : Setting) (before after : List PortInfo)
    → HaveSameBuiltIn (full_chains setting before) (full_chains setting after)

-- ---- Batches

-- the edits between the full tables of some objects and of others
abbrev pub edits_between : Settings → Objects → Objects → List Edit
edits_between settings before after =
    changes_between (full_table settings before).chains (full_table settings after).chains

-- no rule of a table jumps to the chain of a place
abbrev pub NoneJumpsTo : Chains → ChainAt → Type 0
NoneJumpsTo chains to =
    (at : ChainAt) (rules : List Rule) (r : Rule)
    → Contains (finite.entries chains) (at, rules) → Contains rules r
    → at.table ≡ to.table → r.target ≡ Jump to.chain → ⊥

-- What holds of a batch from a table to another, of which a family's edits are printed and read
-- back: these have a text of their own and are the only ones with this text; made in the first
-- table they give the family's tables of the second; all edits give the second; and that is ranked,
-- so no rule of it jumps to a chain that the batch removes.
pub record IsReadableBatch (family : Family) (before after : Chains)
    (edits : List Edit) : Type 0 where
  pub canonical : is_canonical_batch family (edits_of_family family edits) ≡ true
  pub only : (others : List Edit) → is_canonical_batch family others ≡ true
      → batch_text_of family others ≡ batch_text_of family edits
      → others ≡ edits_of_family family edits
  pub own : HasTablesOf family (fold chains_after_edit before (edits_of_family family edits)) after
  pub leads : fold chains_after_edit before edits ≡ after
  pub ranked : is_ranked (fold chains_after_edit before edits) ≡ true
  pub closed : (at : ChainAt) → Contains edits (Remove at) → NoneJumpsTo after at

-- So are the changes between the full tables of objects within their bounds, in each family that
-- the node has tables of.
abbrev pub ChangesReadBack : Type 0
ChangesReadBack =
    (settings : Settings) (before after : Objects) (family : Family)
    → has_tables_of family settings ≡ true → IsPrintable (view_of family settings)
    → AreBounded before → AreBounded after
    → IsReadableBatch family (full_table settings before).chains
    (full_table settings after).chains (edits_between settings before after)
