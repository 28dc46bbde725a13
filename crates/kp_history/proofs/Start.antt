-- Before the first sync.
use Rattle.std.proofs.Common.{◌≡◌, List, [], ◌∷◌, ◌++◌, flat_map, refl, sym, ap, ◌∙◌, append-nil}
use Rattle.std.specs.FinMap as finite
use Rattle.kp_base.specs.declared.address.Family.{Family}
use Rattle.kp_base.specs.declared.config.Config.{Config}
use Rattle.kp_types.specs.Places.{chain_cmp}
use Rattle.kp_types.specs.Setting.{Settings, table_families, view_of}
use Rattle.kp_types.specs.declared.chain.ChainAt.{ChainAt}
use Rattle.kp_types.specs.declared.rule.Rule.{Rule}
use Rattle.kp_choice_defs.specs.Settings.{settings_of}
use Rattle.kp_object_defs.specs.Objects.{no_objects}
use Rattle.kp_object_defs.specs.PortInfo.{infos_by_family}
use Rattle.kp_table_defs.specs.Layout.{filter_rows_with, nat_rows_with, rows_of}
use Rattle.kp_table_defs.specs.Rebuild.{full_table}
use Rattle.kp_chains.specs.Tables.{fixed_rows, table_with}
use Rattle.kp_history_laws.proofs.Histories.{no_infos}

module _ (settings : Settings) where
  -- the rows of a family without objects
  abbrev rows_in : Family → List (ChainAt × List Rule)
  rows_in family = rows_of (view_of family settings) (infos_by_family settings no_objects family)

  -- they are the fixed ones,
  fixed_are : (family : Family) → fixed_rows family ≡ rows_in family
  fixed_are family =
      ap (λ rows. nat_rows_with family [] [] ++ rows)
      (sym (append-nil (filter_rows_with family [] [] [])))
      ∙ sym (ap (rows_of (view_of family settings)) (no_infos (view_of family settings)))

  all_fixed : (families : List Family) → flat_map fixed_rows families ≡ flat_map rows_in families
  all_fixed [] = refl
  all_fixed (f ∷ fs) = λ i. fixed_are f i ++ all_fixed fs i

-- so the full table of no objects is that of the fixed chains
pub first_table : (config : Config)
    → table_with (flat_map fixed_rows (table_families config))
    ≡ full_table (settings_of config) no_objects
first_table config = λ i. record {
  chains =
      finite.from_entries {R = chain_cmp}
      (all_fixed (settings_of config) (table_families config) i);
  syncs = 0;
}
