-- The tables of each family have a text of their own in the full table, and all full tables of a
-- family have the same built-in chains.
use Rattle.std.proofs.Common.{◌≡◌, ℕ, ◌||◌, ◌++◌, Bool, true, false, List, [], ◌∷◌, Contains, Option, Some, None, flat_map, is_some, cond, option_and_then, inl, inr, refl, sym, ap, subst, ◌∙◌}
use Rattle.std.specs.List.{list_all, list_any, AllByRecursion}
use Rattle.std.specs.FinMap.{entries, find, get, get-from_entries}
use Rattle.std.specs.Str.{bytes_eq}
use Rattle.std.proofs.lemmas.Bool.{and_from, and_parts}
use Rattle.std.proofs.lemmas.Slice.Eq.{bytes_eq-Decides}
use Rattle.kp_lemmas.proofs.Members.{all_from, from_all, from_filter}
use Rattle.kp_types.specs.Chains.{is_chain_name}
use Rattle.kp_types.specs.Places.{chain_cmp, family_of_table, filter_of, nat_of}
use Rattle.kp_types.specs.Setting.{Setting, cluster_range, range_in, view_of}
use Rattle.kp_types.specs.declared.chain.ChainAt.{ChainAt}
use Rattle.kp_types.specs.declared.chain.TableName.{TableName}
use Rattle.kp_types.specs.declared.rule.Rule.{Rule}
use Rattle.kp_types.specs.declared.rule.Target.{Target}
use Rattle.kp_types.specs.declared.rule.Target.TheVariants as target
use Rattle.kp_types.proofs.ChainOrder.{chain_total, chain_exact}
use Rattle.kp_base.specs.Net.{RangeParts, same_family}
use Rattle.kp_base.specs.declared.address.Family.{Family}
use Rattle.kp_base.specs.declared.address.Family.TheVariants.{V4, V6}
use Rattle.kp_base.specs.declared.config.Config.{Config}
use Rattle.kp_base.proofs.SameParts.{same_family_exact}
use Rattle.kp_choice_defs.specs.Settings.{settings_of}
use Rattle.kp_object_defs.specs.PortInfo.{PortInfo, infos_by_family, port_infos}
use Rattle.kp_object_defs.proofs.InOrder.{entries_in_order}
use Rattle.kp_table_defs.specs.Layout.{external_block, filter_rows_with, firewall_block, nat_rows_with, node_port_block, port_rows, refusal_block, rows_of, service_block}
use Rattle.kp_table_defs.specs.Ranks.{goes_on, is_built_in, built_in_chains, is_ranked_chain, jumps_go_on}
use Rattle.kp_table_defs.specs.Rebuild.{Chains, TableParts, full_chains, full_table}
use Rattle.kp_restore_defs.specs.RuleText.{is_canonical_range, is_canonical_rule}
use Rattle.kp_restore_defs.specs.TableText.{is_canonical_chain, is_canonical_part, is_canonical_table, is_chain_of, jumps_to_declared, TableTextsDiffer}
use Rattle.kp_restore.proofs.Families.{which_table}
use Rattle.kp_walk_laws.specs.Laws.{FullTableRanked, FullTableRankedObjects, HashedPrefixed, KnownPorts}
use Rattle.kp_table_laws.specs.Families.{HasTablesOf}
use Rattle.kp_table_laws.proofs.Entries.{from_in_order}
use Rattle.kp_table_laws.proofs.Families.{family_stands_alone, none_found, rows_stand_in_family}
use Rattle.kp_table_laws.proofs.KeyRows.{Row}
use Rattle.kp_text_laws.specs.BoundLaws.{PortsAreBounded}
use Rattle.kp_text_laws.specs.TableLaws.{FullChainsCanonical, FullTableCanonical, FullTableReadsBack, FullTablesHaveSameBuiltIn, IsReadableTable, OwnTableCanonical, ProductIsPrintable, RebuiltReadsBack}
use Rattle.kp_text_laws.specs.Bounds.{IsBoundedConfig, is_bounded_range, passes_if_some}
use Rattle.kp_text_laws.proofs.ChainNames.{hashed_names}
use Rattle.kp_text_laws.proofs.CanonicalRules.{row_fits, rows_fit}
use Rattle.kp_text_laws.proofs.OwnTables.{part_alike, text_alike}

-- ---- Jumps of a ranked table

module _ (chains : Chains) where
  -- a jump that goes on goes to a chain that there is
  declared_by : (table : TableName) (rank : ℕ) (t : Target) → goes_on chains table rank t ≡ true
      → jumps_to_declared chains table t ≡ true
  declared_by table rank (target.Jump chain) h =
      (and_parts (is_some (get chains (record { table = table; chain = chain }))) _ h).0
  declared_by table rank t h = refl

  pub declared : (table : TableName) (rank : Option ℕ) (rules : List Rule)
      → jumps_go_on chains table rank rules ≡ true → (r : Rule) → Contains rules r
      → jumps_to_declared chains table r.target ≡ true
  declared table None rules h r c = absurd (cc)
  declared table (Some rank) rules h r c =
      declared_by table rank r.target
      (from_all (λ q. goes_on chains table rank q.target) rules h r c)

  -- a chain of a ranked table whose name and rules have texts of their own may stand in it
  chain_fits : (family : Family) (r : Row) → is_ranked_chain chains r ≡ true
      → row_fits family r ≡ true → is_canonical_chain family chains r ≡ true
  chain_fits family r ranked fit =
      let parts = and_parts (is_chain_name r.0.chain)
      (list_all (is_canonical_rule family) r.1) fit in
      and_from _ _ parts.0 (all_from _ r.1 (λ q c. and_from _ _ (from_all _ r.1 parts.1 q c)
      (declared r.0.table _ r.1 ranked q c)))

-- ---- The full table

-- a chain of the full table is one of its rows
row_of_entry : (setting : Setting) (infos : List PortInfo) (r : Row)
    → Contains (entries (full_chains setting infos)) r → Contains (rows_of setting infos) r
row_of_entry setting infos r c =
    from_in_order chain_cmp chain_exact (rows_of setting infos) r
    (subst (λ es. Contains es r) (entries_in_order chain_total (rows_of setting infos)) c)

-- all chains of a family stand in its tables
chains_stand : (setting : Setting) (infos : List PortInfo)
    → list_all (is_chain_of setting.family) (entries (full_chains setting infos)) ≡ true
chains_stand setting infos =
    all_from _ _ (λ r c. from_all (is_chain_of setting.family) (rows_of setting infos)
    (rows_stand_in_family setting infos) r (row_of_entry setting infos r c))

pub full_chains_canonical_by : FullTableRanked → FullChainsCanonical
full_chains_canonical_by is_sound setting infos printable any bounded =
    let chains : Chains = full_chains setting infos in
    let sound = is_sound setting infos printable.prefixed any in
    all_from _ _ (λ r c. chain_fits chains _ r (from_all _ _ sound.ranked r c)
    (from_all (row_fits setting.family) (rows_of setting infos)
    (rows_fit setting printable.named printable.cluster infos bounded) r
    (row_of_entry setting infos r c)))

pub full_table_canonical_by : FullTableRanked → FullChainsCanonical → FullTableCanonical
full_table_canonical_by is_sound canonical setting infos printable any bounded =
    let chains : Chains = full_chains setting infos in
    let sound = is_sound setting infos printable.prefixed any in
    and_from _ _ (and_from _ _ sound.built_in (all_from _ _ (λ r c.
    from_all _ (entries chains) (canonical setting infos printable any bounded) r
    (from_filter (is_chain_of setting.family) r (entries chains) c).0)))
    (chains_stand setting infos)

pub own_table_canonical_by : FullTableCanonical → KnownPorts → PortsAreBounded
    → OwnTableCanonical
own_table_canonical_by canonical known ports setting o printable bounded =
    canonical setting (port_infos setting.family setting.config o) printable
    (λ i c. (known setting.family setting.config o i c).any)
    (λ i c. ports setting.family setting.config o i bounded c)

pub full_table_reads_back_by : OwnTableCanonical → FullTableRankedObjects → TableTextsDiffer
    → FullTableReadsBack
full_table_reads_back_by canonical is_sound differ settings o family has printable bounded =
    let infos : Family → List PortInfo = infos_by_family settings o in
    let chains : Chains = (full_table settings o).chains in
    let own : Chains = full_chains (view_of family settings) (infos family) in
    let alike : HasTablesOf family chains own = family_stands_alone settings infos family has in
    let sound = is_sound settings o printable.prefixed in
    let fit : is_canonical_table family own ≡ true =
    canonical (view_of family settings) o printable bounded in record {
      canonical = part_alike family chains own alike
          ∙ (and_parts (is_canonical_part family own) _ fit).0;
      only = λ other h same q of.
          ap (λ (m : Chains). get m q)
          (differ family other own h fit (same ∙ text_alike family chains own alike))
          ∙ sym (alike q of);
      ranked = sound.ranked;
      built_in = sound.built_in family has;
    }

pub rebuilt_reads_back_by : FullTableReadsBack → ProductIsPrintable → RebuiltReadsBack
rebuilt_reads_back_by back printable config o t family configured bounded has is =
    subst (λ (u : TableParts). IsReadableTable family u.chains) (sym is)
    (back (settings_of config) o family has (printable family config configured) bounded)

-- ---- Built-in chains

named_by : (P : List ℕ → Type 0) (chain name : List ℕ) (b : Bool) → P name → bytes_eq chain name ≡ b
    → (b ≡ false → P chain) → P chain
named_by P chain name true h is other = subst P (sym ((bytes_eq-Decides chain name).0 is)) h
named_by P chain name false h is other = other refl

-- what holds of some names holds of a name that is one of them
one_of : (P : List ℕ → Type 0) (chain : List ℕ) (names : List (List ℕ)) → AllByRecursion P names
    → list_any (bytes_eq chain) names ≡ true → P chain
one_of P chain [] all h = absurd (cc)
one_of P chain (name ∷ names) all h =
    named_by P chain name _ all.0 refl (λ other. one_of P chain names all.1
    (sym (ap (λ b. b || list_any (bytes_eq chain) names) other) ∙ h))

module _ (node_ports services firewall external refused : List Rule) (more : List Row) where
  -- fixed chains with these rules, and other chains
  abbrev fixed : Family → List Row
  fixed family =
      nat_rows_with family node_ports services
      ++ filter_rows_with family firewall external refused ++ more

  -- a built-in chain is found with the same rules among any
  abbrev IsFixed : Family → TableName → List ℕ → Type 0
  IsFixed family table name =
      let at : ChainAt = record { table = table; chain = name } in
      find chain_cmp at (fixed family)
      ≡ find chain_cmp at (nat_rows_with family [] [] ++ filter_rows_with family [] [] [])

  nat_fixed : (family : Family) (chain : List ℕ) → is_built_in (nat_of family) chain ≡ true
      → IsFixed family (nat_of family) chain
  nat_fixed V4 chain h =
      one_of (IsFixed V4 (nat_of V4)) chain (built_in_chains (nat_of V4))
      (refl, (refl, (refl, (refl, tt)))) h
  nat_fixed V6 chain h =
      one_of (IsFixed V6 (nat_of V6)) chain (built_in_chains (nat_of V6))
      (refl, (refl, (refl, (refl, tt)))) h

  filter_fixed : (family : Family) (chain : List ℕ) → is_built_in (filter_of family) chain ≡ true
      → IsFixed family (filter_of family) chain
  filter_fixed V4 chain h =
      one_of (IsFixed V4 (filter_of V4)) chain (built_in_chains (filter_of V4))
      (refl, (refl, (refl, tt))) h
  filter_fixed V6 chain h =
      one_of (IsFixed V6 (filter_of V6)) chain (built_in_chains (filter_of V6))
      (refl, (refl, (refl, tt))) h

  chain_fixed : (family : Family) (table : TableName) (chain : List ℕ)
      → same_family (family_of_table table) family ≡ true → is_built_in table chain ≡ true
      → IsFixed family table chain
  chain_fixed family table chain of h =
      elim (which_table family table of) [
        | inl is ↦
            subst (λ t. IsFixed family t chain) (sym is)
            (nat_fixed family chain (ap (λ t. is_built_in t chain) (sym is) ∙ h))
        | inr is ↦
            subst (λ t. IsFixed family t chain) (sym is)
            (filter_fixed family chain (ap (λ t. is_built_in t chain) (sym is) ∙ h))
      ]

module _ (setting : Setting) (at : ChainAt) (built_in : is_built_in at.table at.chain ≡ true) where
  -- a built-in chain is that of the fixed chains alone, or of another family's table and not there
  found_by : (infos : List PortInfo) (b : Bool)
      → same_family (family_of_table at.table) setting.family ≡ b
      → get (full_chains setting infos) at
      ≡ cond b (find chain_cmp at (nat_rows_with setting.family [] []
      ++ filter_rows_with setting.family [] [] [])) None
  found_by infos true of =
      get-from_entries chain_total (rows_of setting infos) at
      ∙ chain_fixed (flat_map (node_port_block setting) infos)
      (flat_map (service_block setting) infos) (flat_map firewall_block infos)
      (flat_map (external_block setting.family) infos) (flat_map refusal_block infos)
      (flat_map (port_rows setting) infos) setting.family at.table at.chain of built_in
  found_by infos false other =
      get-from_entries chain_total (rows_of setting infos) at
      ∙ none_found setting.family at other (rows_of setting infos)
      (rows_stand_in_family setting infos)

pub full_tables_have_same_built_in_by : FullTablesHaveSameBuiltIn
full_tables_have_same_built_in_by setting before after at h =
    found_by setting at h before _ refl ∙ sym (found_by setting at h after _ refl)

-- ---- The product's setting

range_in_by : (family : Family) (r : RangeParts) (same : Bool) → is_bounded_range r ≡ true
    → same_family r.base.family family ≡ same
    → passes_if_some (is_canonical_range family) (cond same (Some r) None) ≡ true
range_in_by family r true h is =
    subst (λ f. is_canonical_range f r ≡ true) (same_family_exact r.base.family family is) h
range_in_by family r false h is = refl

range_in_fits : (family : Family) (range : Option RangeParts)
    → passes_if_some is_bounded_range range ≡ true
    → passes_if_some (is_canonical_range family) (option_and_then (range_in family) range) ≡ true
range_in_fits family None h = refl
range_in_fits family (Some r) h = range_in_by family r _ h refl

cluster_fits : (family : Family) (config : Config) → IsBoundedConfig config
    → passes_if_some (is_canonical_range family) (cluster_range family config) ≡ true
cluster_fits V4 config bounded = range_in_fits V4 config.cluster bounded.cluster
cluster_fits V6 config bounded = range_in_fits V6 config.cluster6 bounded.cluster6

pub product_is_printable_by : HashedPrefixed → ProductIsPrintable
product_is_printable_by prefixed family config bounded = record {
  named = hashed_names _ config.name_to;
  prefixed = prefixed config.name_length;
  cluster = cluster_fits family config bounded;
}
