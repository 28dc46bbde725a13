-- The batch between two full tables: it is read back, it leads from the first to the second, and no
-- rule of that jumps to a chain that the batch removes.
use Rattle.std.proofs.Common.{◌≡◌, inl, inr, Bool, true, false, cond, List, Contains, Some, None, is_some, true≢false, refl, sym, ap, subst, ◌∙◌}
use Rattle.std.specs.List.{fold}
use Rattle.std.specs.FinMap.{get}
use Rattle.std.proofs.lemmas.List.Elements.{Contains-append_cases}
use Rattle.kp_lemmas.proofs.Members.{from_all, from_filter_map}
use Rattle.kp_base.specs.declared.address.Family.{Family}
use Rattle.kp_base.specs.declared.address.Family.TheVariants.{V4, V6}
use Rattle.kp_types.specs.Edits.{edits_of_family}
use Rattle.kp_types.specs.Places.{filter_of, nat_of}
use Rattle.kp_types.specs.Setting.{Setting, view_of}
use Rattle.kp_types.specs.declared.chain.ChainAt.{ChainAt}
use Rattle.kp_types.specs.declared.chain.TableName.{TableName}
use Rattle.kp_types.specs.declared.rule.Edit.{Edit}
use Rattle.kp_types.specs.declared.rule.Edit.TheVariants.{Write, Remove}
use Rattle.kp_types.specs.declared.rule.Rule.{Rule}
use Rattle.kp_object_defs.specs.PortInfo.{PortInfo, infos_by_family}
use Rattle.kp_table_defs.specs.Edits.{ChangesLeadOver, chains_after_edit, chains_in, changes_between, changes_of, is_found_with, table_changes, write_if_changed}
use Rattle.kp_table_defs.specs.Ranks.{is_ranked}
use Rattle.kp_table_defs.specs.Rebuild.{Chains, full_chains, full_table}
use Rattle.kp_restore_defs.specs.BatchText.{is_canonical_batch, BatchTextsDiffer}
use Rattle.kp_restore_defs.specs.BatchesBetween.{ChangesAreCanonical}
use Rattle.kp_restore_defs.specs.TableText.{jumps_to_declared}
use Rattle.kp_table_laws.proofs.Families.{changes_of_family}
use Rattle.kp_text_laws.specs.TableLaws.{ChangesReadBack, FullTableReadsBack, FullTablesHaveSameBuiltIn, NoneJumpsTo, OwnTableCanonical, edits_between}
use Rattle.kp_text_laws.proofs.OwnEdits.{part_leads, part_of_changes, text_of_part}
use Rattle.kp_text_laws.proofs.Tables.{declared}

-- ---- Removed chains

no_remove : (at to : ChainAt) (rules : List Rule) (b : Bool)
    → cond b None (Some (Write at rules)) ≡ Some (Remove to) → ⊥
no_remove at to rules true h = cc
no_remove at to rules false h = cc

gone_by : (after : Chains) (at to : ChainAt) (b : Bool) → is_some (get after at) ≡ b
    → cond b None (Some (Remove at)) ≡ Some (Remove to) → is_some (get after to) ≡ false
gone_by after at to true is h = absurd (cc)
gone_by after at to false is h =
    let same : at ≡ to = cc in subst (λ q. is_some (get after q) ≡ false) same is

module _ (before after : Chains) (to : ChainAt) where
  removed_in : (table : TableName) → Contains (table_changes before after table) (Remove to)
      → is_some (get after to) ≡ false
  removed_in table c =
      elim (Contains-append_cases _ _ _ c) [
        | inl d ↦
            let (r, stands, made) =
            from_filter_map (write_if_changed before) (Remove to) (chains_in table after) d in
            absurd (no_remove r.0 to r.1 (is_found_with r.1 (get before r.0)) made)
        | inr d ↦
            let (r, stands, made) = from_filter_map _ (Remove to) (chains_in table before) d in
            gone_by after r.0 to (is_some (get after r.0)) refl made
      ]

  removed_of : (family : Family) → Contains (changes_of family before after) (Remove to)
      → is_some (get after to) ≡ false
  removed_of family c =
      elim (Contains-append_cases _ _ _ c) [
        | inl d ↦ removed_in (nat_of family) d
        | inr d ↦ removed_in (filter_of family) d
      ]

  -- a chain that the changes remove isn't there afterwards
  removed : Contains (changes_between before after) (Remove to) → is_some (get after to) ≡ false
  removed c =
      elim (Contains-append_cases _ _ _ c) [
        | inl d ↦ removed_of V4 d
        | inr d ↦ removed_of V6 d
      ]

-- where the second table is ranked, no rule of it jumps to such a chain
closed_by : (before after : Chains) → is_ranked after ≡ true → (to : ChainAt)
    → Contains (changes_between before after) (Remove to) → NoneJumpsTo after to
closed_by before after ranked to c at rules r stands in_rules same_table jumps =
    let goes : jumps_to_declared after at.table r.target ≡ true = declared after at.table _ rules
    (from_all _ _ ranked _ stands) r in_rules in
    let found : is_some (get after to) ≡ true =
    ap (λ table. is_some (get after (record { table = table; chain = to.chain }))) (sym same_table)
    ∙ sym (ap (jumps_to_declared after at.table) jumps) ∙ goes in
    true≢false (sym found ∙ removed before after to c)

pub changes_read_back_by : ChangesAreCanonical → ChangesLeadOver → BatchTextsDiffer
    → OwnTableCanonical → FullTableReadsBack → FullTablesHaveSameBuiltIn → ChangesReadBack
changes_read_back_by fits lead differ own back same settings o p family has printable of_o of_p =
    let infos_o : Family → List PortInfo = infos_by_family settings o in
    let infos_p : Family → List PortInfo = infos_by_family settings p in
    let before : Chains = (full_table settings o).chains in
    let after : Chains = (full_table settings p).chains in
    let setting : Setting = view_of family settings in
    let edits : List Edit = edits_between settings o p in
    let part : List Edit = edits_of_family family edits in
    let is : part ≡ changes_of family (full_chains setting (infos_o family))
    (full_chains setting (infos_p family)) =
    part_of_changes before after family
    ∙ changes_of_family settings infos_o infos_p family has in
    let fit : is_canonical_batch family part ≡ true =
    ap (is_canonical_batch family) is
    ∙ fits family _ _ (own setting o printable of_o) (own setting p printable of_p)
    (same setting (infos_o family) (infos_p family)) in
    let leads : fold chains_after_edit before edits ≡ after = lead before after in
    let ranked : is_ranked after ≡ true = (back settings p family has printable of_p).ranked in
    record {
      canonical = fit;
      only = λ others h e. differ family others part h fit (e ∙ sym (text_of_part family edits));
      own = λ q of. part_leads family edits before before (λ r within. refl) q of
          ∙ ap (λ (m : Chains). get m q) leads;
      leads = leads;
      ranked = ap is_ranked leads ∙ ranked;
      closed = closed_by before after ranked;
    }
