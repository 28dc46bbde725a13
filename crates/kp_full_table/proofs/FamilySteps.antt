-- The tables of a node's families, one family after another.
use Rattle.std.proofs.Common.{◌≡◌, ◌+◌, ◌<◌, ◌≤◌, ◌||◌, ℕ, suc, arith, Bool, true, false, List, [], ◌∷◌, ◌++◌, take, drop, length, get_or, None, Option, slice_get, refl, sym, ap, ◌∙◌}
use Rattle.std.specs.List.{cons_option, filter_map}
use Rattle.std.specs.FinMap.{get, same_map}
use Rattle.std.proofs.Math.Bool.{or-false, or_comm}
use Rattle.std.proofs.Math.Seq.{drop-cons}
use Rattle.std.proofs.lemmas.List.{take_more, take-append-drop}
use Rattle.std.proofs.lemmas.List.Elements.{filter_map-append}
use Rattle.std.proofs.lemmas.List.Folds.{list_any-append}
use Rattle.std.proofs.lemmas.List.Sums.{sum_by_more, sum_by-take-le}
use Rattle.kp_base.specs.Net.{same_family}
use Rattle.kp_base.specs.declared.address.Family.{Family}
use Rattle.kp_base.specs.declared.address.Family.TheVariants.{V4}
use Rattle.kp_types.specs.Places.{family_of_table}
use Rattle.kp_types.specs.Setting.{Settings, has_tables_of, view_of}
use Rattle.kp_types.specs.declared.chain.ChainAt.{ChainAt}
use Rattle.kp_types.specs.declared.chain.Clash.{Clash}
use Rattle.kp_types.proofs.ChainOrder.{chain_total, chain_exact}
use Rattle.kp_object_defs.specs.PortInfo.{PortInfo}
use Rattle.kp_table_defs.specs.Layout.{rows_of}
use Rattle.kp_table_defs.specs.Rebuild.{TableParts, clash_among, clashes_among, rows_of_families}
use Rattle.kp_table_laws.specs.Families.{chains_of_families}
use Rattle.kp_table_laws.proofs.Families.{family_stands_alone, none_beside}
use Rattle.kp_table_laws.proofs.KeyRows.{Row}
use Rattle.kp_chains.specs.Tables.{table_with, with_rows}
use Rattle.kp_chains.proofs.Popped.{chains_before}
use Rattle.kp_full_table.specs.Faults.{TellsClash}
use Rattle.kp_full_table.specs.Parts.{all_rule_count, families_rule_count}
use Rattle.kp_full_table.specs.declared.fault.TableFault.{TableFault}
use Rattle.kp_full_table.specs.declared.fault.TableFault.TheVariants.{ChainClash, NoMemory}

module _ (settings : Settings) (infos : Family → List PortInfo) where
  -- the node with tables of some families
  abbrev pub with_families : List Family → Settings
  with_families fs = record settings { families = fs }

  -- the chains of some families
  abbrev pub rows_among : List Family → List Row
  rows_among fs = rows_of_families (with_families fs) infos

  -- the clash of a family, and how many rules its ports have
  abbrev clash_in : Family → Option Clash
  clash_in f = clash_among (view_of f settings) (infos f)

  abbrev pub rules_in : Family → ℕ
  rules_in f = all_rule_count (view_of f settings) (infos f)

  -- and those of some families together
  abbrev pub rules_among : List Family → ℕ
  rules_among fs = families_rule_count (with_families fs) infos

  -- ---- Chains

  module _ (f : Family) (fs : List Family) where
    one_more : (family : Family)
        → has_tables_of family (with_families (f ∷ fs))
        ≡ has_tables_of family (with_families (fs ++ f ∷ []))
    one_more family =
        or_comm (same_family family f) (has_tables_of family (with_families fs))
        ∙ ap (λ b. has_tables_of family (with_families fs) || b)
        (sym (or-false (same_family family f)))
        ∙ sym (list_any-append (same_family family) fs (f ∷ []))

    found_by : (q : ChainAt) (b : Bool)
        → has_tables_of (family_of_table q.table) (with_families (f ∷ fs)) ≡ b
        → get (chains_of_families (with_families (f ∷ fs)) infos) q
        ≡ get (chains_of_families (with_families (fs ++ f ∷ [])) infos) q
    found_by q true is =
        let family = family_of_table q.table in
        family_stands_alone (with_families (f ∷ fs)) infos family is q refl
        ∙ sym (family_stands_alone (with_families (fs ++ f ∷ [])) infos family
        (sym (one_more family) ∙ is) q refl)
    found_by q false is =
        let family = family_of_table q.table in
        none_beside (with_families (f ∷ fs)) infos family is q refl
        ∙ sym (none_beside (with_families (fs ++ f ∷ [])) infos family
        (sym (one_more family) ∙ is) q refl)

    -- it's one whether a family's chains come first or last
    first_or_last : chains_of_families (with_families (f ∷ fs)) infos
        ≡ chains_of_families (with_families (fs ++ f ∷ [])) infos
    first_or_last =
        same_map chain_total chain_exact (chains_of_families (with_families (f ∷ fs)) infos)
        (chains_of_families (with_families (fs ++ f ∷ [])) infos) (λ q. found_by q _ refl)

  module _ (fs : List Family) (k : ℕ) (lt : k < length fs) where
    -- the family at a place
    abbrev f : Family
    f = get_or fs k V4

    more_families : take (k + 1) fs ≡ take k fs ++ f ∷ []
    more_families = take_more fs k V4 lt

    -- the tables of one more family
    pub next_tables : (old new : TableParts) → old ≡ table_with (rows_among (take k fs))
        → new ≡ with_rows (rows_of (view_of f settings) (infos f)) old
        → new ≡ table_with (rows_among (take (k + 1) fs))
    next_tables old new so_far put =
        let rows = rows_of (view_of f settings) (infos f) in
        put
        ∙ ap (with_rows rows) so_far
        ∙ ap (λ m. record { chains = m; syncs = 0 })
        (chains_before rows (rows_among (take k fs)) ∙ first_or_last f (take k fs))
        ∙ ap (λ fs. table_with (rows_among fs)) (sym more_families)

    -- ---- Clashes

    -- no two of its chains clash either
    pub next_clashes : clashes_among (with_families (take k fs)) infos ≡ []
        → clash_among (view_of f settings) (infos f) ≡ None
        → clashes_among (with_families (take (k + 1) fs)) infos ≡ []
    next_clashes so_far none =
        ap (filter_map clash_in) more_families
        ∙ filter_map-append clash_in (take k fs) (f ∷ [])
        ∙ (λ i. so_far i ++ cons_option (none i) [])

    -- its clash is the first
    pub first_told : (fault : TableFault) → clashes_among (with_families (take k fs)) infos ≡ []
        → TellsClash (clash_among (view_of f settings) (infos f)) fault
        → TellsClash (slice_get (clashes_among (with_families fs) infos) 0) fault
    first_told (NoMemory refused) so_far told = tt
    first_told (ChainClash c) so_far told =
        let later : List Family = drop (suc k) fs in
        ap (λ cs. slice_get cs 0) (
        ap (filter_map clash_in)
        (sym (take-append-drop k fs) ∙ ap (λ xs. take k fs ++ xs) (drop-cons fs k V4 lt))
        ∙ filter_map-append clash_in (take k fs) (f ∷ later)
        ∙ (λ i. so_far i ++ cons_option (told i) (filter_map clash_in later)))

    -- ---- Counts

    pub next_rules : (start old new : ℕ) → old ≡ start + rules_among (take k fs)
        → new ≡ old + rules_in f → new ≡ start + rules_among (take (k + 1) fs)
    next_rules start old new so_far counted =
        omega (arith, so_far, counted, sum_by_more rules_in fs k V4 lt)

    pub few_rules : (start old new : ℕ) → old ≡ start + rules_among (take k fs)
        → new ≤ old + rules_in f → new ≤ start + rules_among fs
    few_rules start old new so_far counted =
        omega (arith, so_far, counted, sum_by_more rules_in fs k V4 lt, sum_by-take-le rules_in fs (k + 1))
