-- The tables of a node's families: look-ups and changes are those of each family alone.
use Rattle.std.proofs.Common.{◌≡◌, ◌==◌, ◌&&◌, ◌||◌, ◌++◌, Bool, true, false, cond, List, [], ◌∷◌, Option, Some, None, is_some, refl, sym, ap, ◌∙◌, T}
use Rattle.std.specs.declared.cmp.Ordering.{Ordering}
use Rattle.std.specs.declared.cmp.Ordering.TheVariants.{Equal}
use Rattle.std.specs.Option.{option_or}
use Rattle.std.specs.Cmp.{IsTotalOrder}
use Rattle.std.specs.FinMap.{find, get, entries, entries_sorted, empty, from_sorted, get-empty, get-entries, get-from_entries, get-from_sorted, entries-from_sorted, same_map, is_sorted, IsAntisymmetric}
use Rattle.std.specs.FinMap.Entries.{is_sorted-where_key, find-where_key}
use Rattle.std.specs.List.{cons_option, filter, filter_map, flat_map, list_all, list_any}
use Rattle.std.proofs.lemmas.Bool.{and_from, and_parts, false≢true, false_from_ne_true}
use Rattle.std.proofs.lemmas.List.{append-nil}
use Rattle.kp_lemmas.proofs.Entries.{empty_entries}
use Rattle.kp_lemmas.proofs.ListFacts.{test_append}
use Rattle.kp_lemmas.proofs.Members.{all_flat_map, all_map}
use Rattle.kp_lemmas.proofs.Orders.{one_from_tie}
use Rattle.kp_base.specs.Net.{same_family}
use Rattle.kp_base.specs.declared.address.Family.{Family}
use Rattle.kp_base.specs.declared.address.Family.TheVariants.{V4, V6}
use Rattle.kp_base.proofs.SameParts.{family_itself, same_family_exact}
use Rattle.kp_types.specs.Places.{chain_cmp, family_of_table, filter_of, nat_of, table_in, table_place}
use Rattle.kp_types.specs.Setting.{Settings, both_families, has_tables_of, view_of}
use Rattle.kp_types.specs.declared.chain.ChainAt.{ChainAt}
use Rattle.kp_types.specs.declared.chain.TableName.{TableName}
use Rattle.kp_types.specs.declared.chain.TableName.TheVariants.{Nat, Filter, Nat6, Filter6}
use Rattle.kp_types.specs.declared.rule.Edit.{Edit}
use Rattle.kp_types.specs.declared.rule.Edit.TheVariants.{Remove, Write}
use Rattle.kp_types.specs.declared.rule.Rule.{Rule}
use Rattle.kp_types.proofs.ChainOrder.{chain_exact, chain_total, one_table_from_test}
use Rattle.kp_types.proofs.TableFamilies.{filter_is_own, nat_is_own}
use Rattle.kp_choice_defs.specs.Settings.{settings_of}
use Rattle.kp_object_defs.specs.PortInfo.{PortInfo}
use Rattle.kp_table_defs.specs.Edits.{chains_in, changes_between, changes_of, is_found_with, remove_if_gone, table_changes, write_if_changed}
use Rattle.kp_table_defs.specs.Keys.{own_keys}
use Rattle.kp_table_defs.specs.Layout.{filter_rows, nat_rows, port_rows, row_of_key, rows_of}
use Rattle.kp_table_defs.specs.Rebuild.{Chains, full_chains, rows_of_families}
use Rattle.kp_table_laws.specs.Families.{ChangesByTables, ChangesOfFamily, ChangesOfNode, FamilyStandsAlone, HasTablesOf, NoChangesBeside, NoneBeside, RowsStandInFamily, chains_of_families}
use Rattle.kp_table_laws.proofs.Found.{found_in_both}
use Rattle.kp_table_laws.proofs.KeyRows.{Row}

-- ---- Tables of a family

pub table_is_own : (family : Family) (table : TableName)
    → family_of_table (table_in family table) ≡ family
table_is_own family Nat = nat_is_own family
table_is_own family Filter = filter_is_own family
table_is_own family Nat6 = nat_is_own family
table_is_own family Filter6 = filter_is_own family

-- the families of a node
abbrev families_by : Bool → List Family
families_by dual = cond dual both_families (V4 ∷ [])

-- ---- Rows of a family

-- whether a row stands in a table of a family
abbrev stands_in : Family → Row → Bool
stands_in family r = same_family (family_of_table r.0.table) family

-- seven chains of a table, and others
seven : (b c : Bool) → b ≡ true → c ≡ true
    → b && (b && (b && (b && (b && (b && (b && c)))))) ≡ true
seven b c h k =
    and_from b _ h (and_from b _ h (and_from b _ h (and_from b _ h (and_from b _ h
    (and_from b _ h (and_from b c h k))))))

pub rows_stand_in_family : RowsStandInFamily
rows_stand_in_family setting infos =
    let family = setting.family in
    let nat = ap (λ f. same_family f family) (nat_is_own family) ∙ family_itself family in
    let other = ap (λ f. same_family f family) (filter_is_own family) ∙ family_itself family in
    test_append (stands_in family) (nat_rows setting infos)
    (filter_rows family infos ++ flat_map (port_rows setting) infos)
    (seven _ _ nat (and_from _ _ nat refl))
    (test_append (stands_in family) (filter_rows family infos) (flat_map (port_rows setting) infos)
    (seven _ _ other refl)
    (all_flat_map (stands_in family) (port_rows setting) infos
    (λ i c. all_map (stands_in family) (row_of_key setting i) (own_keys i) (λ k d. nat))))

-- a look-up at a place of another family finds none of them
pub none_found : (family : Family) (q : ChainAt)
    → same_family (family_of_table q.table) family ≡ false
    → (rows : List Row) → list_all (stands_in family) rows ≡ true → find chain_cmp q rows ≡ None
none_found family q differs [] h = refl
none_found family q differs (r ∷ rows) h =
    let both = and_parts (stands_in family r) (list_all (stands_in family) rows) h in
    ap (λ b. cond b (Some r.1) (find chain_cmp q rows)) (false_from_ne_true _ (λ tie.
    false≢true (sym differs ∙ ap (λ (p : ChainAt). same_family (family_of_table p.table) family)
    (one_from_tie chain_exact q r.0 tie) ∙ both.0)))
    ∙ none_found family q differs rows both.1

-- ---- Look-ups

-- what is found, or found later if at all
found_once : {X : Type 0} (o : Option X) (b : Bool) → option_or o (cond b o None) ≡ o
found_once None true = refl
found_once None false = refl
found_once (Some x) b = refl

module _ (settings : Settings) (infos : Family → List PortInfo) (family : Family) (q : ChainAt)
    (own : family_of_table q.table ≡ family) where
  -- the rows of a family, and what is found in those of this one
  abbrev rows_in : Family → List Row
  rows_in f = rows_of (view_of f settings) (infos f)

  abbrev alone : Option (List Rule)
  alone = find chain_cmp q (rows_in family)

  first_family : (f : Family) (fs : List Family) (b : Bool) → same_family family f ≡ b
      → find chain_cmp q (flat_map rows_in fs) ≡ cond (list_any (same_family family) fs) alone None
      → option_or (find chain_cmp q (rows_in f)) (find chain_cmp q (flat_map rows_in fs))
      ≡ cond (b || list_any (same_family family) fs) alone None
  first_family f fs true same rest =
      (λ i. option_or (find chain_cmp q (rows_in (sym (same_family_exact family f same) i)))
      (rest i))
      ∙ found_once alone (list_any (same_family family) fs)
  first_family f fs false differs rest =
      λ i. option_or
      (none_found f q (ap (λ g. same_family g f) own ∙ differs) (rows_in f)
      (rows_stand_in_family (view_of f settings) (infos f)) i)
      (rest i)

  found_in_families : (fs : List Family) → find chain_cmp q (flat_map rows_in fs)
      ≡ cond (list_any (same_family family) fs) alone None
  found_in_families [] = refl
  found_in_families (f ∷ fs) =
      found_in_both chain_cmp q (rows_in f) (flat_map rows_in fs)
      ∙ first_family f fs _ refl (found_in_families fs)

  get_in_families : get (chains_of_families settings infos) q
      ≡ cond (has_tables_of family settings)
      (get (full_chains (view_of family settings) (infos family)) q) None
  get_in_families =
      get-from_entries chain_total (rows_of_families settings infos) q
      ∙ found_in_families settings.families
      ∙ ap (λ o. cond (has_tables_of family settings) o None)
      (sym (get-from_entries chain_total (rows_in family) q))

pub family_stands_alone : FamilyStandsAlone
family_stands_alone settings infos family has q own =
    get_in_families settings infos family q own
    ∙ ap (λ b. cond b (get (full_chains (view_of family settings) (infos family)) q) None) has

pub none_beside : NoneBeside
none_beside settings infos family lacks q own =
    get_in_families settings infos family q own
    ∙ ap (λ b. cond b (get (full_chains (view_of family settings) (infos family)) q) None) lacks
    ∙ sym (get-empty chain_cmp q)

-- ---- Changes

tested_alike : {X : Type 0} (b : Bool) (o other : Option X) → (b ≡ true → o ≡ other)
    → cond b o None ≡ cond b other None
tested_alike true o other alike = alike refl
tested_alike false o other alike = refl

module _ {K X : Type 0} {R : K → K → Ordering} (total : IsTotalOrder R)
    (exact : IsAntisymmetric R) where
  -- entries in order, of the keys of which those that pass a test are looked up alike
  pub kept_alike : (p : K → Bool) (es fs : List (K × X)) → T (is_sorted R es) → T (is_sorted R fs)
      → ((q : K) → p q ≡ true → find R q es ≡ find R q fs)
      → filter (λ (e : K × X). p e.0) es ≡ filter (λ (e : K × X). p e.0) fs
  kept_alike p es fs order_es order_fs alike =
      let kept : List (K × X) → List (K × X) = filter (λ (e : K × X). p e.0) in
      let one : (q x : K) → R q x ≡ Equal → p x ≡ p q = λ q x tie. ap p (sym (exact q x tie)) in
      sym (entries-from_sorted R (kept es) (is_sorted-where_key R p es order_es))
      ∙ ap entries (same_map total exact (from_sorted {R = R} (kept es))
      (from_sorted {R = R} (kept fs)) (λ q.
      get-from_sorted R (kept es) q (is_sorted-where_key R p es order_es)
      ∙ find-where_key R p q (one q) es
      ∙ tested_alike (p q) (find R q es) (find R q fs) (alike q)
      ∙ sym (find-where_key R p q (one q) fs)
      ∙ sym (get-from_sorted R (kept fs) q (is_sorted-where_key R p fs order_fs))))
      ∙ entries-from_sorted R (kept fs) (is_sorted-where_key R p fs order_fs)

-- what is given at the elements that pass a test depends on these
pub given_alike : {X Y : Type 0} (f g : X → Option Y) (test : X → Bool)
    → ((x : X) → test x ≡ true → f x ≡ g x) → (xs : List X)
    → filter_map f (filter test xs) ≡ filter_map g (filter test xs)
given_alike f g test alike [] = refl
given_alike {X} {Y} f g test alike (x ∷ xs) =
    by (test x) refl (given_alike f g test alike xs)
  where
    by : (b : Bool) → test x ≡ b
        → filter_map f (filter test xs) ≡ filter_map g (filter test xs)
        → filter_map f (cond b (x ∷ filter test xs) (filter test xs))
        ≡ filter_map g (cond b (x ∷ filter test xs) (filter test xs))
    by true h rest = λ i. cons_option (alike x h i) (rest i)
    by false h rest = rest

written_alike : (before old : Chains) (r : Row) → get before r.0 ≡ get old r.0
    → write_if_changed before r ≡ write_if_changed old r
written_alike before old (at, rules) alike =
    ap (λ found. cond (is_found_with rules found) None (Some (Write at rules))) alike

removed_alike : (after new : Chains) (r : Row) → get after r.0 ≡ get new r.0
    → remove_if_gone after r ≡ remove_if_gone new r
removed_alike after new (at, rules) alike =
    ap (λ found. cond (is_some found) None (Some (Remove at))) alike

module _ (family : Family) (table : TableName) (of : family_of_table table ≡ family) where
  -- whether a row is of the table
  abbrev is_of : Row → Bool
  is_of r = table_place r.0.table == table_place table

  of_family : (q : ChainAt) → (table_place q.table == table_place table) ≡ true
      → family_of_table q.table ≡ family
  of_family q inside = ap family_of_table (one_table_from_test q.table table inside) ∙ of

  pub chains_alike : (chains others : Chains) → HasTablesOf family chains others
      → chains_in table chains ≡ chains_in table others
  chains_alike chains others alike =
      kept_alike chain_total chain_exact (λ q. table_place q.table == table_place table)
      (entries chains) (entries others) (entries_sorted chains) (entries_sorted others)
      (λ q inside. sym (get-entries chains q) ∙ alike q (of_family q inside)
      ∙ get-entries others q)

  table_alike : (before after old new : Chains) → HasTablesOf family before old
      → HasTablesOf family after new
      → table_changes before after table ≡ table_changes old new table
  table_alike before after old new was is =
      let written =
      ap (filter_map (write_if_changed before)) (chains_alike after new is)
      ∙ given_alike (write_if_changed before) (write_if_changed old) is_of
      (λ r inside. written_alike before old r (was r.0 (of_family r.0 inside))) (entries new) in
      let removed =
      ap (filter_map (remove_if_gone after)) (chains_alike before old was)
      ∙ given_alike (remove_if_gone after) (remove_if_gone new) is_of
      (λ r inside. removed_alike after new r (is r.0 (of_family r.0 inside))) (entries old) in
      λ i. written i ++ removed i

pub changes_by_tables : ChangesByTables
changes_by_tables family before after old new was is =
    λ i.
    table_alike family (nat_of family) (nat_is_own family) before after old new was is i
    ++ table_alike family (filter_of family) (filter_is_own family) before after old new was is i

pub changes_of_family : ChangesOfFamily
changes_of_family settings old new family has =
    changes_by_tables family _ _ _ _ (family_stands_alone settings old family has)
    (family_stands_alone settings new family has)

-- tables without a chain have no changes
none_changed : (table : TableName) → table_changes empty empty table ≡ []
none_changed table =
    ap (λ (rows : List Row). filter_map (write_if_changed empty)
    (filter (λ r. table_place r.0.table == table_place table) rows)
    ++ filter_map (remove_if_gone empty)
    (filter (λ r. table_place r.0.table == table_place table) rows)) (empty_entries chain_cmp)

pub no_changes_beside : NoChangesBeside
no_changes_beside settings old new family lacks =
    changes_by_tables family _ _ empty empty (none_beside settings old family lacks)
    (none_beside settings new family lacks)
    ∙ (λ i. none_changed (nat_of family) i ++ none_changed (filter_of family) i)

-- ---- Changes of a node

module _ (settings : Settings) (old new : Family → List PortInfo) where
  -- a node with tables of IPv6 or without them
  abbrev node_by : Bool → Settings
  node_by dual = record settings { families = families_by dual }

  abbrev changes_in : Family → List Edit
  changes_in family =
      changes_of family (full_chains (view_of family settings) (old family))
      (full_chains (view_of family settings) (new family))

  changes_by : (dual : Bool)
      → changes_between (chains_of_families (node_by dual) old)
      (chains_of_families (node_by dual) new)
      ≡ flat_map changes_in (families_by dual)
  changes_by true =
      λ i.
      changes_of_family (node_by true) old new V4 refl i
      ++ (changes_of_family (node_by true) old new V6 refl ∙ sym (append-nil (changes_in V6))) i
  changes_by false =
      λ i.
      changes_of_family (node_by false) old new V4 refl i
      ++ no_changes_beside (node_by false) old new V6 refl i

pub changes_of_node : ChangesOfNode
changes_of_node config old new = changes_by (settings_of config) old new config.dual
