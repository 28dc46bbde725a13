-- What a look-up finds in the full table of a family.
use Rattle.std.proofs.Common.{◌≡◌, ℕ, true, false, cond, List, [], ◌∷◌, ◌++◌, Bool, Contains, Option, Some, bytes_eq, flat_map, is_some, map, refl, sym, ap, ◌∙◌}
use Rattle.std.specs.declared.cmp.Ordering.{Ordering}
use Rattle.std.specs.declared.cmp.Ordering.TheVariants.{Less, Equal, Greater}
use Rattle.std.specs.Ordering.{eq_by_cmp, is_eq, ordering_then}
use Rattle.std.specs.Cmp.{eq_by_cmp_equiv, tied_itself}
use Rattle.std.specs.Cmp.Lexicographic.{texts_ties}
use Rattle.std.specs.FinMap.{find, get, get-from_entries}
use Rattle.std.specs.FinMap.Entries.{is_some-find}
use Rattle.std.specs.List.{AllByRecursion, list_any}
use Rattle.std.specs.Map.{lookup}
use Rattle.std.specs.Option.{option_or}
use Rattle.std.proofs.lemmas.Bool.{or_parts}
use Rattle.std.proofs.lemmas.Cmp.{nat_cmp_total}
use Rattle.std.proofs.lemmas.Map.Views.{list_any-from_Contains}
use Rattle.kp_lemmas.proofs.Members.{in_map}
use Rattle.kp_base.specs.Keys.{text_cmp}
use Rattle.kp_base.specs.declared.address.Family.{Family}
use Rattle.kp_base.specs.declared.address.Family.TheVariants.{V4, V6}
use Rattle.kp_types.specs.Setting.{Setting}
use Rattle.kp_types.specs.Places.{chain_cmp, filter_of, nat_of, place_in, table_cmp, table_place}
use Rattle.kp_types.proofs.ChainOrder.{chain_total}
use Rattle.kp_types.specs.declared.chain.TableName.{TableName}
use Rattle.kp_types.specs.declared.chain.TableName.TheVariants.{Nat, Filter}
use Rattle.kp_types.specs.declared.chain.ChainAt.{ChainAt}
use Rattle.kp_types.specs.declared.rule.Rule.{Rule}
use Rattle.kp_object_defs.specs.PortInfo.{PortInfo}
use Rattle.kp_table_defs.specs.Layout.{filter_rows, nat_rows, port_rows, rows_of}
use Rattle.kp_table_defs.specs.Rebuild.{full_chains}
use Rattle.kp_table_laws.proofs.KeyRows.{Row}
use Rattle.kp_walk_laws.proofs.FirstHook.{FindsNat}
use Rattle.kp_walk_laws.proofs.FilterChains.{FindsFilter}

-- ---- Rows

then_false : (a b : Ordering) → is_eq b ≡ false → is_eq (ordering_then a b) ≡ false
then_false Less b h = refl
then_false Equal b h = h
then_false Greater b h = refl

-- a place of another name is another place
other_place : (q at : ChainAt) → bytes_eq q.chain at.chain ≡ false
    → eq_by_cmp chain_cmp q at ≡ false
other_place q at h = then_false _ _ (sym (texts_ties q.chain at.chain) ∙ h)

-- a look-up passes over rows of other names
pub pass_over : (q : ChainAt) (rows more : List Row)
    → list_any (λ r. bytes_eq q.chain r.0.chain) rows ≡ false
    → find chain_cmp q (rows ++ more) ≡ find chain_cmp q more
pass_over q [] more h = refl
pass_over q (r ∷ rows) more h =
    let parts = or_parts _ _ h in
    ap (λ b. cond b (Some r.1) (find chain_cmp q (rows ++ more))) (other_place q r.0 parts.0)
    ∙ pass_over q rows more parts.1

-- ---- Rows of one table

-- rows by the names of their chains
abbrev named : List Row → List (List ℕ × List Rule)
named rows = map (λ (r : Row). (r.0.chain, r.1)) rows

-- what is found, or else found later
found_first : {X : Type 0} (b : Bool) (x : X) (now later : Option X) (found : Option X)
    → found ≡ option_or now later
    → cond b (Some x) found ≡ option_or (cond b (Some x) now) later
found_first true x now later found h = refl
found_first false x now later found h = h

module _ (table : TableName) (chain : List ℕ) where
  -- the place of the chain in the table
  abbrev here : ChainAt
  here = record { table = table; chain = chain }

  -- places of one table are told apart by their names
  named_place : (at : ChainAt) → at.table ≡ table
      → eq_by_cmp chain_cmp here at ≡ bytes_eq chain at.chain
  named_place at same =
      ap (λ t. is_eq (ordering_then (table_cmp table t) (text_cmp chain at.chain))) same
      ∙ ap (λ o. is_eq (ordering_then o (text_cmp chain at.chain)))
      (tied_itself nat_cmp_total (table_place table))
      ∙ sym (texts_ties chain at.chain)

  -- a look-up in rows of the table goes by their names
  find_named : (rows more : List Row) → AllByRecursion (λ r. r.0.table ≡ table) rows
      → find chain_cmp here (rows ++ more)
      ≡ option_or (lookup (bytes_eq chain) (named rows)) (find chain_cmp here more)
  find_named [] more h = refl
  find_named (r ∷ rows) more h =
      ap (λ b. cond b (Some r.1) (find chain_cmp here (rows ++ more))) (named_place r.0 h.0)
      ∙ found_first (bytes_eq chain r.0.chain) r.1 _ _ _ (find_named rows more h.1)

  -- and passes over those of tables before it
  find_after : (rows more : List Row)
      → AllByRecursion (λ r. table_cmp table r.0.table ≡ Greater) rows
      → find chain_cmp here (rows ++ more) ≡ find chain_cmp here more
  find_after [] more h = refl
  find_after (r ∷ rows) more h =
      ap (λ o. cond (is_eq (ordering_then o (text_cmp chain r.0.chain))) (Some r.1)
      (find chain_cmp here (rows ++ more))) h.0
      ∙ find_after rows more h.1

-- the nat table of a family stands before its filter table
filter_later : (family : Family) → table_cmp (filter_of family) (nat_of family) ≡ Greater
filter_later V4 = refl
filter_later V6 = refl

module _ (setting : Setting) (infos : List PortInfo) where
  -- a look-up in the tables of the family, of places as IPv4 has them
  abbrev pub look_up : ChainAt → Option (List Rule)
  look_up q = get (full_chains setting infos) (place_in setting.family q)

  -- the rows behind the fixed ones
  abbrev own_rows : List Row
  own_rows = flat_map (port_rows setting) infos

  -- a look-up of a place that has a row finds rules
  pub is_found : (q : ChainAt) (rules : List Rule) → Contains (rows_of setting infos) (q, rules)
      → is_some (get (full_chains setting infos) q) ≡ true
  is_found q rules c =
      ap is_some (get-from_entries chain_total (rows_of setting infos) q)
      ∙ is_some-find chain_cmp q (rows_of setting infos)
      ∙ list_any-from_Contains (eq_by_cmp_equiv chain_total) q
      (map (λ r. r.0) (rows_of setting infos)) (in_map (λ r. r.0) _ (rows_of setting infos) c)

  -- a look-up in nat goes by the names of its fixed chains
  pub in_nat : (chain : List ℕ)
      → look_up (record { table = Nat; chain = chain })
      ≡ option_or (lookup (bytes_eq chain) (named (nat_rows setting infos)))
      (find chain_cmp (record { table = nat_of setting.family; chain = chain })
      (filter_rows setting.family infos ++ own_rows))
  in_nat chain =
      get-from_entries chain_total (rows_of setting infos) _
      ∙ find_named (nat_of setting.family) chain (nat_rows setting infos)
      (filter_rows setting.family infos ++ own_rows)
      (refl, (refl, (refl, (refl, (refl, (refl, (refl, (refl, tt))))))))

  -- and one in filter by those of its own
  pub in_filter : (chain : List ℕ)
      → look_up (record { table = Filter; chain = chain })
      ≡ option_or (lookup (bytes_eq chain) (named (filter_rows setting.family infos)))
      (find chain_cmp (record { table = filter_of setting.family; chain = chain }) own_rows)
  in_filter chain =
      let later = filter_later setting.family in
      get-from_entries chain_total (rows_of setting infos) _
      ∙ find_after (filter_of setting.family) chain (nat_rows setting infos)
      (filter_rows setting.family infos ++ own_rows)
      (later, (later, (later, (later, (later, (later, (later, (later, tt))))))))
      ∙ find_named (filter_of setting.family) chain (filter_rows setting.family infos) own_rows
      (refl, (refl, (refl, (refl, (refl, (refl, (refl, tt)))))))

  -- the shared chains of nat are found
  pub finds_nat : FindsNat setting infos look_up
  finds_nat = record {
    prerouting = in_nat _;
    output = in_nat _;
    postrouting = in_nat _;
    mark = in_nat _;
    masquerade = in_nat _;
    node_ports = in_nat _;
    services = in_nat _;
  }

  -- and those of filter
  pub finds_filter : FindsFilter setting.family infos look_up
  finds_filter = record {
    input = in_filter _;
    forward = in_filter _;
    output = in_filter _;
    marked = in_filter _;
    firewall = in_filter _;
    external = in_filter _;
    services = in_filter _;
  }
