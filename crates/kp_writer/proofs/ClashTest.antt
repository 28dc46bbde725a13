-- Where each chain of the ports that differ finds its place free, no two chains that are needed have
-- one name.
use Rattle.std.specs.Prelude.{◌↔◌}
use Rattle.std.proofs.Common.{◌≡◌, ◌⊎◌, inl, inr, Bool, true, false, cond, not, List, ◌++◌}
use Rattle.std.proofs.Common.{map, filter, flat_map, [], ◌∷◌, Contains, Some, None, is_some, refl}
use Rattle.std.proofs.Common.{sym, ap, subst, ◌∙◌}
use Rattle.std.specs.List.{list_any}
use Rattle.std.specs.Ordering.{eq_by_cmp}
use Rattle.std.specs.FinMap.{empty, find, get, get-empty, get-from_entries}
use Rattle.std.specs.FinMap.Entries.{is_some-find}
use Rattle.std.proofs.lemmas.Map.Views.{Contains-from_any}
use Rattle.std.proofs.lemmas.List.{map-append}
use Rattle.std.proofs.lemmas.Simd.{map-map}
use Rattle.std.proofs.lemmas.List.Elements.{Contains-append_right}
use Rattle.kp_lemmas.proofs.Members.{any_from, from_filter, from_flat_map, from_map, in_filter}
use Rattle.kp_lemmas.proofs.Members.{in_flat_map, in_map}
use Rattle.kp_lemmas.proofs.Orders.{one_from_tie, tie_of_itself}
use Rattle.kp_types.specs.Places.{chain_cmp, nat_of}
use Rattle.kp_types.specs.Setting.{Setting}
use Rattle.kp_types.specs.declared.chain.ChainAt.{ChainAt}
use Rattle.kp_types.specs.declared.chain.ChainKey.{ChainKey}
use Rattle.kp_types.proofs.ChainOrder.{chain_total, chain_exact}
use Rattle.kp_choice_defs.specs.Names.{first_clash}
use Rattle.kp_object_defs.specs.PortInfo.{PortInfo}
use Rattle.kp_table_defs.specs.Keys.{own_keys}
use Rattle.kp_table_defs.specs.Layout.{filter_rows, nat_rows, place_of_key, port_rows}
use Rattle.kp_table_defs.specs.Layout.{row_of_key, rows_of}
use Rattle.kp_table_defs.specs.Rebuild.{Chains, full_chains, needed_keys}
use Rattle.kp_table_laws.specs.Laws.{HaveOwnNames, StandApart}
use Rattle.kp_table_laws.proofs.ChangedPorts.{no_clash_of_changed_ports}
use Rattle.kp_table_laws.proofs.KeyRows.{row_key, row_stands}
use Rattle.kp_table_laws.proofs.NeededKeys.{no_clash_is_own_names}
use Rattle.kp_writer_laws.proofs.NoClashes.{keys_of_some}
use Rattle.kp_writer.specs.Next.{NextParts, is_free_by}
use Rattle.kp_writer.specs.Own.{left, places_of, written}
use Rattle.kp_writer.proofs.NextPlaces.{AreApart, Row, found_left, free_written}
use Rattle.kp_writer.proofs.NextPlaces.{one_of_value}

module _ (kept : PortInfo → Bool) where
  -- the ports that differ
  abbrev pub differs : PortInfo → Bool
  differs i = not (kept i)

  split_by : (is : List PortInfo) (i : PortInfo) → Contains is i → (b : Bool) → kept i ≡ b
      → Contains (filter kept is) i ⊎ Contains (filter differs is) i
  split_by is i c true h = inl (in_filter kept i is c h)
  split_by is i c false h = inr (in_filter differs i is c (ap not h))

  -- each port is kept or differs
  pub split : (is : List PortInfo) (i : PortInfo)
      → Contains is i ↔ (Contains (filter kept is) i ⊎ Contains (filter differs is) i)
  split is i = (
    (λ c. split_by is i c (kept i) refl),
    (λ e. elim e [
      | inl c ↦ (from_filter kept i is c).0
      | inr c ↦ (from_filter differs i is c).0
    ]),
  )

module _ (setting : Setting) where
  -- so no two of them clash
  pub some_apart : (test : PortInfo → Bool) (is : List PortInfo)
      → first_clash setting.name_of (needed_keys is) ≡ None
      → first_clash setting.name_of (needed_keys (filter test is)) ≡ None
  some_apart test is none =
      let own = (no_clash_is_own_names setting.name_of is).0 none in
      (no_clash_is_own_names setting.name_of (filter test is)).1 (λ k l ck cl same.
      own k l (keys_of_some test is k ck) (keys_of_some test is l cl) same)

  -- the chains of ports stand at the places of their keys
  places_of_rows : (is : List PortInfo)
      → map (λ (r : Row). r.0) (flat_map (port_rows setting) is)
      ≡ map (place_of_key setting) (flat_map own_keys is)
  places_of_rows [] = refl
  places_of_rows (i ∷ is) =
      map-append (λ (r : Row). r.0) (port_rows setting i) (flat_map (port_rows setting) is)
      ∙ (λ n. map-map (λ (r : Row). r.0) (row_of_key setting i) (own_keys i) n
      ++ places_of_rows is n)
      ∙ sym (map-append (place_of_key setting) (own_keys i) (flat_map own_keys is))

  -- where they stand apart, their keys have names of their own
  own_names : (is : List PortInfo)
      → AreApart (map (λ (r : Row). r.0) (flat_map (port_rows setting) is))
      → HaveOwnNames setting.name_of (flat_map own_keys is)
  own_names is apart k l ck cl same =
      one_of_value (place_of_key setting) (flat_map own_keys is)
      (subst AreApart (places_of_rows is) apart) k l ck cl
      (ap (λ n. record { table = nat_of setting.family; chain = n }) same)

  -- the chains of ports
  abbrev pub rows : List PortInfo → List Row
  rows is = flat_map (port_rows setting) is

  -- a chain that is found among those of ports is that of a key of theirs
  pub key_at : (is : List PortInfo) (q : ChainAt) → is_some (find chain_cmp q (rows is)) ≡ true
      → (l : ChainKey) × Contains (flat_map own_keys is) l × (place_of_key setting l ≡ q)
  key_at is q h =
      let (r, cr, at) = from_map (λ (r : Row). r.0) q (rows is)
      (Contains-from_any (one_from_tie chain_exact) q (map (λ (r : Row). r.0) (rows is))
      (sym (is_some-find chain_cmp q (rows is)) ∙ h)) in
      let (i, ci, (l, cl, same)) = row_key setting is r cr in
      (l, in_flat_map own_keys i l is ci cl, ap (λ (s : Row). s.0) same ∙ at)

  -- and a key's chain is found
  pub chain_of_key : (is : List PortInfo) (l : ChainKey) → Contains (flat_map own_keys is) l
      → Contains (map (λ (r : Row). r.0) (rows is)) (place_of_key setting l)
  chain_of_key is l c =
      let (i, ci, own) = from_flat_map own_keys l is c in
      in_map (λ (r : Row). r.0) (row_of_key setting i l) (rows is) (row_stands setting is i ci l own)

  -- in the full table too
  pub in_table : (is : List PortInfo) (l : ChainKey) → Contains (flat_map own_keys is) l
      → is_some (get (full_chains setting is) (place_of_key setting l)) ≡ true
  in_table is l c =
      let q = place_of_key setting l in
      let all = rows_of setting is in
      ap is_some (get-from_entries chain_total all q)
      ∙ is_some-find chain_cmp q all
      ∙ any_from (eq_by_cmp chain_cmp q) q (map (λ (r : Row). r.0) all)
      (subst (λ ps. Contains ps q) (sym (map-append (λ (r : Row). r.0) (nat_rows setting is)
      (filter_rows setting.family is ++ rows is)))
      (Contains-append_right (map (λ (r : Row). r.0) (nat_rows setting is)) (map (λ (r : Row). r.0)
      (filter_rows setting.family is ++ rows is)) q
      (subst (λ ps. Contains ps q) (sym (map-append (λ (r : Row). r.0)
      (filter_rows setting.family is) (rows is)))
      (Contains-append_right (map (λ (r : Row). r.0) (filter_rows setting.family is)) (map
      (λ (r : Row). r.0) (rows is)) q
      (chain_of_key is l c)))))
      (tie_of_itself chain_total q)

  module _ (before after : List PortInfo) (kept : PortInfo → Bool)
      (same : filter kept before ≡ filter kept after)
      (apart : (is : List PortInfo) (i j : PortInfo) → Contains (filter kept is) i
      → Contains (filter (differs kept) is) j → i.key ≡ j.key → ⊥)
      (none : first_clash setting.name_of (needed_keys before) ≡ None) where
    -- what stands once the ports that differ are gone
    abbrev pub gone : NextParts
    gone = left setting (record { places = empty; free = true }) (filter (differs kept) before)

    abbrev table : Chains
    table = full_chains setting before

    stands_apart : StandApart setting (filter kept before) (filter (differs kept) before)
    stands_apart =
        (no_clash_of_changed_ports setting before (filter kept before)
        (filter (differs kept) before) (split kept before) (apart before)
        (some_apart kept before none)).0 none

    abbrev pub old_places : List ChainAt
    old_places = flat_map (places_of setting) (filter (differs kept) before)

    pub old_key : (q : ChainAt) → Contains old_places q
        → (l : ChainKey) × Contains (flat_map own_keys (filter (differs kept) before)) l
        × (place_of_key setting l ≡ q)
    old_key q c =
        let is = filter (differs kept) before in
        let (i, ci, inside) = from_flat_map (places_of setting) q is c in
        let (l, own, at) = from_map (place_of_key setting) q (own_keys i) inside in
        (l, in_flat_map own_keys i l is ci own, at)

    free_by : (q : ChainAt) (b : Bool) → list_any (eq_by_cmp chain_cmp q) old_places ≡ b
        → is_free_by table q (get gone.places q) ≡ true
        → (c : Bool) → is_some (find chain_cmp q (rows (filter kept after))) ≡ c → c ≡ false
    free_by q b old free false h = refl
    free_by q true old free true h =
        let (l, cl, at) = old_key q (Contains-from_any (one_from_tie chain_exact) q old_places old)
        in
        sym h
        ∙ ap (λ is. is_some (find chain_cmp q (rows is))) (sym same)
        ∙ ap (λ p. is_some (find chain_cmp p (rows (filter kept before)))) (sym at)
        ∙ stands_apart.free l cl
    free_by q false old free true h =
        let (l, cl, at) = key_at (filter kept after) q h in
        let mine : Contains (flat_map own_keys before) l = keys_of_some kept before l
        (subst (λ is. Contains (flat_map own_keys is) l) (sym same) cl) in
        sym (in_table before l mine)
        ∙ ap (λ p. is_some (get table p)) at
        ∙ not_taken (is_some (get table q))
        (ap (is_free_by table q) (sym (found_left (record { places = empty; free = true }) old_places q
        ∙ ap (λ b. cond b (Some None) (get (empty {R = chain_cmp}) q)) old ∙ get-empty chain_cmp q)) ∙ free)
      where
        not_taken : (b : Bool) → not b ≡ true → b ≡ false
        not_taken true n = sym n
        not_taken false n = refl

    pub no_clash : (written table setting gone (filter (differs kept) after)).free ≡ true
        → first_clash setting.name_of (needed_keys after) ≡ None
    no_clash free =
        let changed = filter (differs kept) after in
        let (start, each, once) = free_written table gone (rows changed) free in
        (no_clash_of_changed_ports setting after (filter kept after) changed (split kept after)
        (apart after)
        (subst (λ is. first_clash setting.name_of (needed_keys is) ≡ None) same
        (some_apart kept before none))).1 (record {
          own = own_names changed once;
          free = λ k c.
              let q = place_of_key setting k in
              let (i, ci, own) = from_flat_map own_keys k changed c in
              free_by q (list_any (eq_by_cmp chain_cmp q) old_places) refl
              (each (row_of_key setting i k) (row_stands setting changed i ci k own))
              (is_some (find chain_cmp q (rows (filter kept after)))) refl;
        })
