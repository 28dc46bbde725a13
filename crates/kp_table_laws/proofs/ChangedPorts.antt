-- Whether chains of changed ports clash is told by the places of their own rows alone.
use Rattle.std.proofs.Common.{◌≡◌, ◌⊎◌, inl, inr, Bool, true, false, List, map, Contains, flat_map, is_some, None, refl, sym, ap, subst, ◌∙◌, true≢false}
use Rattle.std.specs.Prelude.{◌↔◌}
use Rattle.std.specs.Cmp.{eq_by_cmp_equiv}
use Rattle.std.specs.FinMap.{find}
use Rattle.std.specs.FinMap.Entries.{is_some-find}
use Rattle.std.proofs.lemmas.Map.Views.{Contains-from_any, list_any-from_Contains}
use Rattle.kp_lemmas.proofs.Members.{in_map, from_map, in_flat_map, from_flat_map}
use Rattle.kp_lemmas.proofs.Orders.{one_from_tie}
use Rattle.kp_types.specs.Places.{chain_cmp, nat_of}
use Rattle.kp_types.specs.Setting.{Setting}
use Rattle.kp_types.specs.declared.chain.ChainAt.{ChainAt}
use Rattle.kp_types.specs.declared.chain.ChainKey.{ChainKey}
use Rattle.kp_types.proofs.ChainOrder.{chain_total, chain_exact}
use Rattle.kp_choice_defs.specs.Names.{first_clash}
use Rattle.kp_object_defs.specs.PortInfo.{PortInfo}
use Rattle.kp_table_defs.specs.Keys.{own_keys}
use Rattle.kp_table_defs.specs.Layout.{place_of_key, port_rows, row_of_key}
use Rattle.kp_table_defs.specs.Rebuild.{needed_keys}
use Rattle.kp_table_laws.specs.Laws.{NoClashOfChangedPorts, StandApart}
use Rattle.kp_table_laws.proofs.KeyRows.{Row, row_key, row_stands}
use Rattle.kp_table_laws.proofs.NeededKeys.{key_port, no_clash_is_own_names, port_of}

-- the keys of ports are of them
port_in : (infos : List PortInfo) (k : ChainKey) → Contains (flat_map own_keys infos) k
    → (i : PortInfo) × Contains infos i × (port_of k ≡ i.key)
port_in infos k c =
    let (i, ci, own) = from_flat_map own_keys k infos c in (i, ci, key_port i k own)

module _ (setting : Setting) where
  -- one name is one place
  one_place : (k l : ChainKey) → setting.name_of k ≡ setting.name_of l
      → place_of_key setting k ≡ place_of_key setting l
  one_place k l same = ap (λ n. record { table = nat_of setting.family; chain = n }) same

  module _ (kept : List PortInfo) where
    -- the rows of the ports that are kept, and their places
    abbrev rows : List Row
    rows = flat_map (port_rows setting) kept

    abbrev places : List ChainAt
    places = map (λ (r : Row). r.0) rows

    -- the place of a kept port's key is taken
    taken : (q : ChainAt) (l : ChainKey) → Contains (flat_map own_keys kept) l
        → place_of_key setting l ≡ q → is_some (find chain_cmp q rows) ≡ true
    taken q l cl same =
        let (i, ci, own) = from_flat_map own_keys l kept cl in
        is_some-find chain_cmp q rows
        ∙ list_any-from_Contains (eq_by_cmp_equiv chain_total) q places
        (subst (Contains places) same
        (in_map (λ (r : Row). r.0) (row_of_key setting i l) rows (row_stands setting kept i ci l own)))

    -- and each place that is taken is that of one
    taker : (q : ChainAt) → is_some (find chain_cmp q rows) ≡ true
        → (l : ChainKey) × Contains (flat_map own_keys kept) l × (place_of_key setting l ≡ q)
    taker q h =
        let (r, cr, at) = from_map (λ (r : Row). r.0) q rows
        (Contains-from_any (one_from_tie chain_exact) q places
        (sym (is_some-find chain_cmp q rows) ∙ h)) in
        let (i, ci, (l, cl, is)) = row_key setting kept r cr in
        (l, in_flat_map own_keys i l kept ci cl, ap (λ (s : Row). s.0) is ∙ at)

  module _ (infos kept changed : List PortInfo)
      (split : (i : PortInfo) → Contains infos i ↔ (Contains kept i ⊎ Contains changed i))
      (differ : (i j : PortInfo) → Contains kept i → Contains changed j → i.key ≡ j.key → ⊥)
      (apart : first_clash setting.name_of (needed_keys kept) ≡ None) where
    -- the keys of those that changed are keys of all
    of_changed : (k : ChainKey) → Contains (flat_map own_keys changed) k
        → Contains (flat_map own_keys infos) k
    of_changed k c =
        let (i, ci, own) = from_flat_map own_keys k changed c in
        in_flat_map own_keys i k infos ((split i).1 (inr ci)) own

    of_kept : (k : ChainKey) → Contains (flat_map own_keys kept) k
        → Contains (flat_map own_keys infos) k
    of_kept k c =
        let (i, ci, own) = from_flat_map own_keys k kept c in
        in_flat_map own_keys i k infos ((split i).1 (inl ci)) own

    -- and there are no others
    of_either : (k : ChainKey) → Contains (flat_map own_keys infos) k
        → Contains (flat_map own_keys kept) k ⊎ Contains (flat_map own_keys changed) k
    of_either k c =
        let (i, ci, own) = from_flat_map own_keys k infos c in
        elim ((split i).0 ci) [
          | inl d ↦ inl (in_flat_map own_keys i k kept d own)
          | inr d ↦ inr (in_flat_map own_keys i k changed d own)
        ]

    -- no key is a kept port's and a changed one's
    other_keys : (k l : ChainKey) → Contains (flat_map own_keys kept) k
        → Contains (flat_map own_keys changed) l → k ≡ l → ⊥
    other_keys k l ck cl same =
        let (i, ci, at) = port_in kept k ck in
        let (j, cj, to) = port_in changed l cl in
        differ i j ci cj (sym at ∙ ap port_of same ∙ to)

    places_free : first_clash setting.name_of (needed_keys infos) ≡ None → (k : ChainKey)
        → Contains (flat_map own_keys changed) k
        → (b : Bool) → is_some (find chain_cmp (place_of_key setting k) (rows kept)) ≡ b
        → is_some (find chain_cmp (place_of_key setting k) (rows kept)) ≡ false
    places_free none k ck true h =
        let (l, cl, same) = taker kept (place_of_key setting k) h in
        absurd (other_keys l k cl ck ((no_clash_is_own_names setting.name_of infos).0 none l k
        (of_kept l cl) (of_changed k ck) (ap (λ (q : ChainAt). q.chain) same)))
    places_free none k ck false h = h

    not_held : StandApart setting kept changed → (k l : ChainKey)
        → Contains (flat_map own_keys kept) k → Contains (flat_map own_keys changed) l
        → setting.name_of k ≡ setting.name_of l → ⊥
    not_held stand k l ck cl same =
        true≢false (sym (taken kept (place_of_key setting l) k ck (one_place k l same))
        ∙ stand.free l cl)

    apart_then : first_clash setting.name_of (needed_keys infos) ≡ None
        → StandApart setting kept changed
    apart_then none = record {
      own = λ k l ck cl. (no_clash_is_own_names setting.name_of infos).0 none k l
          (of_changed k ck) (of_changed l cl);
      free = λ k ck. places_free none k ck _ refl;
    }

    none_then : StandApart setting kept changed
        → first_clash setting.name_of (needed_keys infos) ≡ None
    none_then stand = (no_clash_is_own_names setting.name_of infos).1 (λ k l ck cl same.
        elim (of_either k ck) [
          | inl c ↦ elim (of_either l cl) [
            | inl d ↦ (no_clash_is_own_names setting.name_of kept).0 apart k l c d same
            | inr d ↦ absurd (not_held stand k l c d same)
          ]
          | inr c ↦ elim (of_either l cl) [
            | inl d ↦ absurd (not_held stand l k d c (sym same))
            | inr d ↦ stand.own k l c d same
          ]
        ])

pub no_clash_of_changed_ports : NoClashOfChangedPorts
no_clash_of_changed_ports setting infos kept changed split differ apart = (
  apart_then setting infos kept changed split differ apart,
  none_then setting infos kept changed split differ apart,
)
