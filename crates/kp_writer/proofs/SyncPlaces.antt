-- What stands after a sync at places that aren't fixed chains' is what the full table of the newest
-- ports has there, and at the others of these places the tables agree.
use Rattle.std.proofs.Common.{◌≡◌, inl, inr, Bool, true, false, cond, not, List, [], ◌∷◌, ◌++◌}
use Rattle.std.proofs.Common.{map, filter, flat_map, Contains, Option, Some, None, is_some, refl}
use Rattle.std.proofs.Common.{sym, ap, subst, unwrap_or, codes, ◌∙◌, ℕ}
use Rattle.std.specs.List.{list_any}
use Rattle.std.specs.Ordering.{eq_by_cmp}
use Rattle.std.specs.FinMap.{empty, find, get, get-empty, get-from_entries}
use Rattle.std.specs.FinMap.Entries.{is_some-find}
use Rattle.std.proofs.lemmas.Map.Views.{Contains-from_any}
use Rattle.std.proofs.lemmas.List.{map-append}
use Rattle.std.proofs.lemmas.Simd.{map-map}
use Rattle.kp_lemmas.proofs.Members.{any_from, from_filter, from_flat_map, in_filter, in_flat_map}
use Rattle.kp_lemmas.proofs.Members.{in_map}
use Rattle.kp_lemmas.proofs.Options.{none_of}
use Rattle.kp_lemmas.proofs.Orders.{one_from_tie, tie_of_itself}
use Rattle.kp_base.specs.declared.address.Family.{Family}
use Rattle.kp_base.specs.declared.address.Family.TheVariants.{V4, V6}
use Rattle.kp_types.specs.Places.{chain_cmp, nat_of}
use Rattle.kp_types.specs.Setting.{Setting}
use Rattle.kp_types.specs.declared.chain.ChainAt.{ChainAt}
use Rattle.kp_types.specs.declared.chain.ChainKey.{ChainKey}
use Rattle.kp_types.specs.declared.chain.ChainKey.TheVariants as key
use Rattle.kp_types.specs.declared.chain.PortChain.TheVariants.{Svc, Svl, Ext, Fw}
use Rattle.kp_types.specs.declared.rule.Rule.{Rule}
use Rattle.kp_types.proofs.ChainOrder.{chain_total, chain_exact}
use Rattle.kp_choice_defs.specs.Names.{first_clash, port_chain_prefix}
use Rattle.kp_object_defs.specs.PortInfo.{PortInfo}
use Rattle.kp_table_defs.specs.Keys.{own_keys}
use Rattle.kp_table_defs.specs.Layout.{place_of_key, port_rows, row_of_key, rows_of}
use Rattle.kp_table_defs.specs.Rebuild.{full_chains, needed_keys}
use Rattle.kp_table_laws.specs.Laws.{HaveOwnKeys}
use Rattle.kp_table_laws.proofs.KeyRows.{own_chains_are_found, row_key, row_stands}
use Rattle.kp_table_laws.proofs.NeededKeys.{key_port, no_clash_is_own_names, port_of}
use Rattle.kp_walk_laws.specs.Laws.{IsPrefixed}
use Rattle.kp_writer_laws.specs.LocalLaws.{fixed_rows, own_chain}
use Rattle.kp_writer_laws.proofs.LocalLookUps.{found_own, tables_agree_elsewhere}
use Rattle.kp_writer_laws.proofs.NoClashes.{keys_of_some}
use Rattle.kp_writer.specs.Next.{NextParts}
use Rattle.kp_writer.specs.Own.{places_of, written}
use Rattle.kp_writer.proofs.ClashTest.{differs, gone, key_at, old_key, old_places}
use Rattle.kp_writer.proofs.ClashTest.{rows, split}
use Rattle.kp_writer.proofs.Families.{in_each}
use Rattle.kp_writer.proofs.NextPlaces.{Row, found_left, found_written}

-- at a place in a family's nat there is no fixed chain
abbrev Unfixed : List ℕ → Family → Type 0
Unfixed name family =
    find chain_cmp (record { table = nat_of family; chain = name }) (fixed_rows family) ≡ None

module _ (s : Setting) where
  -- at a name that begins as none of theirs
  under : (prefix : List ℕ) → ((rest : List ℕ) → Unfixed (prefix ++ rest) V4)
      → ((rest : List ℕ) → Unfixed (prefix ++ rest) V6) → (name : List ℕ)
      → (rest : List ℕ) × (name ≡ prefix ++ rest) → Unfixed name s.family
  under prefix four six name (rest, is) =
      subst (λ n. Unfixed n s.family) (sym is)
      (in_each (Unfixed (prefix ++ rest)) (four rest) (six rest) s.family)

  module _ (prefixed : IsPrefixed s.name_of) where
    -- a fixed chain stands at no place of a port's chain
    pub unfixed : (k : ChainKey) → Unfixed (s.name_of k) s.family
    unfixed (key.Port Svc port) =
        under (port_chain_prefix Svc) (λ r. refl) (λ r. refl) _ (prefixed.port Svc port)
    unfixed (key.Port Svl port) =
        under (port_chain_prefix Svl) (λ r. refl) (λ r. refl) _ (prefixed.port Svl port)
    unfixed (key.Port Ext port) =
        under (port_chain_prefix Ext) (λ r. refl) (λ r. refl) _ (prefixed.port Ext port)
    unfixed (key.Port Fw port) =
        under (port_chain_prefix Fw) (λ r. refl) (λ r. refl) _ (prefixed.port Fw port)
    unfixed (key.Sep port e) =
        under (codes "KUBE-SEP-") (λ r. refl) (λ r. refl) _ (prefixed.endpoint port e)

    -- so the full table has there what ports have
    pub own_place : (is : List PortInfo) (k : ChainKey)
        → get (full_chains s is) (place_of_key s k)
        ≡ find chain_cmp (place_of_key s k) (rows s is)
    own_place is k =
        get-from_entries chain_total (rows_of s is) (place_of_key s k)
        ∙ found_own (place_of_key s k) s is (unfixed k)

    module _ (before after : List PortInfo) (kept : PortInfo → Bool)
        (same : filter kept before ≡ filter kept after) (own : HaveOwnKeys after)
        (apart : (is : List PortInfo) (i j : PortInfo) → Contains (filter kept is) i
        → Contains (filter (differs kept) is) j → i.key ≡ j.key → ⊥)
        (none : first_clash s.name_of (needed_keys before) ≡ None)
        (clear : first_clash s.name_of (needed_keys after) ≡ None) where
      abbrev changed : List PortInfo
      changed = filter (differs kept) after

      abbrev start : NextParts
      start = gone s before after kept same apart none

      abbrev olds : List ChainAt
      olds = old_places s before after kept same apart none

      abbrev next : NextParts
      next = written (full_chains s before) s start changed

      -- a chain that was written is the full table's
      stands_written : (q : ChainAt) (r : Row) → Contains (rows s changed) r → r.0 ≡ q
          → get (full_chains s after) q ≡ Some r.1
      stands_written q r c at =
          let (i, ci, (k, ck, is)) = row_key s changed r c in
          let place : place_of_key s k ≡ q = ap (λ (t : Row). t.0) is ∙ at in
          ap (get (full_chains s after)) (sym place)
          ∙ own_place after k
          ∙ own_chains_are_found s after own clear i (from_filter (differs kept) i after ci).0 k ck
          ∙ ap (λ (t : Row). Some t.1) is

      -- and none stands where one is gone and none was written
      nothing_by : (q : ChainAt) → Contains olds q
          → list_any (eq_by_cmp chain_cmp q) (map (λ r. r.0) (rows s changed)) ≡ false
          → (b : Bool) → is_some (find chain_cmp q (rows s after)) ≡ b → b ≡ false
      nothing_by q old unwritten false h = refl
      nothing_by q old unwritten true h =
          let (l, cl, at) = old_key s before after kept same apart none q old in
          let (m, cm, to) = key_at s after q h in
          let (p, cp, lp) = from_flat_map own_keys l (filter (differs kept) before) cl in
          let (i, ci, mi) = from_flat_map own_keys m after cm in
          elim ((split kept after i).0 ci) [
            | inl stays ↦
                let was = subst (λ is. Contains is i) (sym same) stays in
                let both : m ≡ l =
                (no_clash_is_own_names s.name_of before).0 none m l
                (in_flat_map own_keys i m before (from_filter kept i before was).0 mi)
                (keys_of_some (differs kept) before l cl)
                (ap (λ (a : ChainAt). a.chain) (to ∙ sym at)) in
                absurd (apart before i p was cp
                (sym (key_port i m mi) ∙ ap port_of both ∙ key_port p l lp))
            | inr differ ↦
                sym (any_from (eq_by_cmp chain_cmp q) q (map (λ (r : Row). r.0) (rows s changed))
                (subst (Contains (map (λ (r : Row). r.0) (rows s changed))) to
                (in_map (λ (r : Row). r.0) (row_of_key s i m) (rows s changed)
                (row_stands s changed i differ m mi)))
                (tie_of_itself chain_total q))
                ∙ unwritten
          ]

      stands_nowhere : (q : ChainAt) → Contains olds q
          → list_any (eq_by_cmp chain_cmp q) (map (λ r. r.0) (rows s changed)) ≡ false
          → get (full_chains s after) q ≡ None
      stands_nowhere q old unwritten =
          let (l, cl, at) = old_key s before after kept same apart none q old in
          ap (get (full_chains s after)) (sym at)
          ∙ own_place after l
          ∙ ap (λ p. find chain_cmp p (rows s after)) at
          ∙ none_of (find chain_cmp q (rows s after)) (nothing_by q old unwritten
          (is_some (find chain_cmp q (rows s after))) refl)

      left_there : (q : ChainAt) (o : Option (List Rule))
          → list_any (eq_by_cmp chain_cmp q) (map (λ r. r.0) (rows s changed)) ≡ false
          → (b : Bool) → list_any (eq_by_cmp chain_cmp q) olds ≡ b
          → cond b (Some None) (get (empty {R = chain_cmp}) q) ≡ Some o → o ≡ get (full_chains s after) q
      left_there q o unwritten true old is =
          ap (λ p. unwrap_or p o) (sym is)
          ∙ sym (stands_nowhere q (Contains-from_any (one_from_tie chain_exact) q olds old) unwritten)
      left_there q o unwritten false old is = absurd (none_some (sym (get-empty chain_cmp q) ∙ is))
        where
          none_some : None ≡ Some o → ⊥
          none_some h = absurd (cc)

      -- what stands at a place that isn't a fixed chain's is the full table's
      pub stands : (q : ChainAt) (o : Option (List Rule)) → get next.places q ≡ Some o
          → o ≡ get (full_chains s after) q
      stands q o is =
          elim (found_written (full_chains s before) start (rows s changed) q) [
            | inl h ↦
                ap (λ p. unwrap_or p o) (sym is ∙ h.3) ∙ sym (stands_written q h.0 h.1 h.2)
            | inr h ↦
                left_there q o h.0 (list_any (eq_by_cmp chain_cmp q) olds) refl (sym (h.1
                ∙ found_left (record { places = empty; free = true }) olds q) ∙ is)
          ]

      chain_of : (q : ChainAt) (i : PortInfo) (b : Bool) → is_some (own_chain s q i) ≡ b
          → (is : List PortInfo) → Contains is i
          → list_any (eq_by_cmp chain_cmp q) (flat_map (places_of s) is) ≡ false
          → own_chain s q i ≡ None
      chain_of q i false h is c none_there = none_of (own_chain s q i) h
      chain_of q i true h is c none_there =
          absurd (true_false (sym (any_from (eq_by_cmp chain_cmp q) q (flat_map (places_of s) is)
          (in_flat_map (places_of s) i q is c
          (subst (λ ps. Contains ps q) (map-map (λ (r : Row). r.0) (row_of_key s i) (own_keys i))
          (Contains-from_any (one_from_tie chain_exact) q (map (λ (r : Row). r.0) (port_rows s i))
          (sym (is_some-find chain_cmp q (port_rows s i)) ∙ h))))
          (tie_of_itself chain_total q)) ∙ none_there))
        where
          true_false : true ≡ false → ⊥
          true_false t = absurd (cc)

      -- nothing stands anywhere
      abbrev nothing : NextParts
      nothing = record { places = empty; free = true }

      not_old : (q : ChainAt) (b : Bool) → list_any (eq_by_cmp chain_cmp q) olds ≡ b
          → cond b (Some None) (get nothing.places q) ≡ None → b ≡ false
      not_old q true is found = absurd (cc)
      not_old q false is found = refl

      places_of_rows : (is : List PortInfo)
          → map (λ (r : Row). r.0) (rows s is) ≡ flat_map (places_of s) is
      places_of_rows [] = refl
      places_of_rows (i ∷ is) =
          map-append (λ (r : Row). r.0) (port_rows s i) (rows s is)
          ∙ (λ n. map-map (λ (r : Row). r.0) (row_of_key s i) (own_keys i) n
          ++ places_of_rows is n)

      some_none : (rules : List Rule) → Some (Some rules) ≡ None → ⊥
      some_none rules h = absurd (cc)

      differs_by : (i : PortInfo) → kept i ≡ false → differs kept i ≡ true
      differs_by i h = ap not h

      -- a place that isn't listed isn't that of a chain that went
      not_there : (q : ChainAt) → get next.places q ≡ get start.places q
          → get next.places q ≡ None → list_any (eq_by_cmp chain_cmp q) olds ≡ false
      not_there q is unlisted =
          not_old q (list_any (eq_by_cmp chain_cmp q) olds) refl
          (sym (is ∙ found_left (record { places = empty; free = true }) olds q) ∙ unlisted)

      -- at the other places that aren't fixed chains' both tables agree
      pub elsewhere : (q : ChainAt) → get next.places q ≡ None
          → find chain_cmp q (fixed_rows s.family) ≡ None
          → get (full_chains s before) q ≡ get (full_chains s after) q
      elsewhere q unlisted fixed =
          elim (found_written (full_chains s before) start (rows s changed) q) [
            | inl h ↦ absurd (some_none h.0.1 (sym h.3 ∙ unlisted))
            | inr h ↦
                tables_agree_elsewhere s before after q kept same
                (λ i ci dirty. chain_of q i (is_some (own_chain s q i)) refl
                (filter (differs kept) before)
                (in_filter (differs kept) i before ci (differs_by i dirty))
                (not_there q h.1 unlisted))
                (λ i ci dirty. chain_of q i (is_some (own_chain s q i)) refl changed
                (in_filter (differs kept) i after ci (differs_by i dirty))
                (ap (list_any (eq_by_cmp chain_cmp q)) (sym (places_of_rows changed)) ∙ h.0))
                fixed
          ]
