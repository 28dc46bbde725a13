-- What a writer makes over a table with the tables of all families it would make over those of its
-- own family alone.
use Rattle.std.proofs.Common.{◌≡◌, ◌&&◌, ◌++◌, ℕ, Bool, true, false, cond, not, List, [], ◌∷◌, map}
use Rattle.std.proofs.Common.{flat_map, Option, Some, None, is_some, refl, sym, ap, ◌∙◌}
use Rattle.std.specs.List.{filter_map, fold}
use Rattle.std.specs.FinMap.{get, insert}
use Rattle.std.proofs.lemmas.List.Sums.{fold-append}
use Rattle.kp_base.specs.declared.key.PortKey.{PortKey}
use Rattle.kp_types.specs.Places.{filter_of, nat_of}
use Rattle.kp_types.specs.Setting.{Setting}
use Rattle.kp_types.specs.declared.chain.ChainAt.{ChainAt}
use Rattle.kp_types.specs.declared.chain.ChainKey.{ChainKey}
use Rattle.kp_types.specs.declared.chain.TableName.{TableName}
use Rattle.kp_types.specs.declared.rule.Edit.{Edit}
use Rattle.kp_types.specs.declared.rule.Edit.TheVariants.{Remove, Write}
use Rattle.kp_types.specs.declared.rule.Rule.{Rule}
use Rattle.kp_types.proofs.ChainOrder.{one_table_from_test}
use Rattle.kp_types.proofs.TableFamilies.{filter_is_own, nat_is_own}
use Rattle.kp_object_defs.specs.PortInfo.{PortInfo}
use Rattle.kp_table_defs.specs.Edits.{is_found_with}
use Rattle.kp_table_defs.specs.Keys.{own_keys}
use Rattle.kp_table_defs.specs.Layout.{place_of_key, port_rows, row_of_key, rules_of_key}
use Rattle.kp_table_defs.specs.Rebuild.{Chains}
use Rattle.kp_table_laws.specs.Families.{HasTablesOf}
use Rattle.kp_rules.specs.Changes.{is_in, write_if_found}
use Rattle.kp_blocks.specs.Joined.{BlocksByPort}
use Rattle.kp_writer.specs.Next.{NextParts, Place, edits_of, is_free_by, remove_of, table_edits}
use Rattle.kp_writer.specs.Next.{write, write_of}
use Rattle.kp_writer.specs.Own.{left, unchanged}
use Rattle.kp_writer.specs.Shared.{touched_by, with_shared}
use Rattle.kp_writer.specs.Sync.{changes_of, infos_at, sync_next}
use Rattle.kp_writer.specs.Written.{Ports}

module _ (was mine : Chains) where
  -- ---- The edits of a table that both have

  module _ (table : TableName) (alike : (chain : List ℕ)
      → get was (record { table = table; chain = chain })
      ≡ get mine (record { table = table; chain = chain })) where
    found_alike : (at : ChainAt) → is_in table at ≡ true → get was at ≡ get mine at
    found_alike at inside =
        let same = one_table_from_test at.table table inside in
        (λ i. get was (record { table = same i; chain = at.chain }))
        ∙ alike at.chain
        ∙ (λ i. get mine (record { table = sym same i; chain = at.chain }))

    write_by : (at : ChainAt) (chain : Option (List Rule)) (b : Bool) → is_in table at ≡ b
        → cond b (write_if_found was at chain) None ≡ cond b (write_if_found mine at chain) None
    write_by at chain false is = refl
    write_by at None true is = refl
    write_by at (Some rules) true is =
        ap (λ o. cond (is_found_with rules o) None (Some (Write at rules))) (found_alike at is)

    -- the remove where a chain is found
    abbrev remove_if : ChainAt → Option (List Rule) → Bool → Option (List Rule) → Option Edit
    remove_if at chain b found =
        cond (is_some found) (cond b (cond (is_some chain) None (Some (Remove at))) None) None

    remove_by : (at : ChainAt) (chain : Option (List Rule)) (b : Bool) → is_in table at ≡ b
        → remove_if at chain b (get was at) ≡ remove_if at chain b (get mine at)
    remove_by at chain true is = ap (remove_if at chain true) (found_alike at is)
    remove_by at chain false is =
        no_edit (is_some (get was at)) ∙ sym (no_edit (is_some (get mine at)))
      where
        no_edit : (a : Bool) → ◌≡◌ {A = Option Edit} (cond a None None) None
        no_edit true = refl
        no_edit false = refl

    pub table_alike : (ps : List Place) → table_edits was ps table ≡ table_edits mine ps table
    table_alike ps =
        let writes : (p : Place) → write_of was table p ≡ write_of mine table p =
        λ p. write_by p.0 p.1 (is_in table p.0) refl in
        let removes : (p : Place) → remove_of was table p ≡ remove_of mine table p =
        λ p. remove_by p.0 p.1 (is_in table p.0) refl in
        λ i. filter_map (λ p. writes p i) ps ++ filter_map (λ p. removes p i) ps

  -- ---- A family's tables

  module _ (s : Setting) (has : HasTablesOf s.family was mine) where
    pub edits_alike : (ps : List Place) → edits_of s.family was ps ≡ edits_of s.family mine ps
    edits_alike ps =
        λ i.
        table_alike (nat_of s.family)
        (λ chain. has (record { table = nat_of s.family; chain = chain }) (nat_is_own s.family))
        ps i
        ++ table_alike (filter_of s.family)
        (λ chain.
        has (record { table = filter_of s.family; chain = chain }) (filter_is_own s.family)) ps i

    free_alike : (k : ChainKey) (o : Option (Option (List Rule)))
        → is_free_by was (place_of_key s k) o ≡ is_free_by mine (place_of_key s k) o
    free_alike k None =
        ap (λ (found : Option (List Rule)). not (is_some found))
        (has (place_of_key s k) (nat_is_own s.family))
    free_alike k (Some chain) = refl

    one_alike : (i : PortInfo) (k : ChainKey) (n : NextParts)
        → write was n (row_of_key s i k) ≡ write mine n (row_of_key s i k)
    one_alike i k n =
        λ j. record {
          places = insert n.places (place_of_key s k) (Some (rules_of_key s i k));
          free = n.free && free_alike k (get n.places (place_of_key s k)) j;
        }

    port_alike : (i : PortInfo) (ks : List ChainKey) (n : NextParts)
        → fold (write was) n (map (row_of_key s i) ks)
        ≡ fold (write mine) n (map (row_of_key s i) ks)
    port_alike i [] n = refl
    port_alike i (k ∷ ks) n =
        port_alike i ks (write was n (row_of_key s i k))
        ∙ ap (λ m. fold (write mine) m (map (row_of_key s i) ks)) (one_alike i k n)

    ports_alike : (is : List PortInfo) (n : NextParts)
        → fold (write was) n (flat_map (port_rows s) is)
        ≡ fold (write mine) n (flat_map (port_rows s) is)
    ports_alike [] n = refl
    ports_alike (i ∷ is) n =
        let rest = flat_map (port_rows s) is in
        fold-append (write was) n (port_rows s i) rest
        ∙ ports_alike is (fold (write was) n (port_rows s i))
        ∙ ap (λ m. fold (write mine) m rest) (port_alike i (own_keys i) n)
        ∙ sym (fold-append (write mine) n (port_rows s i) rest)

    pub next_alike : (blocks : BlocksByPort) (before after : Ports) (keys : List PortKey)
        → sync_next was blocks s before after keys ≡ sync_next mine blocks s before after keys
    next_alike blocks before after keys =
        ap (with_shared s.family blocks (touched_by s (changes_of before after keys)))
        (ports_alike (infos_at after keys) (left s unchanged (infos_at before keys)))
