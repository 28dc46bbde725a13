-- The edits of a sync are the changes between a family's full tables of the ports as they were
-- written and of the newest.
use Rattle.std.proofs.Common.{◌≡◌, inl, inr, Bool, true, false, List, map, filter, Contains, Option}
use Rattle.std.proofs.Common.{Some, None, is_some, unwrap_or, refl, sym, ap, ◌∙◌}
use Rattle.std.specs.List.{list_any}
use Rattle.std.specs.Ordering.{eq_by_cmp}
use Rattle.std.specs.FinMap.{entries, find, get, get-from_entries, values}
use Rattle.kp_lemmas.proofs.Entries.{entries_found}
use Rattle.kp_lemmas.proofs.ListFacts.{all_weaker}
use Rattle.kp_base.specs.Keys.{port_key_cmp}
use Rattle.kp_base.specs.declared.key.PortKey.{PortKey}
use Rattle.kp_types.specs.Places.{chain_cmp}
use Rattle.kp_types.specs.Setting.{Setting}
use Rattle.kp_types.specs.declared.chain.ChainAt.{ChainAt}
use Rattle.kp_types.specs.declared.rule.Rule.{Rule}
use Rattle.kp_types.proofs.ChainOrder.{chain_total}
use Rattle.kp_choice_defs.specs.Names.{first_clash}
use Rattle.kp_object_defs.specs.PortInfo.{PortInfo}
use Rattle.kp_table_defs.specs.Edits.{changes_of}
use Rattle.kp_table_defs.specs.Rebuild.{Chains, full_chains, needed_keys}
use Rattle.kp_table_laws.specs.Laws.{HaveOwnKeys}
use Rattle.kp_walk_laws.specs.Laws.{IsPrefixed}
use Rattle.kp_writer_laws.specs.LocalLaws.{fixed_rows}
use Rattle.kp_writer_laws.proofs.LocalChanges.{changes_are_local}
use Rattle.kp_blocks.specs.Joined.{BlocksByPort, fixed_chains, joined_rules}
use Rattle.kp_blocks.proofs.JoinedChains.{joined_chains_are_the_tables}
use Rattle.kp_writer.specs.Next.{NextParts, Place, edits_of}
use Rattle.kp_writer.specs.Own.{written}
use Rattle.kp_writer.specs.Shared.{touched_by, with_shared}
use Rattle.kp_writer.specs.Written.{AreBlocksOf, AreUnderOwnKeys, Ports}
use Rattle.kp_writer.proofs.ClashTest.{differs, gone}
use Rattle.kp_writer.proofs.DirtyLists.{keys_rise, not_found}
use Rattle.kp_writer.proofs.LocalEdits.{edits_are_changes}
use Rattle.kp_writer.proofs.OwnKeys.{blocks_of_all, in_order}
use Rattle.kp_writer.proofs.SharedPlaces.{found_shared}
use Rattle.kp_writer.proofs.SyncPlaces.{elsewhere, stands}
use Rattle.kp_writer.proofs.SyncTables.{change, fixed_agree}

module _ (s : Setting) (prefixed : IsPrefixed s.name_of)
    (before after : Ports) (own : AreUnderOwnKeys before) (its : AreUnderOwnKeys after)
    (changed : PortKey → Bool)
    (alike : (k : PortKey) → changed k ≡ false → get before k ≡ get after k) (keys : List PortKey)
    (each : (k : PortKey) → list_any (eq_by_cmp port_key_cmp k) keys ≡ changed k)
    (blocks : BlocksByPort) (are : AreBlocksOf s after blocks)
    (kept : PortInfo → Bool)
    (same : filter kept (values before) ≡ filter kept (values after))
    (keyed : HaveOwnKeys (values after))
    (apart : (is : List PortInfo) (i j : PortInfo) → Contains (filter kept is) i
    → Contains (filter (differs kept) is) j → i.key ≡ j.key → ⊥)
    (none : first_clash s.name_of (needed_keys (values before)) ≡ None)
    (clear : first_clash s.name_of (needed_keys (values after)) ≡ None) where
  abbrev was : Chains
  was = full_chains s (values before)

  abbrev now : Chains
  now = full_chains s (values after)

  -- what stands once ports' chains are left and written
  abbrev own_chains : NextParts
  own_chains =
      written was s (gone s (values before) (values after) kept same apart none)
      (filter (differs kept) (values after))

  -- and once the shared chains are joined
  abbrev pub next : NextParts
  next = with_shared s.family blocks (touched_by s (map (change s before after own its changed alike
      keys each) keys)) own_chains

  joined_now : (q : ChainAt) → is_some (get (fixed_chains s.family) q) ≡ true
      → get now q ≡ Some (joined_rules s.family blocks q)
  joined_now q fixed =
      joined_chains_are_the_tables s (values after) q (in_order after its) fixed
      ∙ ap (λ bs. Some (joined_rules s.family bs q)) (sym (blocks_of_all s after blocks its are))

  stands_after : (p : Place) → get next.places p.0 ≡ Some p.1 → p.1 ≡ get now p.0
  stands_after p found =
      elim (found_shared s.family blocks own_chains (touched_by s (map (change s before after own
      its changed alike keys each) keys)) p.0) [
        | inl h ↦
            ap (λ o. unwrap_or o p.1) (sym found ∙ h.1) ∙ sym (joined_now p.0 h.0)
        | inr h ↦
            stands s prefixed (values before) (values after) kept same keyed apart none clear
            p.0 p.1 (sym h.1 ∙ found)
      ]

  some_none : (rules : List Rule) → Some (Some rules) ≡ None → ⊥
  some_none rules h = absurd (cc)

  agree : (q : ChainAt) → get next.places q ≡ None → (o : Option (List Rule))
      → find chain_cmp q (fixed_rows s.family) ≡ o → get now q ≡ get was q
  agree q unlisted o fixed =
      elim (found_shared s.family blocks own_chains (touched_by s (map (change s before after own
      its changed alike keys each) keys)) q) [
        | inl h ↦ absurd (some_none (joined_rules s.family blocks q) (sym h.1 ∙ unlisted))
        | inr h ↦
            elim o as (λ p. find chain_cmp q (fixed_rows s.family) ≡ p → get now q ≡ get was q) [
              | None ↦ λ is.
                  sym (elsewhere s prefixed (values before) (values after) kept same keyed apart
                  none clear q (sym h.1 ∙ unlisted) is)
              | Some rules ↦ λ is.
                  sym (fixed_agree s before after own its changed alike keys each q
                  (ap is_some (get-from_entries chain_total (fixed_rows s.family) q ∙ is)) h.0)
            ] fixed
      ]

  -- the edits are the changes between both tables
  pub sync_edits : edits_of s.family was (entries next.places) ≡ changes_of s.family was now
  sync_edits =
      edits_are_changes was now changes_are_local s.family (entries next.places)
      (keys_rise chain_cmp next.places)
      (λ q out. agree q (not_found chain_cmp next.places q out)
      (find chain_cmp q (fixed_rows s.family)) refl)
      (all_weaker (λ p. get next.places p.0 ≡ Some p.1) (λ p. p.1 ≡ get now p.0) stands_after
      (entries next.places) (entries_found chain_total next.places))
