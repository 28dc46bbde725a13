-- What the edits of a writer are, from what it keeps.
use Rattle.std.proofs.Common.{◌≡◌, arith, Bool, false, true≢false, not, Bor}
use Rattle.std.proofs.Common.{List, map, filter, Contains, None, refl, sym, ap, subst, ◌∙◌}
use Rattle.std.proofs.Math.Bool.{not-not}
use Rattle.std.specs.FinMap.{entries, get, values}
use Rattle.kp_lemmas.proofs.Equality.{options_exact}
use Rattle.kp_lemmas.proofs.Members.{from_filter}
use Rattle.kp_base.specs.Keys.{port_key_cmp}
use Rattle.kp_base.specs.declared.address.Family.{Family}
use Rattle.kp_base.specs.declared.config.Config.{Config}
use Rattle.kp_base.specs.declared.key.PortKey.{PortKey}
use Rattle.kp_types.specs.Setting.{Setting}
use Rattle.kp_object_defs.specs.PortInfo.{PortInfo}
use Rattle.kp_table_defs.specs.Rebuild.{Chains}
use Rattle.kp_table_laws.specs.Families.{HasTablesOf}
use Rattle.kp_walk_laws.specs.Laws.{HashedPrefixed}
use Rattle.kp_history_defs.specs.DirtyPorts.{same_info}
use Rattle.kp_history_laws.proofs.DirtyPorts.{infos_exact}
use Rattle.kp_blocks.specs.Joined.{BlocksByPort}
use Rattle.kp_tracker.specs.Tracked.{IsPending, Tracked}
use Rattle.kp_writer.specs.Batch.{own_rules_written}
use Rattle.kp_writer.specs.Next.{NextParts, edits_of}
use Rattle.kp_writer.specs.Own.{own_rule_count, with_own}
use Rattle.kp_writer.specs.Shared.{touched_by, with_shared}
use Rattle.kp_writer.specs.Sync.{IsNextOf, changes_of, infos_at, sync_next}
use Rattle.kp_writer.specs.Written.{AreUnderOwnKeys, IsKept, Ports, WriterParts, is_pending, parts}
use Rattle.kp_writer.specs.Written.{chains_of, clash_of, dirty_of}
use Rattle.kp_writer.specs.Written.{setting_in}
use Rattle.kp_writer.proofs.ClashTest.{differs, no_clash}
use Rattle.kp_writer.proofs.DirtyLists.{of_keys, same_passed}
use Rattle.kp_writer.proofs.OwnTables.{edits_alike, next_alike}
use Rattle.kp_writer.proofs.OwnValues.{own_values}
use Rattle.kp_writer.proofs.SharedPlaces.{shared_free}
use Rattle.kp_writer.proofs.SyncLaw.{sync_edits}
use Rattle.kp_writer.proofs.WrittenRules.{written_rules}

module _ (family : Family) (config : Config) (t : Tracked PortKey PortInfo)
    (blocks kept_old : BlocksByPort) (kept : IsKept (parts family config t) blocks kept_old)
    (refs items : List (Bor PortKey)) (same_refs : refs ≡ items)
    (found : IsPending port_key_cmp same_info t (map (λ k. k.now) items)) where
  -- the writer
  abbrev v : WriterParts
  v = parts family config t

  -- the ports that differ
  abbrev keys : List PortKey
  keys = map (λ k. k.now) refs

  pending : IsPending port_key_cmp same_info t keys
  pending =
      subst (λ (ks : List (Bor PortKey)). IsPending port_key_cmp same_info t (map (λ k. k.now) ks))
      (sym same_refs) found

  abbrev s : Setting
  s = setting_in v

  abbrev before : Ports
  before = v.written

  abbrev after : Ports
  after = v.newest

  -- whether a port differs
  abbrev changed : PortKey → Bool
  changed = is_pending before after

  abbrev stays : PortInfo → Bool
  stays i = not (changed i.key)

  dirty : (m : Ports) → AreUnderOwnKeys m → infos_at m keys ≡ dirty_of v m
  dirty m own = of_keys changed m own keys pending.in_order pending.each

  -- the rules of their own chains
  pub own_counted : (w : WriterParts) → v ≡ w → own_rule_count s (infos_at after keys)
      ≡ own_rule_count (setting_in w) (dirty_of w w.newest)
  own_counted w is =
      ap (own_rule_count s) (dirty after kept.newest)
      ∙ ap (λ u. own_rule_count (setting_in u) (dirty_of u u.newest)) is

  -- ---- The ports that stay, and those that differ

  twice : (is : List PortInfo) → filter (differs stays) is ≡ filter (λ i. changed i.key) is
  twice is = ap (λ (f : PortInfo → Bool). filter f is) (λ n i. not-not (changed i.key) n)

  differing : (m : Ports) → AreUnderOwnKeys m → infos_at m keys ≡ filter (differs stays) (values m)
  differing m own = dirty m own ∙ sym (twice (values m))

  alike : (k : PortKey) → changed k ≡ false → get before k ≡ get after k
  alike k h =
      options_exact same_info infos_exact (get before k) (get after k) (sym (not-not _) ∙ ap not h)

  same : filter stays (values before) ≡ filter stays (values after)
  same =
      same_passed (λ k. not (changed k)) before after kept.written kept.newest
      (λ k h. alike k (sym (not-not (changed k)) ∙ ap not h))

  apart : (is : List PortInfo) (i j : PortInfo) → Contains (filter stays is) i
      → Contains (filter (differs stays) is) j → i.key ≡ j.key → ⊥
  apart is i j ci cj one =
      true≢false (sym (from_filter (differs stays) j is cj).1
      ∙ ap (λ k. not (not (changed k))) (sym one) ∙ ap not (from_filter stays i is ci).1)

  -- ---- The edits

  module _ (hashed : HashedPrefixed) (was : Chains) (next : NextParts)
      (made : next ≡ sync_next was blocks s before after keys) where
    module _ (stood : HasTablesOf v.family was (chains_of v before))
        (none : clash_of v before ≡ None) where
      abbrev mine : Chains
      mine = chains_of v before

      -- what stands once the ports that differ have their chains
      own_chains : with_own mine s (infos_at before keys) (infos_at after keys)
          ≡ with_own mine s (filter (differs stays) (values before))
          (filter (differs stays) (values after))
      own_chains =
          λ n. with_own mine s (differing before kept.written n) (differing after kept.newest n)

      -- and once the shared chains are joined
      next_is : next
          ≡ with_shared v.family blocks (touched_by s (changes_of before after keys))
          (with_own mine s (infos_at before keys) (infos_at after keys))
      next_is = made ∙ next_alike was mine s stood blocks before after keys

      next_of : IsNextOf v was next
      next_of = record {
        free = λ free.
            no_clash s (values before) (values after) stays same apart none
            (ap (λ (n : NextParts). n.free) (sym own_chains)
            ∙ sym (shared_free v.family blocks
            (with_own mine s (infos_at before keys) (infos_at after keys))
            (touched_by s (changes_of before after keys)))
            ∙ ap (λ (n : NextParts). n.free) (sym next_is) ∙ free);
        edits = λ clear.
            edits_alike was mine s stood (entries next.places)
            ∙ ap (λ (n : NextParts). edits_of v.family mine (entries n.places)) next_is
            ∙ (λ n. edits_of v.family mine (entries (with_shared v.family blocks
            (touched_by s (changes_of before after keys)) (own_chains n)).places))
            ∙ sync_edits s (hashed v.config.name_length) before after kept.written kept.newest
            changed alike keys pending.each blocks kept.blocks stays same
            (own_values after kept.newest) apart none clear;
        few = omega (
          arith,
          own_counted v refl,
          ap (λ (n : NextParts). own_rules_written (edits_of v.family was (entries n.places))) made,
          written_rules was blocks s before after keys,
        );
      }

    -- so it is of what contracts see of the writer
    pub is_next : (w : WriterParts) → v ≡ w → HasTablesOf w.family was (chains_of w w.written)
        → clash_of w w.written ≡ None → IsNextOf w was next
    is_next w is =
        subst (λ u. HasTablesOf u.family was (chains_of u u.written)
        → clash_of u u.written ≡ None → IsNextOf u was next) is next_of
