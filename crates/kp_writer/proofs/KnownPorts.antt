-- Ports by whose names the same is known as objects tell.
use Rattle.std.proofs.Common.{◌≡◌, Bool, true, false, not, List, map, filter}
use Rattle.std.proofs.Common.{Option, Some, None, flat_map, ◌++◌, refl, sym, ap, ◌∙◌}
use Rattle.std.proofs.Math.Bool.{not-not}
use Rattle.std.specs.FinMap.{entries, entries_sorted, get, get-entries, values}
use Rattle.std.specs.FinMap.Entries.{same_entries}
use Rattle.std.specs.List.{filter_map}
use Rattle.std.specs.List.Sorted.{IsStrictlySortedBy}
use Rattle.std.specs.Option.{option_eq}
use Rattle.std.proofs.lemmas.List.{map-id}
use Rattle.std.proofs.lemmas.List.Kept.{IsStrictlySortedBy-filter}
use Rattle.std.proofs.lemmas.Simd.{map-map}
use Rattle.kp_lemmas.proofs.Booleans.{fact_from_true}
use Rattle.kp_lemmas.proofs.Equality.{options_exact}
use Rattle.kp_base.specs.Keys.{port_key_cmp}
use Rattle.kp_base.specs.declared.key.PortKey.{PortKey}
use Rattle.kp_base.proofs.KeyOrder.{port_key_total, port_key_exact}
use Rattle.kp_types.specs.Setting.{Setting}
use Rattle.kp_object_defs.specs.Objects.{Objects}
use Rattle.kp_object_defs.specs.OwnKeys as own
use Rattle.kp_object_defs.specs.PortByKey.{info_at, port_keys_of}
use Rattle.kp_object_defs.specs.PortInfo.{PortInfo, port_infos}
use Rattle.kp_object_laws.specs.PortLaws.{InfoHasKey}
use Rattle.kp_table_laws.specs.Laws.{PortsAreInOrder}
use Rattle.kp_history_defs.specs.DirtyPorts.{dirty_keys, keeps_info, same_info}
use Rattle.kp_history_defs.specs.Inputs.{ports_of_either}
use Rattle.kp_history_laws.specs.DirtyLaws.{CleanInfos, DirtyInfos, InfosByName}
use Rattle.kp_history_laws.proofs.DirtyPorts.{info_itself, infos_exact}
use Rattle.kp_writer_laws.specs.LocalLaws.{is_one_of}
use Rattle.kp_writer.specs.Known.{ArePortsOf, DirtyNewest, DirtyWritten, IsBetween, KnownDirtyPorts}
use Rattle.kp_writer.specs.Known.{KnownPorts, pending_keys, with_written}
use Rattle.kp_writer.specs.Written.{AreUnderOwnKeys, Ports, WriterParts, is_pending}
use Rattle.kp_writer.proofs.DirtyLists.{of_keys}
use Rattle.kp_writer.proofs.OneList.{distinct_rise, one_list}
use Rattle.kp_writer.proofs.PendingPorts.{pending_has, pending_rise}

-- ---- All ports

pub known_ports : InfosByName → PortsAreInOrder → KnownPorts
known_ports by_name in_order setting o ports own are =
    let infos = port_infos setting.family setting.config o in
    ap (map (λ (e : PortKey × PortInfo). e.1)) (same_entries port_key_cmp port_key_total
    port_key_exact (entries ports) (map (λ i. (i.key, i)) infos) (entries_sorted ports)
    (fact_from_true (in_order setting.family setting.config o))
    (λ key. sym (get-entries ports key) ∙ are key ∙ sym (by_name setting o key own)))
    ∙ map-map (λ (e : PortKey × PortInfo). e.1) (λ (i : PortInfo). (i.key, i)) infos
    ∙ map-id infos

-- ---- The ports that differ

-- the same is known as is known
pub itself : (o : Option PortInfo) → option_eq same_info o o ≡ true
itself None = refl
itself (Some i) = info_itself i

module _ (setting : Setting) (before after : Objects) (w : WriterParts)
    (between : IsBetween setting before after w) where
  -- whether a port differs
  abbrev changed : PortKey → Bool
  changed = is_pending w.written w.newest

  abbrev dirty : List PortKey
  dirty = dirty_keys setting before after

  dirty_rise : IsStrictlySortedBy port_key_cmp dirty
  dirty_rise =
      IsStrictlySortedBy-filter port_key_cmp (λ key. not (keeps_info setting before after key))
      (ports_of_either before after) (distinct_rise port_key_cmp port_key_total (flat_map
      port_keys_of (values before.services) ++ flat_map port_keys_of (values after.services)))

  -- where the same is known, the same is known of the objects
  alike : (key : PortKey) → changed key ≡ false
      → info_at setting.family setting.config after key
      ≡ info_at setting.family setting.config before key
  alike key h =
      sym (between.newest key)
      ∙ sym (options_exact same_info infos_exact (get w.written key)
      (get w.newest key) (sym (not-not _) ∙ ap not h))
      ∙ between.written key

  -- and the other way round
  unchanged : (key : PortKey)
      → info_at setting.family setting.config after key
      ≡ info_at setting.family setting.config before key
      → changed key ≡ false
  unchanged key same =
      ap (λ o. not (option_eq same_info (get w.written key) o))
      (between.newest key ∙ same ∙ sym (between.written key))
      ∙ ap not (itself (get w.written key))

  module _ (differ : DirtyInfos) (clean : CleanInfos) where
    changed_by : (key : PortKey) → is_one_of dirty key ≡ true → (b : Bool) → changed key ≡ b
        → true ≡ b
    changed_by key h true is = refl
    changed_by key h false is = absurd (differ setting before after key h (alike key is))

    dirty_by : (key : PortKey) (b : Bool) → is_one_of dirty key ≡ b → b ≡ changed key
    dirty_by key true h = changed_by key h (changed key) refl
    dirty_by key false h =
        sym (unchanged key (clean setting before after key between.own_before between.own_after h))

    -- the dirty ports are those that differ
    dirty_has : (key : PortKey) → is_one_of dirty key ≡ changed key
    dirty_has key = dirty_by key (is_one_of dirty key) refl

    same_keys : pending_keys w ≡ dirty
    same_keys =
        one_list port_key_cmp port_key_total port_key_exact (pending_keys w) dirty (pending_rise w)
        dirty_rise (λ key. pending_has w key ∙ sym (dirty_has key))

    -- ports under their own keys that differ are those of the dirty names
    of_dirty : (ports : Ports) → AreUnderOwnKeys ports
        → filter (λ i. changed i.key) (values ports) ≡ filter_map (get ports) dirty
    of_dirty ports own = sym (of_keys changed ports own dirty dirty_rise dirty_has)

pub known_dirty_ports : DirtyInfos → CleanInfos → KnownDirtyPorts
known_dirty_ports differ clean setting before after w between =
    ap (map (with_written w)) (same_keys setting before after w between differ clean)
    ∙ ap (λ f. map f (dirty_keys setting before after))
    (λ i key. record { key = key; before = between.written key i })

-- ports of objects stand under their own keys
own_ports : InfoHasKey → (setting : Setting) (o : Objects) (ports : Ports) → own.AreUnderOwnKeys o
    → ArePortsOf setting o ports → AreUnderOwnKeys ports
own_ports has_key setting o ports its are key i is =
    has_key setting.family setting.config o key i its (sym (are key) ∙ is)

pub dirty_written : DirtyInfos → CleanInfos → InfoHasKey → DirtyWritten
dirty_written differ clean has_key setting before after w between =
    of_dirty setting before after w between differ clean w.written
    (own_ports has_key setting before w.written between.own_before between.written)
    ∙ ap (λ f. filter_map f (dirty_keys setting before after)) (λ i key. between.written key i)

pub dirty_newest : DirtyInfos → CleanInfos → InfoHasKey → DirtyNewest
dirty_newest differ clean has_key setting before after w between =
    of_dirty setting before after w between differ clean w.newest
    (own_ports has_key setting after w.newest between.own_after between.newest)
    ∙ ap (λ f. filter_map f (dirty_keys setting before after)) (λ i key. between.newest key i)
