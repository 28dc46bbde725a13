-- The keys that are pending are those of the ports of which something else is known than was
-- written.
use Rattle.std.proofs.Common.{◌≡◌, Bool, true, false, not, ◌&&◌, Bor, List, ◌++◌, map}
use Rattle.std.proofs.Common.{refl, sym, ap, ◌∙◌}
use Rattle.std.proofs.Math.Bool.{and-false, and-true}
use Rattle.std.specs.FinMap.{keys}
use Rattle.std.specs.List.Sorted.{IsStrictlySortedBy}
use Rattle.std.specs.Option.{option_eq}
use Rattle.std.specs.Ordering.{eq_by_cmp}
use Rattle.std.proofs.lemmas.Bool.{or_parts}
use Rattle.std.proofs.lemmas.List.Folds.{list_any-append}
use Rattle.std.proofs.lemmas.List.Kept.{IsStrictlySortedBy-filter}
use Rattle.std.proofs.lemmas.Simd.{map-map}
use Rattle.kp_base.specs.Keys.{port_key_cmp}
use Rattle.kp_base.specs.declared.address.Family.{Family}
use Rattle.kp_base.specs.declared.config.Config.{Config}
use Rattle.kp_base.specs.declared.key.PortKey.{PortKey}
use Rattle.kp_base.proofs.KeyOrder.{port_key_total, port_key_exact}
use Rattle.kp_object_defs.specs.PortInfo.{PortInfo}
use Rattle.kp_history_defs.specs.DirtyPorts.{same_info}
use Rattle.kp_history_defs.specs.declared.dirty.DirtyPort.{DirtyPort}
use Rattle.kp_tracker.specs.Tracked.{IsPending, Tracked}
use Rattle.kp_writer_laws.specs.LocalLaws.{is_one_of}
use Rattle.kp_writer.specs.Known.{either_keys, pending_keys, pending_ports, with_written}
use Rattle.kp_writer.specs.Written.{WriterParts, is_pending, parts}
use Rattle.kp_writer.proofs.DirtyLists.{not_found}
use Rattle.kp_writer.proofs.OneList.{distinct_has, distinct_rise, filter_has, one_list}

module _ (w : WriterParts) where
  -- whether a port differs
  abbrev changed : PortKey → Bool
  changed = is_pending w.written w.newest

  -- a port that neither was written nor is known doesn't
  out : (key : PortKey) → is_one_of (either_keys w) key ≡ false → changed key ≡ false
  out key h =
      let parts = or_parts _ _ (sym (list_any-append (eq_by_cmp port_key_cmp key) (keys
      w.written) (keys w.newest)) ∙ sym (distinct_has port_key_cmp port_key_total
      (keys w.written ++ keys w.newest) key) ∙ h) in
      λ i. not (option_eq same_info (not_found port_key_cmp w.written key parts.0 i)
      (not_found port_key_cmp w.newest key parts.1 i))

  each_by : (key : PortKey) (b : Bool) → is_one_of (either_keys w) key ≡ b
      → (changed key && b) ≡ changed key
  each_by key true h = and-true (changed key)
  each_by key false h = and-false (changed key) ∙ sym (out key h)

  -- those that differ are exactly the pending ones
  pub pending_has : (key : PortKey) → is_one_of (pending_keys w) key ≡ changed key
  pending_has key =
      filter_has port_key_cmp port_key_total port_key_exact changed (either_keys w) key
      ∙ each_by key (is_one_of (either_keys w) key) refl

  pub pending_rise : IsStrictlySortedBy port_key_cmp (pending_keys w)
  pending_rise =
      IsStrictlySortedBy-filter port_key_cmp changed (either_keys w) (distinct_rise port_key_cmp
      port_key_total (keys w.written ++ keys w.newest))

-- the dirty ports by references to the keys that a tracker tells
pub dirty_are : (family : Family) (config : Config) (t : Tracked PortKey PortInfo) (w : WriterParts)
    → parts family config t ≡ w → (refs items : List (Bor PortKey)) → refs ≡ items
    → IsPending port_key_cmp same_info t (map (λ k. k.now) items) → (dirty : List DirtyPort)
    → dirty ≡ map (λ k. with_written (parts family config t) k.now) refs → dirty ≡ pending_ports w
dirty_are family config t w is refs items same found dirty are =
    let v = parts family config t in
    are
    ∙ ap (map (λ (k : Bor PortKey). with_written v k.now)) same
    ∙ sym (map-map (with_written v) (λ (k : Bor PortKey). k.now) items)
    ∙ ap (map (with_written v)) (one_list port_key_cmp port_key_total port_key_exact
    (map (λ k. k.now) items) (pending_keys v) found.in_order (pending_rise v)
    (λ key. found.each key ∙ sym (pending_has v key)))
    ∙ ap pending_ports is
