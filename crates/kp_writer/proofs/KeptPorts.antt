-- What a writer keeps stays in order where a port is put, or goes.
use Rattle.std.proofs.Common.{◌≡◌, Bool, true, false, cond, Option, Some, None, refl}
use Rattle.std.proofs.Common.{option_map, sym, ap, subst, ◌∙◌}
use Rattle.std.specs.Ordering.{eq_by_cmp}
use Rattle.std.specs.FinMap.{empty, get, get-empty}
use Rattle.kp_lemmas.proofs.Orders.{one_from_tie}
use Rattle.kp_base.specs.Keys.{port_key_cmp}
use Rattle.kp_base.specs.declared.address.Family.{Family}
use Rattle.kp_base.specs.declared.config.Config.{Config}
use Rattle.kp_base.specs.declared.key.PortKey.{PortKey}
use Rattle.kp_choice_defs.specs.Settings.{setting_of}
use Rattle.kp_base.proofs.KeyOrder.{port_key_exact}
use Rattle.kp_types.specs.Setting.{Setting}
use Rattle.kp_object_defs.specs.PortInfo.{PortInfo}
use Rattle.kp_blocks.specs.Joined.{BlocksByPort, port_block}
use Rattle.kp_tracker.specs.Tracked.{with_value}
use Rattle.kp_writer.specs.Old.{with_old}
use Rattle.kp_writer.specs.Written.{AreBlocksOf, AreOldBlocks, AreUnderOwnKeys, IsKept, Ports}
use Rattle.kp_writer.specs.Written.{WriterParts, all_written, new_writer, setting_in, with_newest}
use Rattle.kp_writer.proofs.OldBlocks.{got_with, none_old, old_kept, value_beside}

-- ---- One port that is put, or is gone

module _ (port : PortKey) (o : Option PortInfo) where
  own_with : (m : Ports) → ((i : PortInfo) → o ≡ Some i → i.key ≡ port) → AreUnderOwnKeys m
      → AreUnderOwnKeys (with_value port_key_cmp m port o)
  own_with m its own k i is = by (eq_by_cmp port_key_cmp k port) refl (sym (got_with m port o k) ∙ is)
    where
      by : (b : Bool) → eq_by_cmp port_key_cmp k port ≡ b → cond b o (get m k) ≡ Some i → i.key ≡ k
      by true tie is = its i is ∙ sym (one_from_tie port_key_exact k port tie)
      by false tie is = own k i is

  either : {A B : Type 0} (f : A → B) (b : Bool) (o p : Option A)
      → cond b (option_map f o) (option_map f p) ≡ option_map f (cond b o p)
  either f true o p = refl
  either f false o p = refl

  blocks_with : (s : Setting) (m : Ports) (bs : BlocksByPort) → AreBlocksOf s m bs
      → AreBlocksOf s (with_value port_key_cmp m port o)
      (with_value port_key_cmp bs port (option_map (port_block s) o))
  blocks_with s m bs are k =
      got_with bs port (option_map (port_block s) o) k
      ∙ ap (cond (eq_by_cmp port_key_cmp k port) (option_map (port_block s) o)) (are k)
      ∙ either (port_block s) (eq_by_cmp port_key_cmp k port) o (get m k)
      ∙ ap (option_map (port_block s)) (sym (got_with m port o k))

-- ---- What is kept

-- as it is told
pub kept_as : {w v : WriterParts} {bs cs os ns : BlocksByPort} → v ≡ w → cs ≡ bs → ns ≡ os
    → IsKept w bs os → IsKept v cs ns
kept_as value blocks aside kept =
    subst (λ (t : WriterParts × (BlocksByPort × BlocksByPort)). IsKept t.0 t.1.0 t.1.1)
    (λ i. (sym value i, (sym blocks i, sym aside i))) kept

module _ (w : WriterParts) (bs os : BlocksByPort) (kept : IsKept w bs os) where
  -- where the newest are written
  pub settled_kept : (ns : BlocksByPort) → IsKept (all_written w) bs ns
  settled_kept ns = record {
    written = kept.newest;
    newest = kept.newest;
    blocks = kept.blocks;
    old = none_old (setting_in w) w.newest ns;
  }

  module _ (port : PortKey) where
    -- once what was written of a port is set aside
    abbrev ns : BlocksByPort
    ns = with_old w.written w.newest bs os port

    old_beside : (m : Ports)
        → ((k : PortKey) → eq_by_cmp port_key_cmp k port ≡ false → get m k ≡ get w.newest k)
        → AreOldBlocks (setting_in w) w.written m ns
    old_beside = old_kept (setting_in w) w.written w.newest bs os kept.blocks kept.old port

    -- where the ports stay
    pub stays_kept : IsKept w bs ns
    stays_kept = record {
      written = kept.written;
      newest = kept.newest;
      blocks = kept.blocks;
      old = old_beside w.newest (λ k other. refl);
    }

    -- where it is put, or goes
    pub changed_kept : (o : Option PortInfo) → ((i : PortInfo) → o ≡ Some i → i.key ≡ port)
        → IsKept (with_newest w (with_value port_key_cmp w.newest port o))
        (with_value port_key_cmp bs port (option_map (port_block (setting_in w)) o)) ns
    changed_kept o its = record {
      written = kept.written;
      newest = own_with port o w.newest its kept.newest;
      blocks = blocks_with port o (setting_in w) w.newest bs kept.blocks;
      old = old_beside (with_value port_key_cmp w.newest port o) (value_beside w.newest port o);
    }

-- ---- Nothing

none_found : (k : PortKey) (i : PortInfo) → get {R = port_key_cmp} empty k ≡ Some i → i.key ≡ k
none_found k i is = absurd (some_none (sym is ∙ get-empty port_key_cmp k))
  where
    some_none : Some i ≡ None → ⊥
    some_none h = absurd (cc)

pub nothing_kept : (family : Family) (config : Config) (os : BlocksByPort)
    → IsKept (new_writer family config) empty os
nothing_kept family config os = record {
  written = none_found;
  newest = none_found;
  blocks = λ k.
      get-empty port_key_cmp k
      ∙ ap (option_map (port_block (setting_of family config))) (sym (get-empty port_key_cmp k));
  old = none_old (setting_of family config) empty os;
}
