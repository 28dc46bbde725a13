use Rattle.std.proofs.Common.{sym, ap, ◌∙◌, arith, length, ◌∷◌, []}
use Rattle.std.proofs.lemmas.List.{length-append}
use Rattle.std.specs.FinMap as finite
use Rattle.kp_base.specs.Keys.{port_key_cmp}
use Rattle.kp_tracker.proofs.Newest.{published_behind}
use Rattle.kp_tracker.specs.Tracked.{updated}
use Rattle.kp_vmap.proofs.keep.keep_ports.Goals as goal

pub loop-key-preserved : goal.loop-key-preserved
loop-key-preserved c =
    let was = finite.from_entries {R = port_key_cmp} c.loop-key.ports.entries in
    let left = c.pop.new.self.items in
    record {
      values =
          ap (λ m. updated port_key_cmp m left) c.keep_port.ensures.value
          ∙ sym (published_behind port_key_cmp was left (c.in-Some.key, c.in-Some.port))
          ∙ ap (updated port_key_cmp was) (sym c.in-Some.ensures.items)
          ∙ c.loop-key.invariant.values;
      room = omega (
        arith,
        ap length c.in-Some.ensures.items,
        length-append left ((c.in-Some.key, c.in-Some.port) ∷ []),
        c.loop-key.invariant.room,
        c.keep_port.ensures.room,
      );
    }
