use Rattle.std.proofs.Common.{◌≡◌, ◌++◌, ap, map, ◌∙◌, string_bytes}
use Rattle.std.specs.FinMap.{find}
use Rattle.std.specs.Map.Iter.{deref_pair}
use Rattle.kp_base.specs.Keys.{port_key_cmp}
use Rattle.kp_base.specs.declared.address.Family.TheVariants.{V4, V6}
use Rattle.kp_base.proofs.KeyOrder.{port_key_total}
use Rattle.kp_object_defs.proofs.InOrder.{find-in_order}
use Rattle.kp_history_defs.specs.declared.dirty.DirtyPort.{DirtyPort}
use Rattle.kp_changes.specs.Lines.{dirty_lines, dirty_named, lines_named}
use Rattle.kp_changes.proofs.Shown.{next_seen}
use Rattle.kp_changes.proofs.changes.push_dirty.Goals as goal

pub loop-name-preserved : goal.loop-name-preserved
loop-name-preserved c =
    let config = c.args.now.now.synced.config in
    let o = c.args.now.now.synced.objects in
    let same = c.loop-name.invariant.same in
    let name = c.name-item.result in
    let four : find port_key_cmp name.now (map deref_pair c.in_ok-four.four.entries)
    ≡ dirty_named c.args.four.now name.now =
    ap (find port_key_cmp name.now) c.in_ok-four.ensures
    ∙ find-in_order port_key_total name.now (map (λ (d : DirtyPort). (d.key, d)) c.args.four.now) in
    let six : find port_key_cmp name.now (map deref_pair c.in_ok-six.six.entries)
    ≡ dirty_named c.args.six.now name.now =
    ap (find port_key_cmp name.now) c.in_ok-six.ensures
    ∙ find-in_order port_key_total name.now (map (λ (d : DirtyPort). (d.key, d)) c.args.six.now) in
    record {
      text =
          next_seen (lines_named config o c.args.four.now c.args.six.now)
          c.as_slice-name-items.result.now c.loop-name.name-index name _ _ _
          (c.in_ok-push_named.ensures.added
          ∙ (λ i. string_bytes c.loop-name.text
          ++ (dirty_lines V4 (same i).config (same i).objects (four i)
          ++ dirty_lines V6 (same i).config (same i).objects (six i))))
          c.loop-name.invariant.text c.loop-name-test.true c.name-item.is;
      same = c.in_ok-push_named.ensures.same ∙ same;
    }
