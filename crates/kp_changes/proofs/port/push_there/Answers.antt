use Rattle.std.proofs.Common.{◌++◌, ◌∙◌, string_bytes}
use Rattle.kp_change_defs.specs.DoorChanges.{change_to}
use Rattle.kp_changes.specs.Lines.{line_if}
use Rattle.kp_changes.proofs.Shown.{next_piece}
use Rattle.kp_changes.proofs.port.push_there.Goals as goal

pub loop-door-preserved : goal.loop-door-preserved
loop-door-preserved c =
    let start = c.args.now.now.synced in
    let same = c.loop-door.invariant.same in
    record {
      text =
          next_piece
          (λ d. line_if c.args.family start.config start.objects (change_to c.args.before.now d))
          c.args.after.now c.loop-door.door-index c.door-item.result _ _ _
          (c.in_ok-push_if_differs.ensures.added
          ∙ (λ i. string_bytes c.loop-door.text
          ++ line_if c.args.family (same i).config (same i).objects (c.change_to-change.ensures i)))
          c.loop-door.invariant.text c.loop-door-test.true c.door-item.is;
      same = c.in_ok-push_if_differs.ensures.same ∙ same;
    }
