use Rattle.std.proofs.Common.{◌++◌, ◌∙◌, string_bytes}
use Rattle.kp_changes.specs.Lines.{line_if_gone}
use Rattle.kp_changes.proofs.Shown.{next_piece}
use Rattle.kp_changes.proofs.port.push_gone.Goals as goal

pub loop-door-preserved : goal.loop-door-preserved
loop-door-preserved c =
    let start = c.args.now.now.synced in
    let same = c.loop-door.invariant.same in
    record {
      text =
          next_piece
          (line_if_gone c.args.family start.config start.objects c.args.after.now)
          c.args.before.now c.loop-door.door-index c.door-item.result _ _ _
          (c.in_ok-push_if_gone.ensures.added
          ∙ (λ i. string_bytes c.loop-door.text
          ++ line_if_gone c.args.family (same i).config (same i).objects c.args.after.now
          c.door-item.result))
          c.loop-door.invariant.text c.loop-door-test.true c.door-item.is;
      same = c.in_ok-push_if_gone.ensures.same ∙ same;
    }
