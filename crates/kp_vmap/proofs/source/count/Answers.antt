use Rattle.std.proofs.Common.{◌==◌, sym, length, ◌∙◌}
use Rattle.std.proofs.lemmas.Bool.{or_left, or_right}
use Rattle.kp_vmap.proofs.source.count.Goals as goal
use Rattle.kp_vmap.proofs.source.count.Goals.{then-loop-some-test+else-not-is_empty}
use Rattle.kp_vmap.proofs.source.count.Goals.{else-loop-some-test}

pub left_of-requires : goal.left_of-requires
left_of-requires c =
    let first = length c.loop-some.some.now == 0 in
    let other = length c.loop-some.others.now == 0 in
    elim c.loop-some-test.branch [
      | then-loop-some-test+else-not-is_empty w ↦ or_right first other
          (sym w.is_empty-in-loop-some.ensures ∙ w.if-not-is_empty.false)
      | else-loop-some-test w ↦ or_left first other
          (sym c.is_empty.ensures ∙ w.loop-some-test.false)
    ]
