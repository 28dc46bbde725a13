use Rattle.std.proofs.lemmas.Result.{on_ok_weaker, on_err_weaker}
use Rattle.kp_text_defs.specs.Slices.{slice_head_text, slice_tail_text}
use Rattle.kp_report.proofs.Pieces.{two_added, front_on}
use Rattle.kp_report.proofs.slice.push_slice.Goals as goal

pub returns-clause-added : goal.returns-clause-added
returns-clause-added c =
    let slice = c.args.slice.now in
    on_ok_weaker c.push_tail.result (two_added _ _ _ (slice_head_text slice) (slice_tail_text slice) c.in_ok-push_head.ensures.added)
    c.push_tail.ensures.added

pub returns-clause-front : goal.returns-clause-front
returns-clause-front c = on_err_weaker c.push_tail.result (front_on _ _ _ _ c.in_ok-push_head.ensures.added) c.push_tail.ensures.front
