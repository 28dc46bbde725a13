use Rattle.std.proofs.Common.{take, drop, ◌+◌}
use Rattle.std.specs.List.{flat_map}
use Rattle.kp_run_defs.specs.LiveText.{refused_text}
use Rattle.kp_live.proofs.Printing.{next_text, prints_broken, prints_next, rest_text}
use Rattle.kp_live.proofs.parts.print_refused.Goals as goal

-- one more line was written, or a front of it
pub loop-line-preserved : goal.loop-line-preserved
loop-line-preserved g c =
    let xs = c.args.refused.now in
    let i = c.loop-line.line-index in
    prints_next (flat_map refused_text (take i xs)) (refused_text c.line-item.result)
    (flat_map refused_text (take (i + 1) xs)) tt c.in-Ok.field-0 _ _ _
    (next_text refused_text xs i c.line-item.result c.loop-line-test.true c.line-item.is)
    c.loop-line.invariant c.in-Ok.ensures

pub returns-in-Err : goal.returns-in-Err
returns-in-Err g c =
    let xs = c.args.refused.now in
    let i = c.loop-line.line-index in
    prints_broken (flat_map refused_text (take i xs)) (refused_text c.line-item.result)
    (flat_map refused_text (drop (i + 1) xs)) (flat_map refused_text xs) tt c.in-Err.fault
    _ _ _
    (rest_text refused_text xs i c.line-item.result c.loop-line-test.true c.line-item.is)
    c.loop-line.invariant c.in-Err.ensures
