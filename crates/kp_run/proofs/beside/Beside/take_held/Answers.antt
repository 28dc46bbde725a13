use Rattle.std.proofs.Common.{◌<◌, length, rules}
use Rattle.kp_run.proofs.beside.Beside.take_held.Goals as goal

pub take_group-requires-clause-open : goal.take_group-requires-clause-open
take_group-requires-clause-open g c κs within =
    let some : 0 < length c.held_lines.result.now = search rules in
    (c.held_lines.ensures.open some).0

pub take_group-requires-clause-input : goal.take_group-requires-clause-input
take_group-requires-clause-input g c κs within =
    let some : 0 < length c.held_lines.result.now = search rules in
    (c.held_lines.ensures.open some).1
