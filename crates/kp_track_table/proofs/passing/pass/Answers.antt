use Rattle.std.proofs.Common.{◌≡◌, sym}
use Rattle.std.specs.FinMap.{get}
use Rattle.kp_lemmas.proofs.Results.{err_anyhow}
use Rattle.kp_table_defs.specs.Walk.{walk_of}
use Rattle.kp_track_defs.specs.Kept.{at_flow}
use Rattle.kp_conntrack.proofs.Unowned.{ended}
use Rattle.kp_track_table.proofs.Passes.{opens}
use Rattle.kp_track_table.proofs.passing.pass.Goals as goal

pub returns-in_err-answer-in-None-clause-ended : goal.returns-in_err-answer-in-None-clause-ended
returns-in_err-answer-in-None-clause-ended g c =
    err_anyhow c.from_residual.result (c.owned.new.self ≡ at_flow c.args.connections.now c.args.flow.now)
    (ended c.args.connections.now c.args.flow.now (sym c.in-None.ensures.answer) c.owned.new.self c.in-None.ensures.after)

pub returns-in_ok-answer-in-None-clause-passed : goal.returns-in_ok-answer-in-None-clause-passed
returns-in_ok-answer-in-None-clause-passed g c drawn draws =
    opens c.args.connections.now c.args.flow.now c.args.lists.now
    (walk_of (get c.args.table.now.chains) c.args.node.now c.args.flow.now.packet drawn c.args.lists.now)
    c.owned.new.self c.in-None.ensures.answer c.in-None.ensures.after c.in_ok-answer-in-None.answer c.walk.new.lists
    (c.in_ok-answer-in-None.ensures.walk drawn draws)
    c.opened-kept.result c.opened-kept.ensures.kept c.opened-kept.new.self c.opened-kept.ensures.after
