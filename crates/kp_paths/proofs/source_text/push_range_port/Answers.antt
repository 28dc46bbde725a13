use Rattle.std.proofs.Common.{codes}
use Rattle.std.proofs.lemmas.Result.{on_ok_weaker}
use Rattle.kp_report.proofs.Pieces.{two_added}
use Rattle.kp_text_defs.specs.Keys.{port_text}
use Rattle.kp_paths.proofs.source_text.push_range_port.Goals as goal

pub returns-clause-added : goal.returns-clause-added
returns-clause-added c =
    on_ok_weaker c.push_port.result
    (λ h. two_added _ _ _ (codes ", in ranges of ") (port_text c.args.port.now)
    c.in_ok-push.ensures.added h) c.push_port.ensures.added
