use Rattle.std.proofs.Common.{subst}
use Rattle.kp_run.specs.Outcome.{EndsOf}
use Rattle.kp_run.proofs.ModeEnds.{as_replay}
use Rattle.kp_run.proofs.lines.replay_one.Goals as goal

pub returns : goal.returns
returns g c =
    subst (λ t. EndsOf t c.replay_in.result (g.S.Source.input c.args.source.now) (g.K.Sink.output c.args.sink.now)
    (g.S.Source.input c.replay_in.new.source) (g.K.Sink.output c.replay_in.new.sink)) as_replay c.replay_in.ensures
