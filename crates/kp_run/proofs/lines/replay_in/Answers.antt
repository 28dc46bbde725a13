use Rattle.std.proofs.Common.{sym, subst}
use Rattle.kp_run.specs.Stand.{EndsOrStops}
use Rattle.kp_run.specs.Texts.{in_mode}
use Rattle.kp_run.proofs.EndLemmas.{stops_unbegun}
use Rattle.kp_run.proofs.lines.replay_in.Goals as goal

-- no line was read
pub returns-in-Err : goal.returns-in-Err
returns-in-Err g c =
    let from = g.S.Source.input c.args.source.now in
    let to = g.K.Sink.output c.args.sink.now in
    c.ended.ensures (in_mode g.M.Mode.mode) from to from (stops_unbegun (in_mode g.M.Mode.mode) c.in-Err.refused from to)

-- the input came to its end, or the replay was stopped
pub returns : goal.returns
returns g c =
    let from = g.S.Source.input c.args.source.now in
    let to = g.K.Sink.output c.args.sink.now in
    let input = g.S.Source.input c.replay_to_end-all.new.source in
    let output = g.K.Sink.output c.replay_to_end-all.new.sink in
    c.ended-2.ensures (in_mode g.M.Mode.mode) from to input
    (subst (λ refused. EndsOrStops (in_mode g.M.Mode.mode) refused c.replay_to_end-all.result from to input output)
    (sym c.end-refused.ensures) c.replay_to_end-all.ensures)
