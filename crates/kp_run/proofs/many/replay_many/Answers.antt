use Rattle.std.proofs.Common.{sym, subst}
use Rattle.kp_mode_defs.specs.Mode.{replaying}
use Rattle.kp_replay.specs.Steps.{standing_of}
use Rattle.kp_run.specs.Given.{anywhere}
use Rattle.kp_run.specs.Stand.{EndsOrStops}
use Rattle.kp_run.specs.Texts.{replayed}
use Rattle.kp_run.proofs.EndLemmas.{stops_unbegun}
use Rattle.kp_run.proofs.ModeEnds.{ends_by_lines, lines_as_replay}
use Rattle.kp_run.proofs.many.replay_many.Goals as goal

-- no line was read
pub returns-in-Err : goal.returns-in-Err
returns-in-Err g c =
    let from = g.S.Source.input c.args.source.now in
    let to = g.K.Sink.output c.args.sink.now in
    c.ended.ensures replayed from to from (stops_unbegun replayed c.in-Err.refused from to)

-- the input came to its end, or the replay was stopped
pub returns : goal.returns
returns g c =
    let from = g.S.Source.input c.args.source.now in
    let to = g.K.Sink.output c.args.sink.now in
    let input = g.S.Source.input c.replay_groups-all.new.source in
    let output = g.K.Sink.output c.replay_groups-all.new.sink in
    let all = c.replay_groups-all.result in
    let last = standing_of c.replay_groups-all.new.replay in
    c.ended-2.ensures replayed from to input
    (subst (λ refused. EndsOrStops replayed refused all from to input output) (sym c.end-refused.ensures)
    (subst (λ t. EndsOrStops t last.refused all from to input output) lines_as_replay
    (ends_by_lines replaying anywhere last all from to input output c.replay_groups-all.ensures)))
