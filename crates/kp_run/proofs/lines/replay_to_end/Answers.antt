use Rattle.std.proofs.Common.{rules, ◌≡◌, Err, sym, subst}
use Rattle.kp_replay.specs.Steps.{standing_of, Follows}
use Rattle.kp_run.specs.Stand.{EndsOrStops}
use Rattle.kp_run.specs.Texts.{in_mode}
use Rattle.kp_run.proofs.ModeEnds.{ends_adding, stops_among}
use Rattle.kp_run.proofs.lines.replay_to_end.Goals as goal

-- the replay was stopped among the lines
pub returns-in_err-replay_lines : goal.returns-in_err-replay_lines
returns-in_err-replay_lines g c =
    let from = g.S.Source.input c.args.source.now in
    let to = g.K.Sink.output c.args.sink.now in
    let input = g.S.Source.input c.replay_lines.new.source in
    let output = g.K.Sink.output c.replay_lines.new.sink in
    let stop = c.in_err-replay_lines.field-0.0 in
    let is : c.from_residual.result ≡ Err stop = search rules in
    subst (λ r. EndsOrStops (in_mode g.M.Mode.mode) (standing_of c.replay_lines.new.replay).refused r from to input output)
    (sym is) (stops_among g.M.Mode.mode stop from to input output c.in_err-replay_lines.ensures)

-- the lines came to their end
pub returns : goal.returns
returns g c =
    let all = c.in_ok-replay_lines.ensures in
    ends_adding g.M.Mode.mode (Follows (g.M.Mode.stands c.replay_lines.new.mode)) c.write_ending.result
    (standing_of c.replay_lines.new.replay) (g.S.Source.input c.args.source.now) (g.K.Sink.output c.args.sink.now)
    (g.S.Source.input c.replay_lines.new.source) (g.K.Sink.output c.replay_lines.new.sink)
    (g.K.Sink.output c.write_ending.new.sink) all (c.write_ending.ensures all.state all.kept)
