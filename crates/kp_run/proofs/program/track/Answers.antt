use Rattle.kp_track_mode_defs.specs.TrackMode.{tracking}
use Rattle.kp_run.specs.Texts.{in_mode}
use Rattle.kp_run.proofs.EndLemmas.{stops_unbegun}
use Rattle.kp_run.proofs.program.track.Goals as goal

-- there was no memory for the connections
pub returns-in-Err : goal.returns-in-Err
returns-in-Err g c =
    let from = g.S.Source.input c.args.source.now in
    let to = g.K.Sink.output c.args.sink.now in
    c.ended.ensures (in_mode tracking) from to from (stops_unbegun (in_mode tracking) c.in-Err.refused from to)
