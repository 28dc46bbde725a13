use Rattle.kp_modes.specs.Mapping.{mapping}
use Rattle.kp_run.specs.Texts.{in_mode}
use Rattle.kp_run.proofs.EndLemmas.{stops_unbegun}
use Rattle.kp_run.proofs.program.map.Goals as goal

-- there was no memory for the map
pub returns-in-Err : goal.returns-in-Err
returns-in-Err g c =
    let from = g.S.Source.input c.args.source.now in
    let to = g.K.Sink.output c.args.sink.now in
    c.ended.ensures (in_mode mapping) from to from (stops_unbegun (in_mode mapping) c.in-Err.refused from to)
