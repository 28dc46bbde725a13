use Rattle.std.proofs.Common.{ap, subst, refl, ◌++◌, ◌∙◌}
use Rattle.kp_mode_defs.specs.Mode.{ended}
use Rattle.kp_replay.specs.Steps.{place_of}
use Rattle.kp_run.specs.Stand.{WritesOrStops}
use Rattle.kp_run.proofs.EndLemmas.{none_written}
use Rattle.kp_run.proofs.lines.write_ending.Goals as goal

pub returns-in-Ok : goal.returns-in-Ok
returns-in-Ok g c = λ state follows.
    let more = ended g.M.Mode.mode (place_of c.args.replay.now state) in
    subst (λ t. WritesOrStops c.write_text.result t (g.K.Sink.output c.args.sink.now) (g.K.Sink.output c.write_text.new.sink))
    (c.as_bytes.ensures.value ∙ c.in-Ok.ensures.text state follows ∙ ap (λ t. t ++ more) c.new-text.ensures.bytes)
    c.write_text.ensures

-- without memory nothing was written
pub returns : goal.returns
returns g c = λ state follows. record {
  whole = tt;
  front =
      none_written (ended g.M.Mode.mode (place_of c.args.replay.now state)) (g.K.Sink.output c.args.sink.now).written;
  sure = tt;
  cause = refl;
}
