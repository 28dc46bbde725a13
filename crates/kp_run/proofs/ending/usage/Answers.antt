use Rattle.std.proofs.Common.{subst, ◌∙◌}
use Rattle.kp_io.specs.Told.{Grows}
use Rattle.kp_run.specs.Outcome.{GrowsFront}
use Rattle.kp_run.proofs.EndLemmas.{usage_ends}
use Rattle.kp_run.proofs.ending.usage.Goals as goal

pub returns-in-Ok : goal.returns-in-Ok
returns-in-Ok g c =
    let to = g.K.Sink.output c.args.sink.now in
    let was = g.K.Sink.output c.write_whole.new.sink in
    usage_ends c.flushed.result to was (g.K.Sink.output c.flushed.new.sink)
    (subst (Grows to.written was.written) (c.as_bytes.ensures.value ∙ c.usage_text.ensures) c.in-Ok.ensures.whole)
    c.in-Ok.ensures.cause.kept c.flushed.ensures

pub returns-in-Err : goal.returns-in-Err
returns-in-Err g c =
    let part = c.in-Err.ensures.part in (
      c.in-Err.ensures.cause.failed,
      subst (GrowsFront (g.K.Sink.output c.args.sink.now).written (g.K.Sink.output c.write_whole.new.sink).written)
          (c.as_bytes.ensures.value ∙ c.usage_text.ensures) (part.0, part.2),
    )
