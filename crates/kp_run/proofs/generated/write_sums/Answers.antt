use Rattle.std.proofs.Common.{subst, ◌∙◌}
use Rattle.kp_io.specs.Told.{Grows}
use Rattle.kp_text_defs.specs.Live.{totals_text}
use Rattle.kp_run.proofs.EndLemmas.{line_ends}
use Rattle.kp_run.proofs.generated.write_sums.Goals as goal

pub returns-in-Ok-write_whole : goal.returns-in-Ok-write_whole
returns-in-Ok-write_whole g c =
    let to = g.K.Sink.output c.args.sink.now in
    let was = g.K.Sink.output c.write_whole.new.sink in
    line_ends c.flushed.result to was (g.K.Sink.output c.flushed.new.sink) (totals_text c.args.sums.now.totals)
    (subst (Grows to.written was.written) (c.as_bytes.ensures.value ∙ c.as_str.ensures ∙ c.in-Ok.ensures) c.in-Ok-write_whole.ensures.whole)
    c.in-Ok-write_whole.ensures.cause.kept c.args.sums.now.refused c.if_refused.result c.if_refused.ensures c.flushed.ensures
