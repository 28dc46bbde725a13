use Rattle.std.proofs.Common.{subst, refl}
use Rattle.kp_mode_defs.specs.Summing.{gen_text}
use Rattle.kp_text_defs.specs.Live.{totals_text}
use Rattle.kp_run.specs.Outcome.{EndsLine}
use Rattle.kp_run.proofs.EndLemmas.{none_written}
use Rattle.kp_run.proofs.generated.generate.Goals as goal

pub returns-in-Ok : goal.returns-in-Ok
returns-in-Ok g c =
    subst (λ s. EndsLine s.refused (totals_text s.totals) c.write_sums.result (g.K.Sink.output c.args.sink.now) (g.K.Sink.output c.write_sums.new.sink))
    c.in-Ok.ensures c.write_sums.ensures

pub returns-in-Err : goal.returns-in-Err
returns-in-Err g c = (none_written (gen_text c.args.plan) (g.K.Sink.output c.args.sink.now).written, refl, λ none. none)
