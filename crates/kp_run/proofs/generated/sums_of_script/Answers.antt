use Rattle.std.proofs.Common.{ap, ◌∙◌}
use Rattle.kp_gen_defs.specs.Script.{script_of}
use Rattle.kp_run.specs.Sums.{sums_of}
use Rattle.kp_run.proofs.SumLemmas.{counted_same}
use Rattle.kp_run.proofs.generated.sums_of_script.Goals as goal

pub returns-in-Ok : goal.returns-in-Ok
returns-in-Ok c =
    c.end-sums.ensures ∙ ap sums_of (ap (λ k. k.at) c.in-Ok.ensures ∙ counted_same (script_of c.args.plan))
