use Rattle.std.proofs.Common.{ap, sym, is_some, option_copied, ◌∙◌}
use Rattle.kp_category.proofs.Counting.{counts-again, counts-first}
use Rattle.kp_category.proofs.entries.counts.Goals as goal

pub returns-in-Some : goal.returns-in-Some
returns-in-Some c =
    counts-again c.args.counted.now.entries c.args.candidate.now (sym (ap is_some c.get.ensures.value) ∙ ap (λ o. is_some (option_copied o)) c.in-Some.is)

pub returns-in-None : goal.returns-in-None
returns-in-None c =
    counts-first c.args.counted.now.entries c.args.candidate.now (sym (ap is_some c.get.ensures.value) ∙ ap (λ o. is_some (option_copied o)) c.in-None.is)
