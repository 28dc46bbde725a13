use Rattle.std.proofs.Common.{ap, sym, is_some, ◌∙◌}
use Rattle.kp_desired.specs.Labels.{is_label}
use Rattle.kp_desired.proofs.LabelIndex.{found-after, found-before}
use Rattle.kp_desired.proofs.selection.position_from.Goals as goal

pub returns-in-Some-clause-found : goal.returns-in-Some-clause-found
returns-in-Some-clause-found c =
    found-after (is_label c.args.term.now) c.args.start c.args.labels.now c.split_at.result.1.now c.split_at.ensures.back (ap is_some (sym c.position_of.ensures ∙ c.in-Some.is))

pub returns-in-None-clause-found : goal.returns-in-None-clause-found
returns-in-None-clause-found c =
    ap is_some c.position_of-in-None.ensures
    ∙ found-before (is_label c.args.term.now) c.args.start c.args.labels.now c.split_at.result.0.now c.split_at.result.1.now c.split_at.ensures.front c.split_at.ensures.back (ap is_some (sym c.position_of.ensures ∙ c.in-None.is))
