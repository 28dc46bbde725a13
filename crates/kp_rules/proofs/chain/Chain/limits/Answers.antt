use Rattle.std.proofs.Common.{map, ap, ◌∙◌}
use Rattle.kp_rules.specs.Limits.{limit_of}
use Rattle.kp_rules.proofs.chain.Chain.limits.Goals as goal

pub returns : goal.returns
returns c = c.as_slice.ensures.value ∙ c.self.invariant.limits ∙ ap (map limit_of) c.self.view_is
