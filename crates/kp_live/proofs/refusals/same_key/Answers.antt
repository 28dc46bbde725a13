use Rattle.std.proofs.Common.{◌∙◌}
use Rattle.kp_names.proofs.SameKeys.{chain_key_same}
use Rattle.kp_live.proofs.refusals.same_key.Goals as goal

-- keys are compared as their definition says
pub returns : goal.returns
returns c = c.eq.ensures ∙ chain_key_same c.args.a.now c.args.b.now
