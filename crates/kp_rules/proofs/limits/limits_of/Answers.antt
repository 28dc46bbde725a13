use Rattle.std.proofs.Common.{rules, ℕ, Ok}
use Rattle.std.proofs.lemmas.Iterator.{items_from_collect, YieldsList-from_slice, YieldsList-from_map}
use Rattle.kp_rules.specs.Limits.{limit_of}
use Rattle.kp_rules.proofs.limits.limits_of.Goals as goal

pub returns : goal.returns
returns c =
    items_from_collect {E = ℕ} (Ok c.in_ok-collect.field-0) c.in_ok-collect.ensures.ran
    (YieldsList-from_map _ limit_of (YieldsList-from_slice c.args.rules.now (cc)) c.map.ensures.closure (λ x r q k. search rules))
