use Rattle.std.proofs.Common.{◌∙◌}
use Rattle.std.proofs.lemmas.Result.{IfOk-weaker}
use Rattle.kp_store.proofs.Ordered.{ordered_values}
use Rattle.kp_store.proofs.hashed.Hashed.values.Goals as goal

pub returns : goal.returns
returns g c =
    IfOk-weaker c.found.result _ _ (λ xs is.
    is
    ∙ ordered_values c.args.self.now c.in_ok-order.order c.in_ok-order.ensures) c.found.ensures
