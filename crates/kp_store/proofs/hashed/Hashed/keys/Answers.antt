use Rattle.std.proofs.Common.{map, ap, ◌∙◌}
use Rattle.std.proofs.lemmas.Result.{IfOk-weaker}
use Rattle.kp_store.proofs.Ordered.{ordered_keys}
use Rattle.kp_store.proofs.hashed.Hashed.keys.Goals as goal

pub returns : goal.returns
returns g c =
    IfOk-weaker c.copies.result _ _ (λ ks is.
    is
    ∙ ap (map (λ k. k.now)) c.as_slice.ensures.value
    ∙ c.in_ok-keys.ensures
    ∙ ordered_keys c.args.self.now c.in_ok-order.order c.in_ok-order.ensures) c.copies.ensures
