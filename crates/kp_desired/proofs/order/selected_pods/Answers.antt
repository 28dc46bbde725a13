use Rattle.std.proofs.Common.{ℕ, ap, map, Ok, ◌∙◌}
use Rattle.std.proofs.lemmas.Iterator.{items_from_collect}
use Rattle.std.proofs.lemmas.Iterator.Consumers.{YieldsList-from_rest}
use Rattle.kp_object_defs.specs.Order.{values_of}
use Rattle.kp_desired.proofs.PodNames.{values-shown}
use Rattle.kp_desired.proofs.order.selected_pods.Goals as goal

pub returns : goal.returns
returns c =
    let road = YieldsList-from_rest {shows = λ x. x} (map (λ e. e.1) c.in_ok-by_name.by_name.entries) c.into_values.ensures.rest in
    ap (map (λ p. p.now)) (items_from_collect {E = ℕ} (Ok c.in_ok-collect.field-0) c.in_ok-collect.ensures.ran road)
    ∙ values-shown c.in_ok-by_name.by_name.entries
    ∙ ap values_of c.in_ok-by_name.ensures
