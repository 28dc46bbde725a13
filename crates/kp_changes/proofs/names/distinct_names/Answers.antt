use Rattle.std.proofs.Common.{ap, map, ◌∙◌}
use Rattle.std.proofs.lemmas.Result.{IfOk-weaker}
use Rattle.kp_changes.proofs.Shown.{keys_shown}
use Rattle.kp_changes.proofs.names.distinct_names.Goals as goal

pub returns : goal.returns
returns c =
    let entries = c.in_ok-by_themselves.field-0.entries in
    IfOk-weaker c.keys.result _ _
    (λ found is. ap (map (λ k. k.now)) is ∙ keys_shown entries
    ∙ ap (map (λ e. e.0)) c.in_ok-by_themselves.ensures)
    c.keys.ensures
