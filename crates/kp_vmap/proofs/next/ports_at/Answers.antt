use Rattle.std.proofs.Common.{◌≡◌, cond, None, sym, ap, ◌∙◌}
use Rattle.std.specs.FinMap as finite
use Rattle.std.specs.FinMap.{get, get-from_entries, get-remove}
use Rattle.std.specs.Option.{option_copied, unwrap_or}
use Rattle.std.proofs.lemmas.Result.{IfOk-weaker}
use Rattle.kp_base.proofs.Maps.{lookup-get, removed}
use Rattle.kp_object_defs.proofs.InOrder.{lookup-find}
use Rattle.kp_vmap_defs.proofs.Destinations.{destination_exact, destination_matches}
use Rattle.kp_vmap_defs.proofs.Destinations.{destination_ties, destination_total}
use Rattle.kp_vmap_defs.proofs.Destinations.{destination_tree_ties}
use Rattle.kp_vmap.specs.Places.{at_place, placed, staged_at}
use Rattle.kp_vmap.proofs.next.ports_at.Goals as goal

pub returns-in-Some-clause-ports : goal.returns-in-Some-clause-ports
returns-in-Some-clause-ports c =
    let kept = c.args.kept.now.entries in
    let staged = c.args.staged.now.entries in
    let at = c.args.at.now in
    ap (λ o. unwrap_or o (at_place kept at))
    (c.in-Some.ensures.value ∙ lookup-find destination_matches at staged
    ∙ sym (get-from_entries destination_total staged at))

pub returns-in-Some-clause-others : goal.returns-in-Some-clause-others
returns-in-Some-clause-others c = λ d other.
    let kept = c.args.kept.now.entries in
    let staged = c.args.staged.now.entries in
    let at = c.args.at.now in
    ap (λ m. unwrap_or (get m d) (at_place kept d))
    (removed destination_total destination_tree_ties destination_exact staged
    c.remove.new.self.entries at c.in-Some.ensures.updates.0)
    ∙ ap (λ o. unwrap_or o (at_place kept d))
    (get-remove destination_total (placed staged) at d
    ∙ ap (λ b. cond b None (get (placed staged) d)) other)

pub returns-in-None-clause-ports : goal.returns-in-None-clause-ports
returns-in-None-clause-ports c =
    let kept = c.args.kept.now.entries in
    let staged = c.args.staged.now.entries in
    let at = c.args.at.now in
    IfOk-weaker c.copy_of.result
    (λ ports. ports ≡ unwrap_or (option_copied c.get.result) finite.empty)
    (λ ports. ports ≡ staged_at kept staged at)
    (λ ports is.
    is
    ∙ ap (λ o. unwrap_or o finite.empty)
    (c.get.ensures.value ∙ lookup-get destination_total destination_ties kept at)
    ∙ ap (λ o. unwrap_or o (at_place kept at))
    (c.in-None.ensures.value ∙ lookup-find destination_matches at staged
    ∙ sym (get-from_entries destination_total staged at)))
    c.copy_of.ensures
