use Rattle.std.proofs.Common.{sym, ap, ◌∙◌}
use Rattle.std.specs.FinMap as finite
use Rattle.kp_lemmas.proofs.Orders.{equal_from_test}
use Rattle.kp_base.proofs.Maps.{lookup-get}
use Rattle.kp_types.specs.Places.{chain_cmp}
use Rattle.kp_types.specs.declared.chain.ChainAt.{ChainAt}
use Rattle.kp_types.proofs.ChainOrder.{chain_total, chain_exact, chain_ties}
use Rattle.kp_rules.proofs.chain_map.ChainMap.in_slot.Goals as goal

pub returns-then-is_at : goal.returns-then-is_at
returns-then-is_at c =
    let es = c.self.inside.rules.entries in
    let at = c.in_ok-at.at.now in
    let wanted : ChainAt = record { table = c.args.table; chain = c.args.chain.now } in
    let same = chain_exact at wanted (equal_from_test _ (sym (chain_ties at wanted) ∙ sym c.is_at.ensures ∙ c.if-is_at.true)) in
    sym c.in_ok-at.ensures.value ∙ lookup-get chain_total chain_ties es at
    ∙ ap (finite.get (finite.from_entries {R = chain_cmp} es)) same ∙ ap (λ m. finite.get m.chains wanted) c.self.view_is
