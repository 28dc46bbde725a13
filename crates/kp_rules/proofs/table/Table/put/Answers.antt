use Rattle.std.proofs.Common.{◌∙◌, sym, ap, true, cond}
use Rattle.std.specs.FinMap as finite
use Rattle.std.specs.Ordering.{eq_by_cmp}
use Rattle.kp_types.specs.contracts.chain.ChainAtOrd.TheImpl as order
use Rattle.kp_rules.specs.Placed.{has_place}
use Rattle.kp_rules.proofs.Placing.{places_more}
use Rattle.kp_rules.proofs.table.Table.put.Goals as goal

-- the new place is put in before its chain
pub invariant_of-self-2 : goal.invariant_of-self-2
invariant_of-self-2 c =
    let old = c.self.inside.places in
    let m = c.self.inside.chains.chains in
    let at = c.in_ok-chain.chain.at in
    let rules = c.in_ok-chain.chain.rules in
    places_more old c.insert.new.self m at rules c.self.invariant c.in_ok-insert.ensures.ordered
    (λ q. c.in_ok-insert.ensures.updates.0 q ∙ ap (λ k. cond (eq_by_cmp order.ghosts.cmp k q) true (has_place old q)) c.same.ensures)
    ∙ sym (ap finite.keys (c.write.ensures.chains ∙ ap (λ n. finite.insert n at rules) c.in_ok-reserve.ensures.chains))
