use Rattle.std.proofs.Common.{◌≡◌, ◌∙◌, sym, ap, subst, false, cond, is_some, drop, length, arith, ◌+◌}
use Rattle.std.proofs.Math.Seq.{drop-length}
use Rattle.std.specs.BTreeSet.{IsOrdered}
use Rattle.std.specs.FinMap.{contains_key}
use Rattle.std.specs.Ordering.{eq_by_cmp}
use Rattle.kp_types.specs.contracts.chain.ChainAtOrd.TheImpl as order
use Rattle.kp_rules.specs.Placed.{has_place, place_of, AreStaged}
use Rattle.kp_rules.proofs.Placing.{copied_is, staged_last, staged_left, staged_kept, staged_less}
use Rattle.kp_rules.proofs.places.remove_empty.Goals.{then-is_none, else-is_none}
use Rattle.kp_rules.proofs.places.remove_empty.Goals as goal

-- a place without a chain is taken out
pub loop-edit-preserved : goal.loop-edit-preserved
loop-edit-preserved c =
    let m = c.args.chains.now.chains in
    let old = c.loop-edit.places in
    let new = c.if-is_none.places in
    let e = c.edit-item.result in
    let rest = drop (c.loop-edit.edit-index + 1) c.args.edits.now in
    let staged = staged_left old m c.args.edits.now c.loop-edit.edit-index e c.loop-edit-test.true c.edit-item.is c.loop-edit.invariant in
    let found : contains_key m (place_of e) ≡ is_some c.get.result =
    ap (contains_key m) (sym c.place_of-at.ensures) ∙ (ap is_some (sym c.get.ensures) ∙ copied_is c.get.result) in
    elim c.if-is_none.branch [
      | then-is_none w ↦
          staged_less old new m e rest staged (found ∙ w.if-is_none.ensures) (subst (IsOrdered order.ghosts.cmp) (sym w.places-is) w.remove.ensures.ordered)
          (λ q. ap (λ s. has_place s q) w.places-is ∙ (w.remove.ensures.updates.0 q
          ∙ ap (λ k. cond (eq_by_cmp order.ghosts.cmp k q) false (has_place old q)) c.place_of-at.ensures))
      | else-is_none w ↦
          subst (λ s. AreStaged s m rest) (sym w.places-is) (staged_kept old m e rest staged (found ∙ w.if-is_none.ensures))
    ]

-- no edit is left
pub returns : goal.returns
returns c =
    let es = c.args.edits.now in
    let m = c.args.chains.now.chains in
    let past : c.loop-edit.edit-index ≡ length es = omega (arith, c.loop-edit.auto.edit-index-end, c.loop-edit-test.false) in
    staged_last c.loop-edit.places m (subst (AreStaged c.loop-edit.places m) (ap (λ n. drop n es) past ∙ drop-length es) c.loop-edit.invariant)
