use Rattle.std.proofs.Common.{◌≡◌, ◌∙◌, true, cond, sym, ap, subst, ◌&&◌, ◌<◌, ◌≤◌, ◌-◌, length, arith}
use Rattle.std.proofs.Math.Seq.{drop-length}
use Rattle.std.specs.Ordering.{eq_by_cmp}
use Rattle.std.proofs.lemmas.Bool.{false≢true}
use Rattle.kp_types.specs.declared.chain.ChainAt.{ChainAt}
use Rattle.kp_types.specs.contracts.chain.ChainAtOrd.TheImpl as order
use Rattle.kp_table_defs.specs.Edits.{is_write}
use Rattle.kp_rules.specs.Placed.{has_place, is_at, is_written, AreStaged}
use Rattle.kp_rules.proofs.Placing.{staged_first, staged_more, written_before, kept, there}
use Rattle.kp_rules.proofs.places.add_written.Goals as goal

pub loop-i-init : goal.loop-i-init
loop-i-init c = record {
  staged = λ chains same. staged_first c.args.places.now chains c.args.edits.now same;
  written = λ q h.
      absurd (false≢true (ap (λ xs. is_written xs q) (sym (drop-length c.args.edits.now)) ∙ h));
}

-- without memory the places stay
pub returns-in_err-insert-clause-staged : goal.returns-in_err-insert-clause-staged
returns-in_err-insert-clause-staged c chains same =
    let stay = sym (ap (λ ks. record { keys = ks }) c.in_err-insert.ensures.err) in
    subst (λ s. AreStaged s chains c.args.edits.now) stay (c.loop-i.invariant.staged chains same)

-- a place that is written is put in
pub loop-i-preserved-in_ok-insert : goal.loop-i-preserved-in_ok-insert
loop-i-preserved-in_ok-insert c =
    let es = c.args.edits.now in
    let old = c.loop-i.places in
    let new = c.insert.new.self in
    let i = c.loop-i.i in
    let e = c.index-edits-i.result in
    let some : 0 < i = omega arith in
    let within : i ≤ length es = omega arith in
    let inside : i - 1 < length es = omega arith in
    let is = c.index-edits-i.is in
    let put : (q : ChainAt) → has_place new q ≡ cond (is_at q e) true (has_place old q) =
    λ q. c.in_ok-insert.ensures.updates.0 q
    ∙ (ap (λ k. cond (eq_by_cmp order.ghosts.cmp k q) true (has_place old q)) c.same.ensures
    ∙ ap (λ x. cond (is_at q x) true (has_place old q)) (sym c.in-Write.is)) in record {
      staged = λ chains same.
          staged_more old new chains es (i - 1) e inside is c.in_ok-insert.ensures.ordered put
          (c.loop-i.invariant.staged chains same);
      written = written_before old new es i e some within is
          (λ q h. put q ∙ kept (is_at q e) _ h)
          (λ q h. put q ∙ there (is_at q e) _ (ap (is_at q) c.in-Write.is
          ∙ (sym (ap (λ x. is_write x && is_at q x) c.in-Write.is) ∙ h)))
          c.loop-i.invariant.written;
    }

pub loop-i-preserved : goal.loop-i-preserved
loop-i-preserved c =
    let old = c.loop-i.places in
    let some : 0 < c.loop-i.i = omega arith in
    let within : c.loop-i.i ≤ length c.args.edits.now = omega arith in record {
      staged = c.loop-i.invariant.staged;
      written = written_before old old c.args.edits.now c.loop-i.i c.index-edits-i.result some within
          c.index-edits-i.is (λ q h. h)
          (λ q h. absurd (false≢true (ap (λ x. is_write x && is_at q x) (sym c.in_default.is) ∙ h)))
          c.loop-i.invariant.written;
    }
