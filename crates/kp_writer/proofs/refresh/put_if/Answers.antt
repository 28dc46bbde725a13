use Rattle.std.proofs.Common.{cond, sym, ap, ◌∙◌}
use Rattle.std.specs.FinMap as finite
use Rattle.std.proofs.lemmas.Result.{on_ok_weaker}
use Rattle.kp_base.proofs.KeyOrder.{key_ties}
use Rattle.kp_writer.specs.Written.{with_newest}
use Rattle.kp_writer.proofs.refresh.put_if.Goals as goal

-- a port of the Service is put
pub returns-then-eq-clause-ok : goal.returns-then-eq-clause-ok
returns-then-eq-clause-ok g c =
    let w = c.args.writer.now in
    let key = c.args.info.key in
    on_ok_weaker c.put.result (λ put.
    put
    ∙ sym (ap (λ b. with_newest w (cond b (finite.insert w.newest key c.args.info) w.newest))
    (sym (key_ties c.args.service.now key.object) ∙ sym c.eq.ensures ∙ c.if-eq.true)))
    c.put.ensures.ok

-- and another is passed over
pub returns-else-eq-clause-ok : goal.returns-else-eq-clause-ok
returns-else-eq-clause-ok g c =
    let w = c.args.writer.now in
    let key = c.args.info.key in
    sym (ap (λ b. with_newest w (cond b (finite.insert w.newest key c.args.info) w.newest))
    (sym (key_ties c.args.service.now key.object) ∙ sym c.eq.ensures ∙ c.if-eq.false))
