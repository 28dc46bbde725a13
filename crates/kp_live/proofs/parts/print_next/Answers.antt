use Rattle.std.proofs.Common.{false, refl, subst, Some}
use Rattle.kp_text_defs.specs.Printed.{packet_text}
use Rattle.kp_live.specs.Told.{Decides, IsAnswer}
use Rattle.kp_live.proofs.Lines.{told_prints}
use Rattle.kp_live.proofs.parts.print_next.Goals as goal

-- a decision is printed
pub returns-in-Some-Decision-clause-next : goal.returns-in-Some-Decision-clause-next
returns-in-Some-Decision-clause-next g c = λ t rest holds.
    let next = c.in-Some-Decision.ensures.some t rest holds in
    let sync = c.in-Some-Decision.sync in
    let verdict = c.in-Some-Decision.verdict in
    let printed =
    told_prints c.args.refusals.now c.args.number t (Decides sync verdict) false
    c.said-in-Some-Decision.result c.print_verdict.result (packet_text c.args.number sync verdict)
    (g.K.Sink.output c.args.sink.now) (g.K.Sink.output c.print_verdict.new.sink)
    (subst (λ a. IsAnswer (Some a) t) c.in-Some-Decision.field-0-is next.1) refl refl
    c.said-in-Some-Decision.ensures c.print_verdict.ensures in
    (next.0, printed.0, printed.1)
