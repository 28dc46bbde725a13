use Rattle.std.proofs.Common.{subst}
use Rattle.std.proofs.lemmas.Result.{IfOk-weaker}
use Rattle.kp_plane.specs.Invariant.{IsAtPlace, parts_of}
use Rattle.kp_plane.proofs.Synced.{at_last, same_answer}
use Rattle.kp_plane.proofs.plane.Plane.ask.Goals as goal

pub returns-then-self-covered-clause-right : goal.returns-then-self-covered-clause-right
returns-then-self-covered-clause-right g c =
    let p = parts_of c.self.inside.config c.self.inside.journal c.self.inside.history in
    let is = c.self.invariant in
    IfOk-weaker c.answer.result _ _
    (λ a. same_answer p c.args.self.now c.self.view_is c.self.inside.ports.latest.objects (at_last p c.self.inside.history c.self.inside.ports.latest is.holds.history is.holds.ports.place c.if-self-covered.true) (λ config o. g.Q.Question.is_right c.args.question.now config o a))
    c.answer.ensures

pub returns-clause-right : goal.returns-clause-right
returns-clause-right g c =
    let p = parts_of c.self.inside.config c.self.inside.journal c.self.inside.history in
    let place = subst (λ events. IsAtPlace events c.advance.new.self) c.events.ensures c.advance.ensures.place in
    IfOk-weaker c.answer-2.result _ _
    (λ a. same_answer p c.args.self.now c.self.view_is c.advance.new.self.objects (at_last p c.self.inside.history c.advance.new.self c.self.invariant.holds.history place c.in_ok-advance.ensures.ok) (λ config o. g.Q.Question.is_right c.args.question.now config o a))
    c.answer-2.ensures
