use Rattle.std.proofs.Common.{ℕ, List, ◌++◌, ap, sym, subst, length, string_bytes, ◌∙◌}
use Rattle.kp_walker.proofs.SetSteps.{on_err}
use Rattle.kp_publish.specs.declared.entry.Entry.{Entry}
use Rattle.kp_publish.specs.Entries.{StandsFor, records_of}
use Rattle.kp_hub.proofs.Readings.{reads_through, walk_is, answer_is, partly_is}
use Rattle.kp_hub.proofs.pass.WorkerPass.answer.Goals as goal

pub returns-in_err-answered-clause-reads : goal.returns-in_err-answered-clause-reads
returns-in_err-answered-clause-reads g c =
    reads_through c.args.self.now c.self.inside.reader c.in-Some.reader c.enter-view.result c.leave.result c.self.inside.learned c.self.inside.accepted.amount c.self.inside.refused.amount
    c.self.view_is (sym c.take.ensures.value ∙ c.in-Some.is) c.self.invariant.0
    c.enter-view.ensures.seen c.enter-view.ensures.told c.enter-view.ensures.kept c.leave.ensures.seen c.leave.ensures.told

pub returns-clause-reads : goal.returns-clause-reads
returns-clause-reads g c =
    reads_through c.args.self.now c.self.inside.reader c.in-Some.reader c.enter-view.result c.leave.result c.self.inside.learned c.self.inside.accepted.amount c.self.inside.refused.amount
    c.self.view_is (sym c.take.ensures.value ∙ c.in-Some.is) c.self.invariant.0
    c.enter-view.ensures.seen c.enter-view.ensures.told c.enter-view.ensures.kept c.leave.ensures.seen c.leave.ensures.told

pub returns-in_err-answered-clause-refused : goal.returns-in_err-answered-clause-refused
returns-in_err-answered-clause-refused g c =
    on_err c.from_residual.result (partly_is g.J.Publication.start g.J.Sharing.config c.snapshot.result c.leave.result.seen
    (subst (λ (s : List Entry). StandsFor g.J.Publication.start c.snapshot.result.table.now s) (sym c.leave.ensures.seen) c.snapshot.ensures.table)
    (c.snapshot.ensures.node ∙ c.self.invariant.1)
    c.args.number c.args.line.now c.args.lists.now c.answer-answered.new.lists c.in_err-answered.ensures.refused)

pub returns-clause-lists : goal.returns-clause-lists
returns-clause-lists g c =
    c.in_ok-answered.ensures.lists ∙ ap (λ w. w.lists) (walk_is g.J.Publication.start g.J.Sharing.config c.snapshot.result c.leave.result.seen
    (subst (λ (s : List Entry). StandsFor g.J.Publication.start c.snapshot.result.table.now s) (sym c.leave.ensures.seen) c.snapshot.ensures.table)
    (c.snapshot.ensures.node ∙ c.self.invariant.1)
    c.args.number c.args.line.now c.args.lists.now)

pub returns-clause-text : goal.returns-clause-text
returns-clause-text g c =
    c.in_ok-answered.ensures.text ∙ ap (λ (t : List ℕ). string_bytes c.args.text.now ++ t) (answer_is g.J.Publication.start g.J.Sharing.config c.snapshot.result c.leave.result.seen
    (subst (λ (s : List Entry). StandsFor g.J.Publication.start c.snapshot.result.table.now s) (sym c.leave.ensures.seen) c.snapshot.ensures.table)
    (c.snapshot.ensures.node ∙ c.self.invariant.1)
    (c.snapshot.ensures.sync ∙ ap (λ (s : List Entry). length (records_of s)) (sym c.leave.ensures.seen))
    c.args.number c.args.line.now c.args.lists.now)
