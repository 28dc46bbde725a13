use Rattle.std.proofs.Common.{List, ap, sym, subst, ◌∙◌}
use Rattle.kp_walker.proofs.SetSteps.{on_err}
use Rattle.kp_publish.specs.declared.entry.Entry.{Entry}
use Rattle.kp_publish.specs.Entries.{StandsFor}
use Rattle.kp_hub.proofs.Readings.{reads_through, walk_is, way_is}
use Rattle.kp_hub.proofs.pass.WorkerPass.verdict_of.Goals as goal

pub returns-in_err-verdict-clause-reads : goal.returns-in_err-verdict-clause-reads
returns-in_err-verdict-clause-reads g c =
    reads_through c.args.self.now c.self.inside.reader c.in-Some.reader c.enter-view.result c.leave.result c.self.inside.learned c.self.inside.accepted.amount c.self.inside.refused.amount
    c.self.view_is (sym c.take.ensures.value ∙ c.in-Some.is) c.self.invariant.0
    c.enter-view.ensures.seen c.enter-view.ensures.told c.enter-view.ensures.kept c.leave.ensures.seen c.leave.ensures.told

pub returns-clause-reads : goal.returns-clause-reads
returns-clause-reads g c =
    reads_through c.args.self.now c.self.inside.reader c.in-Some.reader c.enter-view.result c.leave.result c.self.inside.learned c.self.inside.accepted.amount c.self.inside.refused.amount
    c.self.view_is (sym c.take.ensures.value ∙ c.in-Some.is) c.self.invariant.0
    c.enter-view.ensures.seen c.enter-view.ensures.told c.enter-view.ensures.kept c.leave.ensures.seen c.leave.ensures.told

pub returns-in_err-verdict-clause-refused : goal.returns-in_err-verdict-clause-refused
returns-in_err-verdict-clause-refused g c =
    on_err c.from_residual.result (way_is g.J.Publication.start g.J.Sharing.config c.snapshot.result c.leave.result.seen
    (subst (λ (s : List Entry). StandsFor g.J.Publication.start c.snapshot.result.table.now s) (sym c.leave.ensures.seen) c.snapshot.ensures.table)
    (c.snapshot.ensures.node ∙ c.self.invariant.1)
    c.args.number c.args.line.now c.args.lists.now c.verdict_of-verdict.new.lists c.in_err-verdict.ensures.refused)

pub returns-clause-lists : goal.returns-clause-lists
returns-clause-lists g c =
    c.in_ok-verdict.ensures.lists ∙ ap (λ w. w.lists) (walk_is g.J.Publication.start g.J.Sharing.config c.snapshot.result c.leave.result.seen
    (subst (λ (s : List Entry). StandsFor g.J.Publication.start c.snapshot.result.table.now s) (sym c.leave.ensures.seen) c.snapshot.ensures.table)
    (c.snapshot.ensures.node ∙ c.self.invariant.1)
    c.args.number c.args.line.now c.args.lists.now)

pub returns-clause-verdict : goal.returns-clause-verdict
returns-clause-verdict g c =
    c.in_ok-verdict.ensures.verdict ∙ ap (λ w. w.verdict) (walk_is g.J.Publication.start g.J.Sharing.config c.snapshot.result c.leave.result.seen
    (subst (λ (s : List Entry). StandsFor g.J.Publication.start c.snapshot.result.table.now s) (sym c.leave.ensures.seen) c.snapshot.ensures.table)
    (c.snapshot.ensures.node ∙ c.self.invariant.1)
    c.args.number c.args.line.now c.args.lists.now)
