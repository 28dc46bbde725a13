use Rattle.std.proofs.Common.{ap, ◌∙◌}
use Rattle.std.specs.FinMap as finite
use Rattle.kp_tracker.specs.Tracked as spec
use Rattle.kp_tracker.proofs.Newest.{updated_more}
use Rattle.kp_tracker.proofs.tracker.Tracker.update.Goals as goal

pub returns-clause-newest : goal.returns-clause-newest
returns-clause-newest g c =
    let order = g.K.Key.order in
    let was = c.self.inside in
    ap (λ es. spec.updated order (finite.from_entries {R = order} es) c.insert.new.self.entries) c.reserve.ensures.entries
    ∙ updated_more g.K.Key.is_total g.K.Ord.cmp g.met.K.Key.sorts g.K.Key.is_exact (finite.from_entries was.published.entries) was.updated.entries c.insert.new.self.entries c.args.key c.args.value c.in_ok-insert.ensures.updates.0
    ∙ ap (λ t. spec.with_value order (spec.newest order t) c.args.key c.args.value) c.self.view_is
