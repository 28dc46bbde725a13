use Rattle.std.proofs.Common.{sym, ap, ◌∙◌}
use Rattle.std.specs.FinMap as finite
use Rattle.kp_base.proofs.Maps.{inserted, removed}
use Rattle.kp_tracker.specs.Tracked as spec
use Rattle.kp_tracker.proofs.Answered.{answered}
use Rattle.kp_tracker.proofs.tracker.publish.Goals as goal

pub returns-in-None-clause-value : goal.returns-in-None-clause-value
returns-in-None-clause-value g c =
    removed g.K.Key.is_total g.met.K.Key.ties g.K.Key.is_exact c.args.published.now.entries c.swap_remove.new.self.entries c.args.key c.swap_remove.ensures.updates.0
    ∙ ap (spec.with_value g.K.Key.order (finite.from_entries c.args.published.now.entries) c.args.key) (sym c.in-None.is)

pub returns-in-Some-clause-value : goal.returns-in-Some-clause-value
returns-in-Some-clause-value g c =
    inserted g.K.Key.is_total g.met.K.Key.ties g.K.Key.is_exact c.args.published.now.entries c.insert.new.self.entries c.args.key c.in-Some.value (answered _ c.insert.result c.insert.ensures.updates (c.insert.ensures.succeeds c.requires)).0
    ∙ ap (spec.with_value g.K.Key.order (finite.from_entries c.args.published.now.entries) c.args.key) (sym c.in-Some.is)
