use Rattle.std.proofs.Common.{ap, ◌∙◌}
use Rattle.std.specs.FinMap as finite
use Rattle.kp_base.proofs.Maps.{lookup-get}
use Rattle.kp_tracker.specs.Tracked as spec
use Rattle.kp_tracker.proofs.tracker.Tracker.published.Goals as goal

pub returns : goal.returns
returns g c =
    c.get.ensures.value
    ∙ lookup-get g.K.Key.is_total g.met.K.Key.ties c.self.inside.published.entries c.args.key.now
    ∙ ap (λ t. finite.get (spec.published g.K.Key.order t) c.args.key.now) c.self.view_is
