use Rattle.std.proofs.Common.{ap, ◌∙◌}
use Rattle.kp_writer.specs.Next as spec
use Rattle.kp_writer.proofs.next.NextChains.join.Goals as goal

pub returns : goal.returns
returns c =
    (λ i. record { places = c.in_ok-put.ensures.places i; free = c.self.inside.free })
    ∙ ap (λ n. spec.join n c.args.at c.in_ok-of.field-0) c.self.view_is
    ∙ ap (spec.join c.args.self.now c.args.at) c.in_ok-of.ensures
