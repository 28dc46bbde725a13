use Rattle.std.proofs.Common.{ap, ◌∙◌}
use Rattle.kp_writer.specs.Next as spec
use Rattle.kp_writer.proofs.next.NextChains.leave.Goals as goal

pub returns : goal.returns
returns c =
    (λ i. record { places = c.in_ok-put.ensures.places i; free = c.self.inside.free })
    ∙ ap (λ n. spec.leave n c.args.at) c.self.view_is
