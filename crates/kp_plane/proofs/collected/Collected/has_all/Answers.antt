use Rattle.std.proofs.Common.{◌||◌, ap, ◌∙◌}
use Rattle.kp_plane.proofs.Collecting.{has_all}
use Rattle.kp_plane.proofs.collected.Collected.has_all.Goals as goal

pub returns-then-self : goal.returns-then-self
returns-then-self c = λ is.
    has_all c.args.self.now (ap (λ b. b || c.args.self.now.last.all) c.if-self.true)

pub returns-else-self : goal.returns-else-self
returns-else-self c = λ is.
    has_all c.args.self.now (ap (λ b. b || c.args.self.now.last.all) c.if-self.false ∙ is)
