use Rattle.std.proofs.lemmas.Result.{IfOk-weaker}
use Rattle.kp_plane.proofs.plane.Plane.explain.Goals as goal

pub returns-clause-decided : goal.returns-clause-decided
returns-clause-decided g c = λ drawn are.
    IfOk-weaker c.ask.result _ _ (λ d holds. holds drawn are) c.ask.ensures.right
