use Rattle.std.proofs.Common.{subst}
use mathlib.Core.List.{IsPrefix}
use Rattle.kp_hub.specs.Known.{Worker}
use Rattle.kp_hub.proofs.Endings.{learned_in_told}
use Rattle.kp_hub.proofs.pass.WorkerPass.knows_its_front.Goals as goal

pub returns : goal.returns
returns g c =
    subst (λ (w : Worker). IsPrefix w.learned w.told) c.self.view_is
    (learned_in_told c.self.inside.reader c.self.inside.learned c.self.inside.accepted.amount c.self.inside.refused.amount c.self.invariant.0)
