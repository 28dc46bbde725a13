use Rattle.kp_types.specs.contracts.service.ServicePartialEq.TheImpl as test
use Rattle.kp_types.specs.contracts.service.ServiceEq.TheImpl.Laws as laws
use Rattle.kp_types.proofs.ObjectEquality.{service_exact}
use Rattle.kp_store.proofs.SameObjects.{tells_same}
use Rattle.kp_store.proofs.changes.ServiceCompared.is_same.Goals as goal

pub returns : goal.returns
returns c =
    tells_same test.ghosts.eq service_exact laws.laws-law.refl c.args.self.now c.args.other.now _
    c.eq.ensures
