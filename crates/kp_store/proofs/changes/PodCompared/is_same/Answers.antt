use Rattle.kp_types.specs.contracts.pod.PodPartialEq.TheImpl as test
use Rattle.kp_types.specs.contracts.pod.PodEq.TheImpl.Laws as laws
use Rattle.kp_store.proofs.SameObjects.{pod_exact, tells_same}
use Rattle.kp_store.proofs.changes.PodCompared.is_same.Goals as goal

pub returns : goal.returns
returns c =
    tells_same test.ghosts.eq pod_exact laws.laws-law.refl c.args.self.now c.args.other.now _
    c.eq.ensures
