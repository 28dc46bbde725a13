use Rattle.kp_types.specs.contracts.pod.NodePartialEq.TheImpl as test
use Rattle.kp_types.specs.contracts.pod.NodeEq.TheImpl.Laws as laws
use Rattle.kp_store.proofs.SameObjects.{node_exact, tells_same}
use Rattle.kp_store.proofs.changes.NodeCompared.is_same.Goals as goal

pub returns : goal.returns
returns c =
    tells_same test.ghosts.eq node_exact laws.laws-law.refl c.args.self.now c.args.other.now _
    c.eq.ensures
