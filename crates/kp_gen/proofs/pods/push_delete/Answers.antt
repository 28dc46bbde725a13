use Rattle.kp_gen.proofs.pods.push_delete.Goals as goal

pub returns-clause-added : goal.returns-clause-added
returns-clause-added c = rw c.format.ensures.text at c.push_all.ensures.added
