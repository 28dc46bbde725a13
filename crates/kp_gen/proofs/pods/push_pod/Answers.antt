use Rattle.kp_gen.proofs.pods.push_pod.Goals as goal

pub returns-clause-added : goal.returns-clause-added
returns-clause-added c = rw (c.word.ensures, c.word-2.ensures, c.word-3.ensures) at c.push_placed_pod.ensures.added
