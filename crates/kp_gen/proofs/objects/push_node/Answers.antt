use Rattle.kp_gen.proofs.objects.push_node.Goals as goal

pub returns-clause-added : goal.returns-clause-added
returns-clause-added c = rw (c.format.ensures.text, c.zone.ensures) at c.push_all.ensures.added
