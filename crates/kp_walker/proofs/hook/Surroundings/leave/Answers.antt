use Rattle.kp_walker.proofs.hook.Surroundings.leave.Goals as goal

-- the packet leaves the node
pub returns-then-leaving-clause-hook : goal.returns-then-leaving-clause-hook
returns-then-leaving-clause-hook g c = rw (c.if-leaving.true, ← c.new-hook.ensures) c.through.ensures.hook

pub returns-then-leaving-clause-refused : goal.returns-then-leaving-clause-refused
returns-then-leaving-clause-refused g c = rw (c.if-leaving.true, ← c.new-hook.ensures) c.through.ensures.refused
