use Rattle.kp_links.specs.Rings.{IsReached}
use Rattle.kp_links.proofs.links.Links.find.Given as goal

abbrev pub invariant-loop-turn : goal.invariant-loop-turn
invariant-loop-turn g l =
    IsReached l.self-inside.links.items l.self-inside.owners.items l.self-inside.heads l.list (g.T.Test.test l.test) l.at l._turn
