use Rattle.kp_publish.specs.Entries.{StandsFor}
use Rattle.kp_run_tests.proofs.reading.push_all.Given as goal

abbrev pub invariant-loop-turn : goal.invariant-loop-turn
invariant-loop-turn g l = StandsFor g.J.Publication.start l.own l.publisher.newest
