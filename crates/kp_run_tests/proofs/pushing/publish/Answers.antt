use Rattle.kp_run_tests.proofs.Pushes.{ready_after}
use Rattle.kp_run_tests.proofs.pushing.publish.Goals as goal

pub push_and_publish-requires-clause-ready : goal.push_and_publish-requires-clause-ready
push_and_publish-requires-clause-ready g c = ready_after g.J.Publication.start c.args.own.now c.args.publisher.now.newest c.args.next c.requires.open c.requires.stands
