use Rattle.std.proofs.Common.{◌+◌, ◌<◌, ◌^◌, rules, arith, sym, ◌∙◌}
use Rattle.std.proofs.lemmas.Bool.Decides.{nat_tests}
use Rattle.kp_run_tests.proofs.Pushes.{stands_after}
use Rattle.kp_run_tests.proofs.pushing.push.Goals as goal

-- the table after the record is the publisher's newest one
pub publish-requires-clause-stands : goal.publish-requires-clause-stands
publish-requires-clause-stands g c =
    let room : c.args.own.now.syncs + 1 < 2 ^ 64 = first_of (search rules, grind (arith, nat_tests), omega arith) in
    stands_after g.J.Publication.start c.args.own.now c.apply.new.self c.args.publisher.now.newest
    (record { sync = c.in-Some.sync; events = 1; batch = c.in_ok-batch.batch }) c.requires
    c.in_ok-apply.ensures.ok (sym c.can_walk.ensures ∙ c.if-not-can_walk.false) room
