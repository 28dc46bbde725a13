use Rattle.std.proofs.Common.{ap, ◌∙◌, arith}
use Rattle.std.specs.FinMap.{from_entries}
use Rattle.kp_udp_endpoints.specs.Counts.{with_new, without_gone}
use Rattle.kp_udp_endpoints.proofs.Counting.{still_sound}
use Rattle.kp_udp_endpoints.proofs.counts.EndpointCounts.change.Goals as goal

pub invariant_of-self-2 : goal.invariant_of-self-2
invariant_of-self-2 c =
    still_sound c.args.came.now c.args.went.now (from_entries c.self.inside.counts.entries)
    (from_entries c.take_all.new.counts.entries) c.self.inside.added c.in-Some.added
    (c.take_all.ensures.counts
    ∙ ap (without_gone c.args.went.now)
    (c.add_all.ensures
    ∙ ap (λ es. with_new c.args.came.now (from_entries es)) c.in_ok-reserve.ensures.entries))
    c.self.invariant
    (omega (arith, c.in-Some.ensures.1))

pub returns-clause-none : goal.returns-clause-none
returns-clause-none c =
    (still_sound c.args.came.now c.args.went.now (from_entries c.self.inside.counts.entries)
    (from_entries c.take_all.new.counts.entries) c.self.inside.added c.in-Some.added
    (c.take_all.ensures.counts
    ∙ ap (without_gone c.args.went.now)
    (c.add_all.ensures
    ∙ ap (λ es. with_new c.args.came.now (from_entries es)) c.in_ok-reserve.ensures.entries))
    c.self.invariant
    (omega (arith, c.in-Some.ensures.1))).none
