use Rattle.std.proofs.Common.{None, Some}
use Rattle.kp_udp_endpoints.proofs.Counting.{counted}
use Rattle.kp_udp_endpoints.proofs.counts.count_in.Goals as goal

pub returns-in-Some : goal.returns-in-Some
returns-in-Some c =
    counted c.args.counts.now.entries c.args.endpoint.now (Some c.in-Some.count.now) c.in-Some.ensures.value

pub returns-in-None : goal.returns-in-None
returns-in-None c = counted c.args.counts.now.entries c.args.endpoint.now None c.in-None.ensures.value
