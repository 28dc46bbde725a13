use Rattle.std.proofs.Common.{◌+◌, ap, ◌∙◌}
use Rattle.std.specs.FinMap.{from_entries, insert}
use Rattle.kp_base.proofs.KeyOrder.{endpoint_exact, endpoint_ties, endpoint_total}
use Rattle.kp_base.proofs.Maps.{inserted}
use Rattle.kp_udp_endpoints.proofs.Counting.{since_ok}
use Rattle.kp_udp_endpoints.proofs.counts.add.Goals as goal

pub returns-clause-counts : goal.returns-clause-counts
returns-clause-counts c =
    inserted endpoint_total endpoint_ties endpoint_exact c.args.counts.now.entries
    c.insert.new.self.entries c.args.endpoint.now _
    (since_ok _ c.insert.result c.insert.ensures.updates (c.insert.ensures.succeeds c.requires.room)).0
    ∙ ap (λ n. insert (from_entries c.args.counts.now.entries) c.args.endpoint.now (n + 1))
    c.count_in-count.ensures
