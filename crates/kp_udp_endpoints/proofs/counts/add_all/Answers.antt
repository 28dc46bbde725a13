use Rattle.std.proofs.Common.{◌^◌, arith}
use Rattle.std.specs.FinMap.{from_entries}
use Rattle.kp_udp_endpoints.proofs.Counting.{one_fits}
use Rattle.kp_udp_endpoints.proofs.counts.add_all.Goals as goal

pub add-requires-clause-low : goal.add-requires-clause-low
add-requires-clause-low c =
    one_fits c.args.endpoints.now c.loop-endpoint.endpoint-index (from_entries c.args.counts.now.entries)
    (from_entries c.loop-endpoint.counts.entries) (2 ^ 64) _ c.loop-endpoint.invariant.counts (omega arith) c.requires.low
