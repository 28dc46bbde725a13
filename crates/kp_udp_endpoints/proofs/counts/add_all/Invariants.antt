use Rattle.std.proofs.Common.{◌≡◌, ◌≤◌, ◌+◌, take, length}
use Rattle.std.specs.FinMap.{from_entries}
use Rattle.indexmap.specs.IndexMap.{spare}
use Rattle.kp_udp_endpoints.specs.Counts.{with_new}
use Rattle.kp_udp_endpoints.proofs.counts.add_all.Given as goal

-- the endpoints so far are counted, and there is room for the others
abbrev pub invariant-loop-endpoint : goal.invariant-loop-endpoint
invariant-loop-endpoint l = record {
  counts :
      from_entries l.counts.entries
      ≡ with_new (take l.endpoint-index l.endpoints) (from_entries l.initial.counts.entries);
  room : length l.endpoints ≤ spare l.counts + l.endpoint-index;
}
