use Rattle.std.proofs.Common.{◌≡◌, ◌≤◌, ◌+◌, ◌++◌, length, take, drop, vec_capacity, vec_len}
use Rattle.std.specs.FinMap.{from_entries}
use Rattle.kp_udp_endpoints.specs.Counts.{fallen_of, without_gone}
use Rattle.kp_udp_endpoints.proofs.counts.take_all.Given as goal

-- the endpoints so far are taken, and there is room for those that are left
abbrev pub invariant-loop-endpoint : goal.invariant-loop-endpoint
invariant-loop-endpoint l = record {
  counts :
      from_entries l.counts.entries
      ≡ without_gone (take l.endpoint-index l.endpoints) (from_entries l.initial.counts.entries);
  fallen :
      l.fallen.items ++ fallen_of (drop l.endpoint-index l.endpoints) (from_entries l.counts.entries)
      ≡ l.initial.fallen.items ++ fallen_of l.endpoints (from_entries l.initial.counts.entries);
  room : vec_len l.fallen + length l.endpoints ≤ vec_capacity l.fallen + l.endpoint-index;
}
