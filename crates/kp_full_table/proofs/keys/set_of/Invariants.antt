use Rattle.std.proofs.Common.{◌≡◌, take, drop, length, vec_len}
use Rattle.kp_base.specs.Keys.{endpoint_cmp}
use Rattle.kp_object_defs.specs.Order.{distinct_in_order}
use Rattle.kp_full_table.proofs.keys.set_of.Given as goal

-- what was seen are the elements that were taken off the end
abbrev pub invariant-loop-endpoint : goal.invariant-loop-endpoint
invariant-loop-endpoint l = record {
  seen : l.seen.keys ≡ distinct_in_order endpoint_cmp (drop (length l.endpoints.items) l.fn.endpoints.items);
  left : l.endpoints.items ≡ take (length l.endpoints.items) l.fn.endpoints.items;
}

abbrev pub decreases-loop-endpoint : goal.decreases-loop-endpoint
decreases-loop-endpoint l = vec_len l.endpoints
