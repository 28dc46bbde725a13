use Rattle.std.proofs.Common.{◌≡◌, ◌≤◌, length}
use Rattle.std.specs.FinMap.{from_entries}
use Rattle.indexmap.specs.IndexMap.{spare}
use Rattle.kp_base.specs.Keys.{port_key_cmp}
use Rattle.kp_tracker.specs.Tracked.{updated}
use Rattle.kp_vmap.proofs.keep.keep_ports.Given as goal

-- what is kept, with the changes that are left, is what all of them make
abbrev pub invariant-loop-key : goal.invariant-loop-key
invariant-loop-key l = record {
  values :
      updated port_key_cmp (from_entries l.ports.entries) l.changes.items
      ≡ updated port_key_cmp (from_entries l.fn.ports.entries) l.fn.changes.items;
  room : length l.changes.items ≤ spare l.ports;
}

abbrev pub decreases-loop-key : goal.decreases-loop-key
decreases-loop-key l = length l.changes.items
