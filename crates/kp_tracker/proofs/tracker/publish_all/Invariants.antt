use Rattle.std.proofs.Common.{◌≡◌, ◌≤◌, length}
use Rattle.std.specs.FinMap.{from_entries}
use Rattle.indexmap.specs.IndexMap.{spare}
use Rattle.kp_tracker.specs.Tracked.{updated}
use Rattle.kp_tracker.proofs.tracker.publish_all.Given as goal

-- what was published, with the updates that are left, is what all of them make
abbrev pub invariant-loop-key : goal.invariant-loop-key
invariant-loop-key g l = record {
  values :
      updated g.K.Key.order (from_entries l.published.entries) l.updated.entries
      ≡ updated g.K.Key.order (from_entries l.fn.published.entries) l.fn.updated.entries;
  room : length l.updated.entries ≤ spare l.published;
}

abbrev pub decreases-loop-key : goal.decreases-loop-key
decreases-loop-key g l = length l.updated.entries
