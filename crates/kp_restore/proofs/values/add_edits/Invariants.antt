use Rattle.std.proofs.Common.{◌≡◌, ◌++◌, length}
use Rattle.std.specs.List.{flat_map}
use Rattle.kp_restore.specs.Steps as spec
use Rattle.kp_restore.proofs.values.add_edits.Given as goal

abbrev pub invariant-loop-row : goal.invariant-loop-row
invariant-loop-row l = record {
  writes :
      l.edits.items ++ flat_map (spec.written l.table) l.left
      ≡ l.fn.edits.items ++ flat_map (spec.written l.fn.table) l.fn.left;
  removes : l.removes.items ++ flat_map (spec.removed l.table) l.left ≡ flat_map (spec.removed l.fn.table) l.fn.left;
}

abbrev pub decreases-loop-row : goal.decreases-loop-row
decreases-loop-row l = length l.left
