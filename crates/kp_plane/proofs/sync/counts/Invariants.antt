use Rattle.std.proofs.Common.{◌≡◌, ◌≤◌, take}
use Rattle.std.specs.Prelude.{count_by, not}
use Rattle.kp_table_defs.specs.Edits.{is_write}
use Rattle.kp_plane.proofs.sync.counts.Given as goal

-- the counts of the edits so far
abbrev pub invariant-loop-edit : goal.invariant-loop-edit
invariant-loop-edit l = record {
  written : l.written ≡ count_by is_write (take l.edit-index l.edits);
  removed : l.removed ≡ count_by (λ e. not (is_write e)) (take l.edit-index l.edits);
  few : l.written ≤ l.edit-index;
  fewer : l.removed ≤ l.edit-index;
}
