-- The terms so far are among the labels.
use Rattle.std.proofs.Common.{◌≡◌, ◌≤◌, true, take, length}
use Rattle.std.specs.List.{list_all, list_any}
use Rattle.kp_desired.specs.Labels.{is_label}
use Rattle.kp_desired.proofs.selection.has_labels.Given as goal

abbrev pub invariant-loop-term : goal.invariant-loop-term
invariant-loop-term l = record {
  found : list_all (λ t. list_any (is_label t) l.labels) (take l.term-index l.terms) ≡ true;
  start : l.start ≤ length l.labels;
}
