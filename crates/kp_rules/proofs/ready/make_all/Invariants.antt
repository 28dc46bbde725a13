use Rattle.std.proofs.Common.{◌≡◌, ◌≤◌, map, fold, length}
use Rattle.kp_table_defs.specs.Edits.{chains_after_edit}
use Rattle.kp_rules.specs.Ready.{edit_of}
use Rattle.kp_rules.proofs.ready.make_all.Given as goal

-- the edits that are left do from here what all do from the start, and there is room for them
abbrev pub invariant-loop-edit : goal.invariant-loop-edit
invariant-loop-edit l = record {
  same : fold chains_after_edit l.chains.chains (map edit_of l.edit-iterator.rest.items) ≡ fold chains_after_edit l.fn.chains.chains (map edit_of l.fn.edits.items);
  room : length l.edit-iterator.rest.items ≤ l.chains.room;
}
