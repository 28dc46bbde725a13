use Rattle.std.proofs.Common.{◌≡◌, ◌+◌, ◌++◌, drop, string_bytes}
use Rattle.kp_text_defs.specs.Slices.{entries_text}
use Rattle.kp_print.specs.Fronts.{HasFront}
use Rattle.kp_report.proofs.entry.push_slice_entries.Given as goal

-- the lines so far, and those that are left, are all
abbrev pub invariant-loop-entry : goal.invariant-loop-entry
invariant-loop-entry l = record {
  place : l.place ≡ l.entry-index;
  text : string_bytes l.text ++ entries_text l.slice.key (l.place + 1) (drop l.entry-index l.entry-items)
      ≡ string_bytes l.fn.text ++ entries_text l.slice.key 1 l.slice.endpoints;
  front : HasFront l.text l.fn.text;
}
