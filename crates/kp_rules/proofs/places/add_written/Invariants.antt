use Rattle.std.proofs.Common.{drop}
use Rattle.kp_table_defs.specs.Rebuild.{Chains}
use Rattle.kp_rules.specs.Placed.{ArePlaces, AreStaged, HaveWritten}
use Rattle.kp_rules.proofs.places.add_written.Given as goal

-- the places that edits from here on write are there
abbrev pub invariant-loop-i : goal.invariant-loop-i
invariant-loop-i l = record {
  staged : (chains : Chains) → ArePlaces l.fn.places chains → AreStaged l.places chains l.edits;
  written : HaveWritten l.places (drop l.i l.edits);
}
