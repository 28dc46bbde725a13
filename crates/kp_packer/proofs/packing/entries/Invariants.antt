-- The entries so far were copied.
use Rattle.std.proofs.Common.{◌≡◌, take}
use Rattle.kp_packer.specs.Views.{shown}
use Rattle.kp_packer.proofs.packing.entries.Given as goal

abbrev pub invariant-loop-entry : goal.invariant-loop-entry
invariant-loop-entry l = l.copies.items ≡ shown (take l.entry-index l.entries)
