-- The keys of the slices so far, and what the rest of the others have no more of than all.
use Rattle.std.proofs.Common.{◌≡◌, false, take}
use Rattle.kp_base.specs.declared.key.ObjectKey.{ObjectKey}
use Rattle.kp_controller.specs.Replaced.{AreGone, has_key}
use Rattle.kp_controller.proofs.replaced.keys_gone.Given as goal

abbrev pub invariant-loop-slice : goal.invariant-loop-slice
invariant-loop-slice l = record {
  gone : AreGone (take l.slice-index l.before) l.after l.gone.items;
  rest : (key : ObjectKey) → has_key l.after key ≡ false → has_key l.rest key ≡ false;
}
