-- The slices so far are filled, and those behind them are to be filled with what is left.
use Rattle.std.proofs.Common.{◌≡◌, ◌-◌, ◌≤◌, drop, fold, length, map, take}
use Rattle.kp_object_defs.specs.Packing as spec
use Rattle.kp_packer.specs.Views.{shown, filling_of, progress_of}
use Rattle.kp_packer.proofs.fill.fill_changed.Given as goal

abbrev pub invariant-loop-fill : goal.invariant-loop-fill
invariant-loop-fill l = record {
  used : l.used ≤ length l.left;
  filled : fold (λ q f. spec.fill_if f.is_changed (l.most - length f.endpoints) q f)
      (progress_of (take l.fill-index l.fills) (shown (drop l.used l.left)))
      (map filling_of (drop l.fill-index l.fills))
      ≡ spec.fill_changed l.most (progress_of l.fn.fills (shown l.left));
}
