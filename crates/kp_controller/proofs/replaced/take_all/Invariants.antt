-- The slices of the keys so far were taken out.
use Rattle.std.proofs.Common.{◌≡◌, take}
use Rattle.kp_controller.specs.Replaced.{without_keys}
use Rattle.kp_controller.proofs.replaced.take_all.Given as goal

abbrev pub invariant-loop-key : goal.invariant-loop-key
invariant-loop-key l = l.slices ≡ without_keys (take l.key-index l.keys) l.fn.slices
