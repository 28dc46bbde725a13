-- What is left at the places so far.
use Rattle.std.proofs.Common.{◌≡◌, take}
use Rattle.kp_packer.specs.Views.{shown, left_in}
use Rattle.kp_packer.proofs.left.Left.rest.Given as goal

abbrev pub invariant-loop-place : goal.invariant-loop-place
invariant-loop-place l = shown l.rest.items ≡ left_in (take l.place-index l.place-items)
