-- The names so far were copied.
use Rattle.std.proofs.Common.{◌≡◌, take}
use Rattle.kp_packer.specs.Views.{shown}
use Rattle.kp_packer.proofs.order.names_in_order.Given as goal

abbrev pub invariant-loop-name : goal.invariant-loop-name
invariant-loop-name l = l.names.items ≡ shown (take l.name-index l.name-items)
