-- The slices so far stand by their names.
use Rattle.std.proofs.Common.{◌≡◌}
use Rattle.kp_base.specs.Keys.{text_cmp}
use Rattle.kp_object_defs.specs.Order.{by_key}
use Rattle.kp_packer.proofs.order.add_slices.Given as goal

abbrev pub invariant-loop-slice : goal.invariant-loop-slice
invariant-loop-slice l = l.by_name.entries ≡ by_key text_cmp (λ s. s.key.name) l.yielded
