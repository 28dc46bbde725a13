-- The slices so far stand by their names.
use Rattle.std.proofs.Common.{◌≡◌, take, map}
use Rattle.std.specs.Map.Iter.{deref_pair}
use Rattle.kp_base.specs.Keys.{text_cmp}
use Rattle.kp_object_defs.specs.Order.{by_key}
use Rattle.kp_packer.proofs.order.slices_in_order.Given as goal

abbrev pub invariant-loop-slice : goal.invariant-loop-slice
invariant-loop-slice l = map deref_pair l.by_name.entries ≡ by_key text_cmp (λ s. s.key.name) (take l.slice-index l.slices)
