-- The names from here on stand in order.
use Rattle.std.proofs.Common.{◌≡◌, drop, map}
use Rattle.std.specs.Map.Iter.{deref_pair}
use Rattle.kp_base.specs.Keys.{text_cmp}
use Rattle.kp_object_defs.specs.Order.{in_order}
use Rattle.kp_packer.specs.Views.{shown}
use Rattle.kp_packer.proofs.order.set_of_names.Given as goal

abbrev pub invariant-loop-place : goal.invariant-loop-place
invariant-loop-place l =
    map deref_pair l.names.entries
    ≡ in_order text_cmp (map (λ k. (k, k)) (map (λ s. s.key.name) (shown (drop l.place l.slices))))
