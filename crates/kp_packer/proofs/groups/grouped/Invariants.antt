-- The values so far are in the lists of their groups.
use Rattle.std.proofs.Common.{◌≡◌, map, take}
use Rattle.std.specs.List.{filter}
use Rattle.kp_object_defs.specs.Packing.{is_in_group}
use Rattle.kp_packer.specs.Views.{shown}
use Rattle.kp_packer.proofs.groups.grouped.Given as goal

abbrev pub invariant-loop-value : goal.invariant-loop-value
invariant-loop-value g l =
    map (λ v. shown v.items) l.lists.items
    ≡ map (λ k. filter (λ x. is_in_group k.items (g.T.HasPorts.ports_of x)) (shown (take l.value-index l.all))) l.groups.keys
