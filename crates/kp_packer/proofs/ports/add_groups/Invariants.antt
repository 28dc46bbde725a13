-- The groups of the endpoints so far.
use Rattle.std.proofs.Common.{◌≡◌, map, take}
use Rattle.kp_object_defs.specs.Packing as spec
use Rattle.kp_packer.proofs.ports.add_groups.Given as goal

abbrev pub invariant-loop-endpoint : goal.invariant-loop-endpoint
invariant-loop-endpoint l = map (λ g. g.items) l.groups.keys ≡ spec.groups_of (take l.endpoint-index l.wanted)
