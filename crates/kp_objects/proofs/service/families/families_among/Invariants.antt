use Rattle.std.proofs.Common.{◌≡◌, map, take}
use Rattle.kp_objects.proofs.service.families.families_among.Given as goal

-- the families of the addresses so far
abbrev pub invariant-loop-address : goal.invariant-loop-address
invariant-loop-address l = l.families.items ≡ map (λ a. a.family) (take l.address-index l.addresses)
