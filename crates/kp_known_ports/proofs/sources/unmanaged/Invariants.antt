-- Those so far that the controller doesn't manage were found.
use Rattle.std.proofs.Common.{◌≡◌, map, not, take}
use Rattle.std.specs.List.{filter}
use Rattle.kp_known_ports.proofs.sources.unmanaged.Given as goal

abbrev pub invariant-loop-slice : goal.invariant-loop-slice
invariant-loop-slice l =
    map (λ s. s.now) l.unmanaged.items ≡ filter (λ s. not s.managed) (map (λ s. s.now) (take l.slice-index l.slices))
