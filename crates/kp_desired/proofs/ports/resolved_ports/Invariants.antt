-- The ports so far that the pod resolves were found.
use Rattle.std.proofs.Common.{◌≡◌, take}
use Rattle.std.specs.List.{filter_map}
use Rattle.kp_desired.specs.Numbers.{named, resolved_in}
use Rattle.kp_desired.proofs.ports.resolved_ports.Given as goal

abbrev pub invariant-loop-port : goal.invariant-loop-port
invariant-loop-port l =
    l.found.items ≡ filter_map (resolved_in (named l.numbers.entries)) (take l.port-index l.port-items)
