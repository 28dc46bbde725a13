-- The numbers of the ports so far stand by their names.
use Rattle.std.proofs.Common.{◌≡◌, ℕ, List, take}
use Rattle.std.specs.FinMap.{find}
use Rattle.kp_base.specs.declared.port.Proto.{Proto}
use Rattle.kp_desired.specs.Numbers.{port_name_cmp, named, number_among}
use Rattle.kp_desired.proofs.ports.numbers_by_name.Given as goal

abbrev pub invariant-loop-port : goal.invariant-loop-port
invariant-loop-port l =
    (name : List ℕ × Proto) → find port_name_cmp name (named l.numbers.entries) ≡ number_among (take l.port-index l.ports) name
