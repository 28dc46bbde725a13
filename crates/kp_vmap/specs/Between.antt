-- A port that is found among objects, with its Service.
use Rattle.std.specs.Prelude.{Option, option_and_then, option_map}
use Rattle.std.specs.FinMap as finite
use Rattle.kp_base.specs.declared.key.PortKey.{PortKey}
use Rattle.kp_types.specs.declared.service.Service.{Service}
use Rattle.kp_types.specs.declared.service.ServicePort.{ServicePort}
use Rattle.kp_object_defs.specs.Objects.{Objects}
use Rattle.kp_object_defs.specs.PortByKey.{port_named}

-- the port of this name, if a Service has it
abbrev pub found_port : Objects → PortKey → Option (Service × ServicePort)
found_port o key =
    option_and_then (λ s. option_map (λ p. (s, p)) (port_named key s))
    (finite.get o.services key.object)
