-- The numbers of a pod's container ports in a sorted map by their names and protocols.
use Rattle.std.specs.Prelude.{ℕ, ◌&&◌, Bool, List, map, cond, bytes_eq, is_some, Option, Some, option_map}
use Rattle.std.specs.List as list
use Rattle.std.specs.Ordering.{nat_cmp, ordering_then}
use Rattle.std.specs.declared.cmp.Ordering.{Ordering}
use Rattle.std.specs.FinMap.{find, put}
use Rattle.std.specs.Borrow.{Bor}
use Rattle.kp_base.specs.Keys.{text_cmp, proto_place}
use Rattle.kp_base.specs.declared.port.Proto.{Proto}
use Rattle.kp_types.specs.Ports.{same_proto}
use Rattle.kp_types.specs.declared.pod.ContainerPort.{ContainerPort}
use Rattle.kp_types.specs.declared.service.ServicePort.{ServicePort}
use Rattle.kp_types.specs.declared.service.TargetPort.{TargetPort}
use Rattle.kp_types.specs.declared.service.TargetPort.TheVariants.{Number, Named}
use Rattle.kp_types.specs.declared.slice.SlicePort.{SlicePort}

-- by name, and then by protocol
abbrev pub port_name_cmp : List ℕ × Proto → List ℕ × Proto → Ordering
port_name_cmp a b = ordering_then (text_cmp a.0 b.0) (nat_cmp (proto_place a.1) (proto_place b.1))

-- the entries of a map by names that it refers to
abbrev pub named : List ((Bor (List ℕ) × Proto) × ℕ) → List ((List ℕ × Proto) × ℕ)
named entries = map (λ e. ((e.0.0.now, e.0.1), e.1)) entries

-- a container port has this name and protocol
abbrev pub is_named : List ℕ × Proto → ContainerPort → Bool
is_named name port = bytes_eq port.name name.0 && same_proto port.proto name.1

-- the number of the first container port of a name and protocol
abbrev pub number_among : List ContainerPort → List ℕ × Proto → Option ℕ
number_among ports name = option_map (λ c. c.port) (list.find (is_named name) ports)

-- the numbers with that of a port, where there is none of its name and protocol
abbrev pub with_number : List ((List ℕ × Proto) × ℕ) → ContainerPort → List ((List ℕ × Proto) × ℕ)
with_number numbers port =
    cond (is_some (find port_name_cmp (port.name, port.proto) numbers)) numbers
    (put port_name_cmp (port.name, port.proto) port.port numbers)

-- the number of a target, by the numbers of container ports
abbrev pub target_in : List ((List ℕ × Proto) × ℕ) → Proto → TargetPort → Option ℕ
target_in numbers proto (Number n) = Some n
target_in numbers proto (Named name) = find port_name_cmp (name, proto) numbers

-- a Service port, by the numbers of container ports
abbrev pub resolved_in : List ((List ℕ × Proto) × ℕ) → ServicePort → Option SlicePort
resolved_in numbers p =
    option_map (λ n. record { name = p.name; proto = p.proto; port = Some n }) (target_in numbers p.proto p.target)
