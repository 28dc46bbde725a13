-- Ports of one Service are told apart by name and protocol (Kubernetes API, ServicePort).
use Rattle.std.specs.Prelude.{ℕ, ◌&&◌, Bool, true, List, [], ◌∷◌, not, bytes_eq}
use Rattle.std.specs.List.{list_any}
use Rattle.kp_base.specs.declared.port.Proto.{Proto}
pub use Rattle.kp_base.specs.Keys.{same_proto}
use Rattle.kp_types.specs.declared.service.ServicePort.{ServicePort}

-- whether a port has this name and protocol
abbrev pub is_port : List ℕ → Proto → ServicePort → Bool
is_port name proto p = bytes_eq p.name name && same_proto p.proto proto

-- no two ports have the same name and protocol
abbrev pub distinct_ports : List ServicePort → Bool
distinct_ports [] = true
distinct_ports (p ∷ ps) = not (list_any (is_port p.name p.proto) ps) && distinct_ports ps
