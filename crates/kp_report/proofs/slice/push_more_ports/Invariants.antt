use Rattle.std.proofs.Common.{◌≡◌, ◌++◌, take, string_bytes}
use Rattle.std.specs.List.{flat_map}
use Rattle.kp_text_defs.specs.Slices.{next_port_text}
use Rattle.kp_report.proofs.slice.push_more_ports.Given as goal

-- the ports so far are added
abbrev pub invariant-loop-port : goal.invariant-loop-port
invariant-loop-port l = string_bytes l.text ≡ string_bytes l.initial.text ++ flat_map next_port_text (take l.port-index l.ports)
