-- The packet fits no line of the ports so far.
use Rattle.std.proofs.Common.{◌≡◌, take, flat_map, None}
use Rattle.std.specs.List.{find}
use Rattle.kp_door_defs.specs.Doors.{fits}
use Rattle.kp_door_defs.specs.Filter.{Line}
use Rattle.kp_decide.specs.Listed.{chain_lines}
use Rattle.kp_decide.proofs.lines.first_line.Given as goal

abbrev pub invariant-loop-port : goal.invariant-loop-port
invariant-loop-port g l =
    find (λ (x : Line). fits l.config.addresses l.packet x.door)
    (flat_map (chain_lines l.chain) (take l.port (g.R.PortRow.infos l.ports))) ≡ None
