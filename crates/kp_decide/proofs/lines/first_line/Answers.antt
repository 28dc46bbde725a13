use Rattle.std.proofs.Common.{◌+◌, arith, sym, ◌∙◌}
use Rattle.kp_door_defs.specs.Doors.{fits}
use Rattle.kp_door_defs.specs.Filter.{Line}
use Rattle.kp_decide.specs.Listed.{chain_lines}
use Rattle.kp_decide.proofs.FoundSoFar.{found_here, none_more}
use Rattle.kp_decide.proofs.lines.first_line.Goals as goal

-- the packet fits a line of the port
pub returns-in-Some : goal.returns-in-Some
returns-in-Some g c =
    sym (found_here (λ (l : Line). fits c.args.config.now.addresses c.args.packet.now l.door) (chain_lines c.args.chain) (g.R.PortRow.infos c.args.ports.now) c.loop-port.port c.info.result.now c.in-Some.line c.info.ensures c.loop-port.invariant (sym c.line_in.ensures ∙ c.in-Some.is))

-- it fits none
pub loop-port-preserved : goal.loop-port-preserved
loop-port-preserved g c =
    none_more (λ (l : Line). fits c.args.config.now.addresses c.args.packet.now l.door) (chain_lines c.args.chain) (g.R.PortRow.infos c.args.ports.now) c.loop-port.port (c.loop-port.port + 1) c.info.result.now (omega arith) c.info.ensures c.loop-port.invariant (sym c.line_in.ensures ∙ c.in-None.is)
