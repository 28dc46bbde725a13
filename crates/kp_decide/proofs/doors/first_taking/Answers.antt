use Rattle.std.proofs.Common.{◌≡◌, ◌+◌, arith, Some, sym, ap, subst, ◌∙◌}
use Rattle.std.specs.Option.{IfSome}
use Rattle.kp_types.specs.Setting.{config_for}
use Rattle.kp_door_defs.specs.Doors.{takes}
use Rattle.kp_decide.specs.Listed.{group_doors}
use Rattle.kp_decide.proofs.DoorsInPlace.{of_port}
use Rattle.kp_decide.proofs.FoundSoFar.{found_here, none_more}
use Rattle.kp_decide.proofs.doors.first_taking.Goals as goal

-- the port has a door that takes the packet
pub returns-in-Some-clause-door : goal.returns-in-Some-clause-door
returns-in-Some-clause-door g c =
    sym (found_here (takes (config_for c.args.family c.args.config.now) c.args.packet.now) (group_doors c.args.group) (g.R.PortRow.infos c.args.ports.now) c.loop-port.port c.info.result.now c.in-Some.door c.info.ensures c.loop-port.invariant (sym c.taking_in.ensures ∙ c.in-Some.is))

pub returns-in-Some-clause-port : goal.returns-in-Some-clause-port
returns-in-Some-clause-port g c =
    c.info.ensures
    ∙ ap Some (sym (subst (λ o. IfSome o (λ d. d.info ≡ c.info.result.now)) (sym c.taking_in.ensures ∙ c.in-Some.is) (of_port (takes (config_for c.args.family c.args.config.now) c.args.packet.now) c.info.result.now c.args.group)))

-- the port has none
pub loop-port-preserved : goal.loop-port-preserved
loop-port-preserved g c =
    none_more (takes (config_for c.args.family c.args.config.now) c.args.packet.now) (group_doors c.args.group) (g.R.PortRow.infos c.args.ports.now) c.loop-port.port (c.loop-port.port + 1) c.info.result.now (omega arith) c.info.ensures c.loop-port.invariant (sym c.taking_in.ensures ∙ c.in-None.is)
