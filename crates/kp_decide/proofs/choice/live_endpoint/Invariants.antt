-- None of the endpoints so far has the source.
use Rattle.kp_choice_defs.specs.Names.{endpoint_chain_name}
use Rattle.kp_decide.proofs.Affinity.{IsLooking}
use Rattle.kp_decide.proofs.choice.live_endpoint.Given as goal

abbrev pub invariant-loop-place : goal.invariant-loop-place
invariant-loop-place g l =
    IsLooking g.L.Looks.changes (endpoint_chain_name (g.R.PortRow.name_length l.ports) l.info.key)
    l.packet.source l.packet.now l.seconds l.endpoints (g.L.Looks.lists l.initial.lists)
    l.place (g.L.Looks.lists l.lists)
