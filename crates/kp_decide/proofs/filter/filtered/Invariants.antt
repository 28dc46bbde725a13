-- The packet fits no line of the chains so far.
use Rattle.std.proofs.Common.{◌≡◌, take, flat_map, None}
use Rattle.std.specs.List.{find}
use Rattle.kp_door_defs.specs.Doors.{fits}
use Rattle.kp_door_defs.specs.Filter.{Line}
use Rattle.kp_decide.specs.Listed.{chain_lines}
use Rattle.kp_decide.proofs.filter.filtered.Given as goal

abbrev pub invariant-loop-chain : goal.invariant-loop-chain
invariant-loop-chain g l =
    find (λ (x : Line). fits l.config.addresses l.packet x.door)
    (flat_map (λ c. flat_map (chain_lines c) (g.R.PortRow.infos l.ports)) (take l.chain-index l.chains)) ≡ None
