use Rattle.std.proofs.Common.{◌+◌, get_or, arith, flat_map, sym, ap, ◌∙◌}
use Rattle.std.specs.List.{find}
use Rattle.std.proofs.lemmas.List.{take_all}
use Rattle.std.proofs.lemmas.Option.{slice_get-get_or}
use Rattle.kp_door_defs.specs.Doors.{fits}
use Rattle.kp_door_defs.specs.Filter.{Line}
use Rattle.kp_decide.specs.Listed.{chain_lines}
use Rattle.kp_decide.specs.declared.lines.Chain.TheVariants.{Firewall}
use Rattle.kp_decide.proofs.FoundSoFar.{found_here, none_more}
use Rattle.kp_decide.proofs.filter.filtered.Goals as goal

-- the packet fits a line of the chain
pub returns-in-Some : goal.returns-in-Some
returns-in-Some g c family =
    let infos = g.R.PortRow.infos c.args.ports.now in
    let chains = c.chains_on_way-chains.result.now in
    let place = c.loop-chain.chain-index in
    sym (found_here (λ (l : Line). fits c.args.config.now.addresses c.args.packet.now l.door) (λ k. flat_map (chain_lines k) infos) chains place (get_or chains place Firewall) c.in-Some.line
    (slice_get-get_or chains place Firewall c.loop-chain-test.true)
    c.loop-chain.invariant (sym c.first_line.ensures ∙ c.in-Some.is))
    ∙ ap (find (λ (l : Line). fits c.args.config.now.addresses c.args.packet.now l.door)) (c.chains_on_way-chains.ensures family infos)

-- it fits none
pub loop-chain-preserved : goal.loop-chain-preserved
loop-chain-preserved g c =
    let infos = g.R.PortRow.infos c.args.ports.now in
    let chains = c.chains_on_way-chains.result.now in
    let place = c.loop-chain.chain-index in
    none_more (λ (l : Line). fits c.args.config.now.addresses c.args.packet.now l.door) (λ k. flat_map (chain_lines k) infos) chains place (place + 1) (get_or chains place Firewall) (omega arith)
    (slice_get-get_or chains place Firewall c.loop-chain-test.true)
    c.loop-chain.invariant (sym c.first_line.ensures ∙ c.in-None.is)

pub returns : goal.returns
returns g c family =
    let infos = g.R.PortRow.infos c.args.ports.now in
    let chains = c.chains_on_way-chains.result.now in
    let fit : Line → _ = λ l. fits c.args.config.now.addresses c.args.packet.now l.door in
    sym c.loop-chain.invariant
    ∙ ap (λ ks. find fit (flat_map (λ k. flat_map (chain_lines k) infos) ks)) (take_all c.loop-chain.chain-index chains c.loop-chain-test.false)
    ∙ ap (find fit) (c.chains_on_way-chains.ensures family infos)
