use Rattle.std.proofs.Common.{◌≡◌, ◌+◌, Some, option_map, arith, sym, ap, ◌∙◌}
use Rattle.kp_choice_defs.specs.Names.{endpoint_chain_name}
use Rattle.kp_choice_defs.specs.Settings.{setting_of}
use Rattle.kp_types.specs.declared.decision.ChosenBy.TheVariants.{Affinity}
use Rattle.kp_door_defs.specs.Choice.{chosen_endpoint, found_or, live_endpoint, recent_name, remembered}
use Rattle.kp_decide.specs.Picks.{with_pick}
use Rattle.kp_decide.specs.Told.{choice_of}
use Rattle.kp_decide.specs.declared.choice.Choice.{Choice}
use Rattle.kp_decide.proofs.choice.chosen_endpoint.Goals as goal

-- an endpoint has the source
pub returns-in-Some-live_endpoint-clause-choice : goal.returns-in-Some-live_endpoint-clause-choice
returns-in-Some-live_endpoint-clause-choice g c family config drawn names are =
    let setting = with_pick g.P.Picker.pick (setting_of family config) in
    let key = c.args.info.now.key in
    let source = c.args.packet.now.source in
    let now = c.args.packet.now.now in
    let es = c.args.endpoints.now in
    let lists = g.L.Looks.lists c.args.lists.now in
    let e = c.in-Some-live_endpoint.endpoint in
    let place = c.in-Some-live_endpoint.place in
    let look = live_endpoint (recent_name setting key) source now c.in-Some.seconds 0 es lists in
    let found : Some (e, place) ≡ look.found = sym c.in-Some-live_endpoint.is ∙ c.live_endpoint.ensures.found ∙ (λ j. (live_endpoint (endpoint_chain_name (names j) key) source now c.in-Some.seconds 0 es lists).found) in
    let choice : Choice = record { endpoint = e; place = place + 1; by = Affinity } in
    ap (λ n. Some (record choice { place = n })) (omega arith)
    ∙ ap (λ o. option_map choice_of (remembered (recent_name setting key) source now (found_or setting drawn es look.lists o))) found
    ∙ ap (λ a. option_map choice_of (chosen_endpoint setting key a source now drawn es lists)) (sym c.in-Some.is)
