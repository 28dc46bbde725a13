use Rattle.std.proofs.Common.{◌≡◌, ◌-◌, cond, slice_get, Some, option_map, sym, ap, subst, ◌∙◌}
use Rattle.std.specs.Option.{IfSome}
use Rattle.kp_choice_defs.specs.Names.{endpoint_chain_name}
use Rattle.kp_choice_defs.specs.Settings.{setting_of}
use Rattle.kp_types.specs.Setting.{config_for}
use Rattle.kp_door_defs.specs.Decision.{choice_at}
use Rattle.kp_door_defs.specs.Doors.{Door, Offer, offer_of}
use Rattle.kp_decide.specs.Looked.{IsOf, looked}
use Rattle.kp_decide.specs.Picks.{with_pick}
use Rattle.kp_decide.specs.Told.{choice_of}
use Rattle.kp_decide.proofs.Cases.{same_choice, told_none, told_translation}
use Rattle.kp_decide.proofs.LeftLists.{of_offered}
use Rattle.kp_decide.proofs.translation.translation_at.Goals as goal

-- the offer that is seen is one of the port that is seen
pub chosen_endpoint-requires-clause-offer : goal.chosen_endpoint-requires-clause-offer
chosen_endpoint-requires-clause-offer g c =
    let config = config_for c.args.family c.args.config.now in
    let packet = c.args.packet.now in
    let d = c.args.door in
    (subst (λ (p : Door × Offer). IsOf p.0.info p.1) {x = (d, offer_of config packet d)}
    (λ j. (sym c.door.view_is j, sym (c.offer.view_is ∙ c.offer_of-offer.ensures) j))
    (of_offered config d.info packet.source d.kind))

pub returns-in-Some-clause-translation : goal.returns-in-Some-clause-translation
returns-in-Some-clause-translation g c draws are =
    let setting = with_pick g.P.Picker.pick (setting_of c.args.family c.args.config.now) in
    let packet = c.args.packet.now in
    let lists = g.L.Looks.lists c.args.lists.now in
    let d = c.args.door in
    let same : Some c.in-Some.choice ≡ option_map choice_of (choice_at setting packet draws lists d) =
    sym c.in-Some.is ∙ c.chosen_endpoint.ensures.choice c.args.family c.args.config.now draws c.requires.names are
    ∙ same_choice setting packet draws lists c.door.view_is (c.offer.view_is ∙ c.offer_of-offer.ensures) in
    told_translation d c.offer_of-offer.result (offer_of setting.config packet d) c.in-Some.choice (choice_at setting packet draws lists d) c.offer_of-offer.ensures same

pub returns-in-Some-clause-placed : goal.returns-in-Some-clause-placed
returns-in-Some-clause-placed g c =
    let config = config_for c.args.family c.args.config.now in
    let packet = c.args.packet.now in
    let d = c.args.door in
    let choice = c.in-Some.choice in
    record {
      port_at = c.requires.port;
      offer_of_port = subst (IsOf d.info) (sym c.offer_of-offer.ensures) (of_offered config d.info packet.source d.kind);
      endpoint_at =
          sym (ap (λ (o : Offer). slice_get o.endpoints (choice.place - 1)) c.offer.view_is)
          ∙ subst (λ x. IfSome x (λ y. slice_get c.offer.inside.endpoints.now (y.place - 1) ≡ Some y.endpoint)) c.in-Some.is c.chosen_endpoint.ensures.placed;
    }

pub returns-in-Some-clause-lists : goal.returns-in-Some-clause-lists
returns-in-Some-clause-lists g c =
    let packet = c.args.packet.now in
    let before = g.L.Looks.lists c.args.lists.now in
    let offer_is = c.offer.view_is ∙ c.offer_of-offer.ensures in
    c.chosen_endpoint.ensures.lists
    ∙ (λ j. cond g.L.Looks.changes (looked (endpoint_chain_name (c.requires.names j) (c.door.view_is j).info.key) (c.door.view_is j).info.affinity packet.source packet.now (offer_is j).endpoints before) before)

pub returns-in-None-clause-translation : goal.returns-in-None-clause-translation
returns-in-None-clause-translation g c draws are =
    let setting = with_pick g.P.Picker.pick (setting_of c.args.family c.args.config.now) in
    let packet = c.args.packet.now in
    let lists = g.L.Looks.lists c.args.lists.now in
    let d = c.args.door in
    told_none d (offer_of setting.config packet d) (choice_at setting packet draws lists d)
    (sym c.in-None.is ∙ c.chosen_endpoint.ensures.choice c.args.family c.args.config.now draws c.requires.names are
    ∙ same_choice setting packet draws lists c.door.view_is
    (c.offer.view_is ∙ c.offer_of-offer.ensures))

pub returns-in-None-clause-lists : goal.returns-in-None-clause-lists
returns-in-None-clause-lists g c =
    let packet = c.args.packet.now in
    let before = g.L.Looks.lists c.args.lists.now in
    let offer_is = c.offer.view_is ∙ c.offer_of-offer.ensures in
    c.chosen_endpoint.ensures.lists
    ∙ (λ j. cond g.L.Looks.changes (looked (endpoint_chain_name (c.requires.names j) (c.door.view_is j).info.key) (c.door.view_is j).info.affinity packet.source packet.now (offer_is j).endpoints before) before)
