use Rattle.std.proofs.Common.{◌≡◌, cond, None, Option, option_map, sym, ap, subst, ◌∙◌}
use Rattle.std.specs.Prelude.{IfOk}
use Rattle.std.proofs.lemmas.Result.{on_err_weaker, on_ok_weaker}
use Rattle.kp_choice_defs.specs.Names.{endpoint_chain_name}
use Rattle.kp_choice_defs.specs.Settings.{setting_of}
use Rattle.kp_types.specs.Setting.{config_for}
use Rattle.kp_door_defs.specs.Decision as definition
use Rattle.kp_door_defs.specs.Decision.{decision_by, translation_of}
use Rattle.kp_lemmas.proofs.Results.{err_anyhow, ok_anyhow}
use Rattle.kp_decide.specs.Enough.{AreEnough}
use Rattle.kp_decide.specs.Findings.{found_by}
use Rattle.kp_decide.specs.Looked.{IsNewAt, has_source, looked_among, set_if}
use Rattle.kp_decide.specs.Picks.{with_pick}
use Rattle.kp_decide.specs.declared.translation.Placed.{Placed}
use Rattle.kp_decide.proofs.Cases.{enough_looked, enough_told, of_none, of_translation}
use Rattle.kp_decide.proofs.LeftLists.{left_told, left_untold}
use Rattle.kp_decide.proofs.Refused.{as_looked, new_told}
use Rattle.kp_decide.proofs.decision.decide_in.Goals as goal

-- a door takes the packet
pub returns-in-Some-clause-told : goal.returns-in-Some-clause-told
returns-in-Some-clause-told g c draws are =
    let pick = g.P.Picker.pick in
    let family = c.args.family in
    let packet = c.args.packet.now in
    let source = c.args.source.now in
    let before = g.L.Looks.lists c.args.lists.now in
    let all = g.S.PortSource.infos source family in
    let setting = with_pick pick (setting_of family (g.S.PortSource.config source)) in
    let enough = c.in_ok-ports.ensures.enough in
    of_translation (λ (t : Option definition.Translation). IfOk c.tell_then_remember.result (λ d. d ≡ g.W.Teller.told (found_by setting.config all packet t) (decision_by setting.config all packet before t)))
    (translation_of setting all packet draws before) c.in-Some.placed.translation
    (sym (ap (option_map (λ (p : Placed). p.translation)) c.in-Some.is) ∙ c.translation_of.ensures.translation draws are
    ∙ enough_told family packet before c.config-config.ensures enough pick draws)
    (λ t is. c.tell_then_remember.ensures.told t before enough.fitting is)

pub returns-in-Some-clause-lists : goal.returns-in-Some-clause-lists
returns-in-Some-clause-lists g c draws are =
    let pick = g.P.Picker.pick in
    let changes = g.L.Looks.changes in
    let family = c.args.family in
    let packet = c.args.packet.now in
    let source = c.args.source.now in
    let before = g.L.Looks.lists c.args.lists.now in
    let looked = g.L.Looks.lists c.translation_of.new.lists in
    let shown = c.in-Some.placed.translation in
    let same = c.config-config.ensures in
    let enough = c.in_ok-ports.ensures.enough in
    on_ok_weaker c.tell_then_remember.result
    (λ sets. left_told (with_pick pick (setting_of family (g.S.PortSource.config source))) (g.S.PortSource.infos source family) packet draws before changes looked (g.L.Looks.lists c.tell_then_remember.new.lists) shown
    (sym (ap (option_map (λ (p : Placed). p.translation)) c.in-Some.is) ∙ c.translation_of.ensures.translation draws are
    ∙ enough_told family packet before same enough pick draws)
    (c.translation_of.ensures.lists ∙ enough_looked family packet before same enough changes)
    (sets ∙ (λ j. cond changes (set_if shown.door.info.affinity (endpoint_chain_name (c.in_ok-ports.ensures.names j) shown.door.info.key shown.choice.endpoint) packet.source packet.now looked) looked)))
    c.tell_then_remember.ensures.ok

pub returns-in-Some-clause-refused : goal.returns-in-Some-clause-refused
returns-in-Some-clause-refused g c =
    let family = c.args.family in
    let packet = c.args.packet.now in
    let source = c.args.source.now in
    let before = g.L.Looks.lists c.args.lists.now in
    on_err_weaker c.tell_then_remember.result
    (λ kept. as_looked g.S.PortSource.refuses before
    (cond g.L.Looks.changes (looked_among (setting_of family (g.S.PortSource.config source)) (g.S.PortSource.infos source family) packet before) before)
    (g.L.Looks.lists c.tell_then_remember.new.lists)
    (kept ∙ c.translation_of.ensures.lists
    ∙ enough_looked family packet before c.config-config.ensures c.in_ok-ports.ensures.enough g.L.Looks.changes))
    c.tell_then_remember.ensures.err

pub returns-in-Some-clause-set : goal.returns-in-Some-clause-set
returns-in-Some-clause-set g c draws are makes tells =
    let pick = g.P.Picker.pick in
    let changes = g.L.Looks.changes in
    let family = c.args.family in
    let packet = c.args.packet.now in
    let source = c.args.source.now in
    let before = g.L.Looks.lists c.args.lists.now in
    let looked = g.L.Looks.lists c.translation_of.new.lists in
    let shown = c.in-Some.placed.translation in
    let same = c.config-config.ensures in
    let enough = c.in_ok-ports.ensures.enough in
    on_err_weaker c.tell_then_remember.result
    (λ (new : IsNewAt changes (g.S.Row.PortRow.name_length c.in_ok-ports.ports) shown packet.source looked).
    new_told (with_pick pick (setting_of family (g.S.PortSource.config source))) (g.S.PortSource.infos source family) packet draws before changes looked shown
    (sym (ap (option_map (λ (p : Placed). p.translation)) c.in-Some.is) ∙ c.translation_of.ensures.translation draws are
    ∙ enough_told family packet before same enough pick draws)
    (c.translation_of.ensures.lists ∙ enough_looked family packet before same enough changes)
    new.changed new.has_affinity
    (ap (λ n. has_source looked (endpoint_chain_name n shown.door.info.key shown.choice.endpoint) packet.source) (sym c.in_ok-ports.ensures.names) ∙ new.lacks))
    (c.tell_then_remember.ensures.set makes tells)

-- none takes it
pub returns-clause-told : goal.returns-clause-told
returns-clause-told g c draws are =
    let pick = g.P.Picker.pick in
    let family = c.args.family in
    let packet = c.args.packet.now in
    let source = c.args.source.now in
    let before = g.L.Looks.lists c.args.lists.now in
    let all = g.S.PortSource.infos source family in
    let some = g.S.Row.PortRow.infos c.in_ok-ports.ports in
    let setting = with_pick pick (setting_of family (g.S.PortSource.config source)) in
    let same = c.config-config.ensures in
    let enough = c.in_ok-ports.ensures.enough in
    of_none (λ (t : Option definition.Translation). IfOk c.tell_untranslated.result (λ d. d ≡ g.W.Teller.told (found_by setting.config all packet t) (decision_by setting.config all packet before t)))
    (translation_of setting all packet draws before)
    (sym (ap (option_map (λ (p : Placed). p.translation)) c.in-None.is) ∙ c.translation_of.ensures.translation draws are
    ∙ enough_told family packet before same enough pick draws)
    (subst (λ k. IfOk c.tell_untranslated.result (λ d. d ≡ g.W.Teller.told (found_by (config_for family k) all packet None) (decision_by (config_for family k) all packet before None))) same
    (c.tell_untranslated.ensures.told before all (subst (λ k. AreEnough (config_for family k) packet some all) (sym same) enough)))

pub returns-clause-lists : goal.returns-clause-lists
returns-clause-lists g c draws are =
    let pick = g.P.Picker.pick in
    let family = c.args.family in
    let packet = c.args.packet.now in
    let source = c.args.source.now in
    let before = g.L.Looks.lists c.args.lists.now in
    let setting = with_pick pick (setting_of family (g.S.PortSource.config source)) in
    ok_anyhow c.tell_untranslated.result _
    (c.in-None.ensures.none
    ∙ left_untold setting (g.S.PortSource.infos source family) packet draws before g.L.Looks.changes
    (sym (ap (option_map (λ (p : Placed). p.translation)) c.in-None.is) ∙ c.translation_of.ensures.translation draws are
    ∙ enough_told family packet before c.config-config.ensures c.in_ok-ports.ensures.enough pick draws))

pub returns-clause-refused : goal.returns-clause-refused
returns-clause-refused g c =
    let family = c.args.family in
    let packet = c.args.packet.now in
    let source = c.args.source.now in
    let before = g.L.Looks.lists c.args.lists.now in
    err_anyhow c.tell_untranslated.result _
    (as_looked g.S.PortSource.refuses before
    (cond g.L.Looks.changes (looked_among (setting_of family (g.S.PortSource.config source)) (g.S.PortSource.infos source family) packet before) before)
    (g.L.Looks.lists c.translation_of.new.lists)
    (c.translation_of.ensures.lists
    ∙ enough_looked family packet before c.config-config.ensures c.in_ok-ports.ensures.enough g.L.Looks.changes))
