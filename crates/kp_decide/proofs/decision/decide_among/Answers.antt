use Rattle.std.proofs.Common.{◌≡◌, Bool, [], None, OnErr, cond, refl, sym, ap, subst, ◌∙◌}
use Rattle.std.proofs.lemmas.Result.{IfOk-weaker}
use Rattle.kp_base.specs.declared.address.Family.{Family}
use Rattle.kp_types.specs.Setting.{has_tables_of, view_of}
use Rattle.kp_choice_defs.specs.Recent.{RecentParts}
use Rattle.kp_choice_defs.specs.Settings.{setting_of, settings_of}
use Rattle.kp_door_defs.specs.Decision.{Decided, decision_among, decision_from, decision_if, left_alone}
use Rattle.kp_lemmas.proofs.Results.{err_anyhow}
use Rattle.kp_decide.specs.Findings.{Findings, found_among, found_from, found_if, nothing_found}
use Rattle.kp_decide.specs.Looked.{IsNewSource, looked_if}
use Rattle.kp_decide.specs.Picks.{all_with_pick, with_pick}
use Rattle.kp_decide.proofs.Affinity.{same_both}
use Rattle.kp_decide.proofs.Refused.{as_looked}
use Rattle.kp_decide.proofs.decision.decide_among.Goals as goal

-- the node has no tables of the packet's family
pub returns-then-not-has_tables_of-clause-told : goal.returns-then-not-has_tables_of-clause-told
returns-then-not-has_tables_of-clause-told g c draws are =
    let source = c.args.source.now in
    let settings = all_with_pick g.P.Picker.pick (settings_of (g.S.PortSource.config source)) in
    let packet = c.args.packet.now in
    let lists = g.L.Looks.lists c.args.lists.now in
    let family = packet.target.family in
    let infos = g.S.PortSource.infos source family in
    let found : Bool → Findings = λ b. found_if b (view_of family settings) infos packet draws lists in
    let by : Bool → Decided = λ b. decision_if b (view_of family settings) infos packet draws lists in
    IfOk-weaker c.tell.result (λ d. d ≡ g.W.Teller.told nothing_found (left_alone lists)) (λ d. d ≡ g.W.Teller.told (found_among settings (g.S.PortSource.infos source) packet draws lists) (decision_among settings (g.S.PortSource.infos source) packet draws lists))
    (λ d e. e ∙ ap (λ b. g.W.Teller.told (found b) (by b))
    (sym c.if-not-has_tables_of.true ∙ c.has_tables_of.ensures
    ∙ (λ j. has_tables_of (c.family-family.ensures j) (settings_of (c.config-config.ensures j)))))
    (c.tell.ensures.told None lists [] refl refl refl)

pub returns-then-not-has_tables_of-clause-refused : goal.returns-then-not-has_tables_of-clause-refused
returns-then-not-has_tables_of-clause-refused g c =
    let source = c.args.source.now in
    let settings = settings_of (g.S.PortSource.config source) in
    let packet = c.args.packet.now in
    let before = g.L.Looks.lists c.args.lists.now in
    let changes = g.L.Looks.changes in
    let family = packet.target.family in
    let looked : Bool → RecentParts = λ b. cond changes (looked_if b (view_of family settings) (g.S.PortSource.infos source family) packet before) before in
    err_anyhow c.tell.result _
    (as_looked g.S.PortSource.refuses before (looked (has_tables_of family settings)) before
    (same_both changes before
    ∙ ap looked (sym c.if-not-has_tables_of.true ∙ c.has_tables_of.ensures
    ∙ (λ j. has_tables_of (c.family-family.ensures j) (settings_of (c.config-config.ensures j))))))

-- the node has them
pub returns-clause-told : goal.returns-clause-told
returns-clause-told g c draws are =
    let source = c.args.source.now in
    let config = g.S.PortSource.config source in
    let settings = all_with_pick g.P.Picker.pick (settings_of config) in
    let packet = c.args.packet.now in
    let lists = g.L.Looks.lists c.args.lists.now in
    let family = packet.target.family in
    let infos = g.S.PortSource.infos source in
    let found : Bool → Findings = λ b. found_if b (view_of family settings) (infos family) packet draws lists in
    let by : Bool → Decided = λ b. decision_if b (view_of family settings) (infos family) packet draws lists in
    IfOk-weaker c.decide_in.result
    (λ d. d ≡ g.W.Teller.told (found_from (with_pick g.P.Picker.pick (setting_of c.family-family.result config)) (infos c.family-family.result) packet draws lists) (decision_from (with_pick g.P.Picker.pick (setting_of c.family-family.result config)) (infos c.family-family.result) packet draws lists))
    (λ d. d ≡ g.W.Teller.told (found_among settings infos packet draws lists) (decision_among settings infos packet draws lists))
    (λ d e. e
    ∙ ap (λ f. g.W.Teller.told (found_from (with_pick g.P.Picker.pick (setting_of f config)) (infos f) packet draws lists) (decision_from (with_pick g.P.Picker.pick (setting_of f config)) (infos f) packet draws lists)) c.family-family.ensures
    ∙ ap (λ b. g.W.Teller.told (found b) (by b))
    (sym c.if-not-has_tables_of.false ∙ c.has_tables_of.ensures
    ∙ (λ j. has_tables_of (c.family-family.ensures j) (settings_of (c.config-config.ensures j)))))
    (c.decide_in.ensures.told draws are)

pub returns-clause-set : goal.returns-clause-set
returns-clause-set g c draws are makes tells =
    let source = c.args.source.now in
    let setting = λ (f : Family). with_pick g.P.Picker.pick (setting_of f (g.S.PortSource.config source)) in
    let packet = c.args.packet.now in
    let lists = g.L.Looks.lists c.args.lists.now in
    subst (λ f. OnErr c.decide_in.result (IsNewSource g.L.Looks.changes (setting f) (g.S.PortSource.infos source f) packet draws lists))
    c.family-family.ensures (c.decide_in.ensures.set draws are makes tells)
