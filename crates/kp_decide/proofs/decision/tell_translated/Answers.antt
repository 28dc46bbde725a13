use Rattle.std.proofs.Common.{◌≡◌, Option, Some, ap, ◌∙◌}
use Rattle.std.proofs.lemmas.Result.{IfOk-weaker}
use Rattle.kp_base.specs.declared.config.Config.{Config}
use Rattle.kp_types.specs.Setting.{config_for}
use Rattle.kp_door_defs.specs.Decision.{by_filter, decision_by, sent_to}
use Rattle.kp_door_defs.specs.Filter.{Line, filtered}
use Rattle.kp_door_defs.specs.Marks.{is_masqueraded}
use Rattle.kp_decide.specs.Findings.{Findings, fitting_among, fitting_doors, found_by, masked_by}
use Rattle.kp_decide.specs.Told.{translation_told}
use Rattle.kp_decide.specs.declared.translation.Translation.{Translation}
use Rattle.kp_decide.proofs.decision.tell_translated.Goals as goal

pub returns-clause-told : goal.returns-clause-told
returns-clause-told g c t lists same is =
    let family = c.args.family in
    let packet = c.args.packet.now in
    let source = c.args.source.now in
    let all = g.S.PortSource.infos source family in
    let some = g.S.Row.PortRow.infos c.args.ports.now in
    let answering = g.S.Row.PortRow.infos c.in_ok-answering.answering in
    let used = c.config-config.result.now in
    let config = g.S.PortSource.config source in
    let fitting = fitting_doors (config_for family config) all packet in
    let sent = sent_to packet t.chosen.endpoint in
    let goes : c.sent_to-sent.result ≡ sent =
    c.sent_to-sent.ensures ∙ ap (λ (u : Translation). sent_to packet u.choice.endpoint) is in
    let marks : c.is_masqueraded.result ≡ masked_by (config_for family used) packet (Some t) =
    c.is_masqueraded.ensures ∙ ap (λ (u : Translation). is_masqueraded (config_for family used) u.door.kind u.door.info packet u.choice.endpoint) is in
    let refuses : c.filtered.result ≡ filtered (config_for family config) all sent =
    c.filtered.ensures family
    ∙ ap (λ (k : Config). filtered (config_for family k) answering c.sent_to-sent.result) c.config-config.ensures
    ∙ c.in_ok-answering.ensures.enough.line
    ∙ ap (filtered (config_for family config) all) goes in
    let found : Config → Option Line → Findings = λ k line. record {
      fitting = fitting;
      translation = Some (translation_told t);
      masked = masked_by (config_for family k) packet (Some t);
      line = line;
    } in
    IfOk-weaker c.tell.result
    (λ d. d ≡ g.W.Teller.told (record {
      fitting = fitting;
      translation = Some (translation_told t);
      masked = c.is_masqueraded.result;
      line = c.filtered.result;
    }) (by_filter (config_for family used) packet (Some t) t.chosen.lists c.filtered.result))
    (λ d. d ≡ g.W.Teller.told (found_by (config_for family config) all packet (Some t)) (decision_by (config_for family config) all packet lists (Some t)))
    (λ d e. e
    ∙ ap (λ m. g.W.Teller.told (record { fitting = fitting; translation = Some (translation_told t); masked = m; line = c.filtered.result }) (by_filter (config_for family used) packet (Some t) t.chosen.lists c.filtered.result)) marks
    ∙ ap (λ (k : Config). g.W.Teller.told (found k c.filtered.result) (by_filter (config_for family k) packet (Some t) t.chosen.lists c.filtered.result)) c.config-config.ensures
    ∙ ap (λ (line : Option Line). g.W.Teller.told (found config line) (by_filter (config_for family config) packet (Some t) t.chosen.lists line)) refuses)
    (c.tell.ensures.told (Some t) t.chosen.lists fitting (ap Some is) marks
    (ap (λ (k : Config). fitting_among (config_for family k) (Some some) packet) c.config-config.ensures ∙ same))
