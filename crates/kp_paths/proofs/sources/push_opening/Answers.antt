use Rattle.std.proofs.Common.{rules, ◌≡◌, ◌∙◌, ◌++◌, ap, string_bytes}
use Rattle.std.proofs.lemmas.Result.{on_err_weaker, on_ok_weaker}
use Rattle.kp_types.specs.Setting.{config_for}
use Rattle.kp_door_defs.specs.Doors.{offer_of}
use Rattle.kp_path_defs.specs.PathText.{counts_text}
use Rattle.kp_path_defs.specs.Sources.{counts_of}
use Rattle.kp_report.proofs.Pieces.{front_on, three_added}
use Rattle.kp_paths.specs.SourceWords.{head_text, offered_text}
use Rattle.kp_paths.proofs.SourceLines.{opening_line}
use Rattle.kp_paths.proofs.sources.push_opening.Goals as goal

pub returns-clause-text : goal.returns-clause-text
returns-clause-text g c =
    let config = config_for c.args.family (g.S.PortSource.config c.args.source.now) in
    let infos = g.S.PortSource.infos c.args.source.now c.args.family in
    let packet = c.args.asked.now in
    let d = c.args.door.now in
    let head : string_bytes c.push_head.new.text ≡ string_bytes c.args.text.now ++ head_text c.args.number config c.args.restricted.now packet.source = search rules in
    let counts :
    string_bytes c.push_counts.new.text
    ≡ string_bytes c.push_head.new.text ++ counts_text (counts_of config infos packet d (offer_of config packet d).endpoints) =
    search rules in
    let offer :
    string_bytes c.push_counts.new.text ++ offered_text d c.offer.inside.kind
    ≡ string_bytes c.push_counts.new.text ++ offered_text d (offer_of config packet d).kind =
    search rules in
    on_ok_weaker c.push_offered.result
    (λ h. three_added _ _ _ _ (head_text c.args.number config c.args.restricted.now packet.source)
    (counts_text (counts_of config infos packet d (offer_of config packet d).endpoints))
    (offered_text d (offer_of config packet d).kind) head counts (h ∙ offer)
    ∙ ap (λ l. string_bytes c.args.text.now ++ l)
    (opening_line c.args.number config c.args.restricted.now infos packet d))
    c.push_offered.ensures.added

pub returns-clause-front : goal.returns-clause-front
returns-clause-front g c = on_err_weaker c.push_offered.result
    (λ h. front_on _ _ _ _ c.in_ok-push_head.ensures.added (front_on _ _ _ _ c.in_ok-push_counts.ensures.added h))
    c.push_offered.ensures.front
