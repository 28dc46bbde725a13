use Rattle.std.proofs.Common.{rules, ◌≡◌, ◌∙◌, ◌++◌, flat_map, string_bytes}
use Rattle.std.proofs.lemmas.Result.{on_ok_weaker}
use Rattle.kp_types.specs.Setting.{config_for}
use Rattle.kp_path_defs.specs.PathText.{source_text}
use Rattle.kp_path_defs.specs.Sources.{asked_from, served_of}
use Rattle.kp_paths.specs.SourceWords.{sources_by}
use Rattle.kp_paths.proofs.sources.push_kind.Goals as goal

pub returns-clause-text : goal.returns-clause-text
returns-clause-text g c =
    let config = config_for c.args.family (g.S.PortSource.config c.args.source.now) in
    let infos = g.S.PortSource.infos c.args.source.now c.args.family in
    let asked : c.asked_from-asked.result ≡ asked_from config c.args.packet.now c.args.address.now =
    search rules in
    on_ok_weaker c.push_asked.result
    (λ h. h ∙ (λ i. string_bytes c.args.text.now ++ flat_map (source_text c.args.number)
    (sources_by config c.args.restricted.now (asked i).source (served_of config infos (asked i)))))
    c.push_asked.ensures.text
