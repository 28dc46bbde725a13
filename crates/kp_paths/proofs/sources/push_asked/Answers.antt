use Rattle.std.proofs.Common.{rules, ◌≡◌, ◌∙◌, ◌++◌, ap, flat_map, None, slice_get, string_bytes}
use Rattle.std.proofs.lemmas.Result.{on_ok_weaker}
use Rattle.kp_types.specs.Setting.{config_for}
use Rattle.kp_door_defs.specs.Doors.{taking_door}
use Rattle.kp_door_defs.specs.Filter.{filtered}
use Rattle.kp_path_defs.specs.PathText.{source_text}
use Rattle.kp_paths.specs.SourceWords.{closes_by, sources_by}
use Rattle.kp_paths.proofs.ServedBy.{untaken}
use Rattle.kp_paths.proofs.sources.push_asked.Goals as goal

pub returns-in-None-clause-text : goal.returns-in-None-clause-text
returns-in-None-clause-text g c =
    let config = config_for c.args.family (g.S.PortSource.config c.args.source.now) in
    let all = g.S.PortSource.infos c.args.source.now c.args.family in
    let some = g.S.Row.PortRow.infos c.args.ports.now in
    let asked = c.args.asked.now in
    let doors = c.args.doors.now in
    let none : None ≡ taking_door config some asked = search rules in
    on_ok_weaker c.push_untaken.result
    (λ h. h
    ∙ (λ i. let seen = config_for c.args.family (c.config-config.ensures i) in
    string_bytes c.args.text.now ++ flat_map (source_text c.args.number)
    (sources_by seen c.args.restricted.now asked.source (closes_by asked (filtered seen some asked) (slice_get doors 0))))
    ∙ ap (λ s. string_bytes c.args.text.now ++ flat_map (source_text c.args.number) (sources_by config c.args.restricted.now asked.source s))
    (untaken config asked some all c.requires.enough doors c.requires.doors none))
    c.push_untaken.ensures.text
