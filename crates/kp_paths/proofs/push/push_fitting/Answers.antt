use Rattle.std.proofs.Common.{◌++◌, List, None, Option, slice_get, string_bytes, ap, ◌∙◌}
use Rattle.std.proofs.lemmas.Result.{on_ok_weaker}
use Rattle.kp_base.specs.declared.config.Config.{Config}
use Rattle.kp_types.specs.Setting.{config_for}
use Rattle.kp_door_defs.specs.Doors.{Door, doors_of, fits}
use Rattle.kp_decide.specs.Findings.{fitting_doors}
use Rattle.kp_path_defs.specs.Asides.{entries_of_port}
use Rattle.kp_paths.specs.Lines.{behind_told}
use Rattle.kp_paths.proofs.FirstFitting.{first_of_filter}
use Rattle.kp_paths.proofs.push.push_fitting.Goals as goal

pub returns-clause-text : goal.returns-clause-text
returns-clause-text g c =
    let family = c.args.family in
    let packet = c.args.packet.now in
    let source = c.args.source.now in
    let config = g.S.PortSource.config source in
    let infos = g.S.PortSource.infos source family in
    let some = g.S.Row.PortRow.infos c.args.ports.now in
    let entries = entries_of_port family (config_for family config) c.args.objects.now in
    on_ok_weaker c.push_behind.result
    (λ is. is
    ∙ ap (λ (d : Option Door). string_bytes c.args.text.now
    ++ behind_told (config_for family config) family infos entries c.args.number packet None d)
    (c.first.ensures.value
    ∙ ap (λ (ds : List Door). slice_get ds 0)
    (c.as_slice.ensures.value ∙ c.in_ok-doors.ensures family
    ∙ ap (λ (k : Config). fitting_doors (config_for family k) some packet) c.config.ensures
    ∙ c.requires.enough.fitting)
    ∙ first_of_filter (fits config.addresses packet) (doors_of infos)))
    c.push_behind.ensures.text
