use Rattle.std.proofs.Common.{◌++◌, None, Option, Some, option_map, string_bytes, sym, ap, ◌∙◌}
use Rattle.std.proofs.lemmas.Result.{on_err_weaker, on_ok_weaker}
use Rattle.std.specs.List.{find}
use Rattle.kp_base.specs.declared.config.Config.{Config}
use Rattle.kp_types.specs.Setting.{config_for}
use Rattle.kp_door_defs.specs.Doors.{doors_of, fits}
use Rattle.kp_door_defs.specs.Filter.{Line, filtered}
use Rattle.kp_path_defs.specs.Asides.{entries_of_port}
use Rattle.kp_path_defs.specs.Paths.{first_of}
use Rattle.kp_paths.specs.Lines.{behind_told}
use Rattle.kp_report.proofs.Pieces.{front_on}
use Rattle.kp_paths.proofs.AllLines.{untranslated}
use Rattle.kp_paths.proofs.push.push_untranslated.Goals as goal

pub returns-in-Some-clause-text : goal.returns-in-Some-clause-text
returns-in-Some-clause-text g c =
    let family = c.args.family in
    let packet = c.args.packet.now in
    let source = c.args.source.now in
    let config = g.S.PortSource.config source in
    let infos = g.S.PortSource.infos source family in
    let entries = entries_of_port family (config_for family config) c.args.objects.now in
    on_ok_weaker c.push_behind.result
    (λ is. untranslated (config_for family config) family infos entries c.args.number packet
    c.filtered-line.result (string_bytes c.args.text.now) (string_bytes c.push_only.new.text)
    (string_bytes c.push_behind.new.text)
    (c.filtered-line.ensures family
    ∙ ap (λ (k : Config). filtered (config_for family k) (g.S.Row.PortRow.infos c.args.ports.now)
    packet)
    c.config-config.ensures
    ∙ c.requires.enough.line)
    c.in_ok-push_only.ensures.added
    (is
    ∙ ap (λ (l : Line). string_bytes c.push_only.new.text
    ++ behind_told (config_for family config) family infos entries c.args.number packet None
    (Some l.door)) c.line.view_is
    ∙ ap (λ (l : Option Line). string_bytes c.push_only.new.text
    ++ behind_told (config_for family config) family infos entries c.args.number packet None
    (first_of (option_map (λ l. l.door) l) (find (fits config.addresses packet) (doors_of infos))))
    (sym c.in-Some.is)))
    c.push_behind.ensures.text

pub returns-in-Some-clause-front : goal.returns-in-Some-clause-front
returns-in-Some-clause-front g c =
    on_err_weaker c.push_behind.result (λ h. front_on _ _ _ _ c.in_ok-push_only.ensures.added h)
    c.push_behind.ensures.front

pub returns-in-None-clause-text : goal.returns-in-None-clause-text
returns-in-None-clause-text g c =
    let family = c.args.family in
    let packet = c.args.packet.now in
    let source = c.args.source.now in
    let config = g.S.PortSource.config source in
    let infos = g.S.PortSource.infos source family in
    let entries = entries_of_port family (config_for family config) c.args.objects.now in
    on_ok_weaker c.push_fitting.result
    (λ is. untranslated (config_for family config) family infos entries c.args.number packet
    c.filtered-line.result (string_bytes c.args.text.now) (string_bytes c.push_only.new.text)
    (string_bytes c.push_fitting.new.text)
    (c.filtered-line.ensures family
    ∙ ap (λ (k : Config). filtered (config_for family k) (g.S.Row.PortRow.infos c.args.ports.now)
    packet)
    c.config-config.ensures
    ∙ c.requires.enough.line)
    c.in_ok-push_only.ensures.added
    (is
    ∙ ap (λ (l : Option Line). string_bytes c.push_only.new.text
    ++ behind_told (config_for family config) family infos entries c.args.number packet None
    (first_of (option_map (λ l. l.door) l) (find (fits config.addresses packet) (doors_of infos))))
    (sym c.in-None.is)))
    c.push_fitting.ensures.text

pub returns-in-None-clause-front : goal.returns-in-None-clause-front
returns-in-None-clause-front g c =
    on_err_weaker c.push_fitting.result (λ h. front_on _ _ _ _ c.in_ok-push_only.ensures.added h)
    c.push_fitting.ensures.front
