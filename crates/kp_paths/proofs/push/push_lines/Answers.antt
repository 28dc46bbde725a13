use Rattle.std.proofs.Common.{◌++◌, Option, option_map, string_bytes, sym, ap, ◌∙◌}
use Rattle.std.proofs.lemmas.Result.{on_ok_weaker}
use Rattle.kp_choice_defs.specs.Settings.{setting_of}
use Rattle.kp_types.specs.Setting.{config_for}
use Rattle.kp_path_defs.specs.Asides.{entries_of_port}
use Rattle.kp_path_defs.specs.Paths.{pick_place}
use Rattle.kp_decide.specs.declared.translation.Placed.{Placed}
use Rattle.kp_decide.specs.declared.translation.Translation.{Translation}
use Rattle.kp_decide.proofs.Cases.{enough_told}
use Rattle.kp_paths.specs.Lines.{lines_told}
use Rattle.kp_paths.proofs.AllLines.{all_lines}
use Rattle.kp_paths.proofs.push.push_lines.Goals as goal

pub returns-in-Some-clause-text : goal.returns-in-Some-clause-text
returns-in-Some-clause-text g c =
    let family = c.args.family in
    let packet = c.args.packet.now in
    let source = c.args.source.now in
    let config = g.S.PortSource.config source in
    let infos = g.S.PortSource.infos source family in
    let entries = entries_of_port family (config_for family config) c.args.objects.now in
    on_ok_weaker c.push_translated.result
    (λ is. is
    ∙ ap (λ (t : Option Translation). string_bytes c.args.text.now
    ++ lines_told (config_for family config) family infos entries c.args.number packet t)
    (sym (ap (option_map (λ (p : Placed). p.translation)) c.in-Some.is)
    ∙ c.translation_of.ensures.translation (λ _draw. 0) tt
    ∙ enough_told family packet c.args.lists.now c.config-config.ensures
    c.in_ok-ports.ensures.enough (pick_place 0) (λ _draw. 0))
    ∙ ap (λ words. string_bytes c.args.text.now ++ words)
    (sym (all_lines (setting_of family config) infos entries c.args.number packet
    c.args.lists.now)))
    c.push_translated.ensures.text

pub returns-clause-text : goal.returns-clause-text
returns-clause-text g c =
    let family = c.args.family in
    let packet = c.args.packet.now in
    let source = c.args.source.now in
    let config = g.S.PortSource.config source in
    let infos = g.S.PortSource.infos source family in
    let entries = entries_of_port family (config_for family config) c.args.objects.now in
    on_ok_weaker c.push_untranslated.result
    (λ is. is
    ∙ ap (λ (t : Option Translation). string_bytes c.args.text.now
    ++ lines_told (config_for family config) family infos entries c.args.number packet t)
    (sym (ap (option_map (λ (p : Placed). p.translation)) c.in-None.is)
    ∙ c.translation_of.ensures.translation (λ _draw. 0) tt
    ∙ enough_told family packet c.args.lists.now c.config-config.ensures
    c.in_ok-ports.ensures.enough (pick_place 0) (λ _draw. 0))
    ∙ ap (λ words. string_bytes c.args.text.now ++ words)
    (sym (all_lines (setting_of family config) infos entries c.args.number packet
    c.args.lists.now)))
    c.push_untranslated.ensures.text
