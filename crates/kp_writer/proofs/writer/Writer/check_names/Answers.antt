use Rattle.std.proofs.Common.{◌≡◌, Bor, None, map, ap, subst, ◌∙◌}
use Rattle.std.specs.Result.{IfErr, OnOk}
use Rattle.kp_choice_defs.specs.Names.{first_clash}
use Rattle.kp_object_defs.specs.PortInfo.{PortInfo}
use Rattle.kp_table_defs.specs.Rebuild.{needed_keys}
use Rattle.kp_full_table.specs.Faults.{TellsClash}
use Rattle.kp_writer.specs.Written.{setting_in}
use Rattle.kp_writer.proofs.writer.Writer.check_names.Goals as goal

pub returns-clause-no_clash : goal.returns-clause-no_clash
returns-clause-no_clash c =
    let all = ap (map (λ (i : Bor PortInfo). i.now)) c.deref.ensures.value ∙ c.in_ok-infos.ensures in
    subst (λ clash. OnOk c.check_names.result (clash ≡ None))
    (λ n. first_clash (setting_in (c.self.view_is n)).name_of (needed_keys (all n)))
    c.check_names.ensures.no_clash

pub returns-clause-clash : goal.returns-clause-clash
returns-clause-clash c =
    let all = ap (map (λ (i : Bor PortInfo). i.now)) c.deref.ensures.value ∙ c.in_ok-infos.ensures in
    subst (λ clash. IfErr c.check_names.result (TellsClash clash))
    (λ n. first_clash (setting_in (c.self.view_is n)).name_of (needed_keys (all n)))
    c.check_names.ensures.clash
