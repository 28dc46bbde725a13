use Rattle.std.proofs.Common.{◌∙◌}
use Rattle.std.proofs.lemmas.Result.{IfOk-weaker}
use Rattle.kp_types.specs.Setting.{config_for}
use Rattle.kp_decide.specs.Findings.{fitting_doors}
use Rattle.kp_paths.proofs.sources.doors_at.Goals as goal

pub returns : goal.returns
returns g c =
    IfOk-weaker c.fitting_doors.result _ _
    (λ doors is. is
    ∙ (λ i. fitting_doors (config_for c.args.family (c.config.ensures i)) (g.S.Row.PortRow.infos c.args.ports.now) c.args.packet.now)
    ∙ c.requires.enough.fitting)
    (c.fitting_doors.ensures c.args.family)
