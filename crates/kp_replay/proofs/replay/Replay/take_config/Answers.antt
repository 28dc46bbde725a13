use Rattle.std.proofs.Common.{subst, ap, ◌∙◌}
use Rattle.kp_base.specs.declared.config.Config.{Config}
use Rattle.kp_object_defs.specs.Objects.{no_objects}
use Rattle.kp_plane.specs.Parts.{PlaneParts}
use Rattle.kp_replay.proofs.ModeLemmas.{config_taken}
use Rattle.kp_replay.proofs.replay.Replay.take_config.Goals as goal

pub returns-clause-stands : goal.returns-clause-stands
returns-clause-stands g c =
    config_taken c.args.self.now c.args.config c.in_ok-plane.plane c.in_ok-lists.lists c.requires
    c.in_ok-lists.ensures c.in_ok-plane.ensures

pub returns-clause-mode : goal.returns-clause-mode
returns-clause-mode g c =
    subst (λ (config : Config). g.M.Mode.stands c.configured.new.self config no_objects (g.M.Mode.mode.start config))
    (c.config.ensures ∙ ap (λ (p : PlaneParts). p.config) c.in_ok-plane.ensures)
    c.in_ok-configured.ensures.stands
