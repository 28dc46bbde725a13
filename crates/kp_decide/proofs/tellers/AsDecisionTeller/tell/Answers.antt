use Rattle.std.proofs.Common.{◌≡◌, None, option_map, sym, ap, ◌∙◌}
use Rattle.kp_types.specs.Setting.{config_for}
use Rattle.kp_door_defs.specs.Decision.{by_filter}
use Rattle.kp_decide.specs.Told.{told}
use Rattle.kp_decide.proofs.Cases.{of_none}
use Rattle.kp_decide.proofs.tellers.AsDecisionTeller.tell.Goals as goal

-- neither a translation nor a line
pub returns-in-None-None-clause-told : goal.returns-in-None-None-clause-told
returns-in-None-None-clause-told g c t lists fitting is masked fits =
    let config = config_for c.args._family c.args._config.now in
    let packet = c.args._packet.now in
    of_none (λ u. c.left_alone.result ≡ told (by_filter config packet u lists c.args.found.now.line)) t
    (sym (ap (option_map (λ x. x.now)) c.in-None-None.is-1) ∙ is)
    (c.left_alone.ensures lists ∙ ap (λ l. told (by_filter config packet None lists l)) (sym c.in-None-None.is-0))
