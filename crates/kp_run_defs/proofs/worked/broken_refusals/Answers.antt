use Rattle.std.proofs.Common.{◌≡◌, true, false, [], Some, None, refl, sym, ◌∙◌}
use Rattle.kp_run_defs.specs.LiveLines.{settings_read, nothing_read}
use Rattle.kp_run_defs.specs.WorkedLive.{made_up}
use Rattle.kp_run_defs.proofs.PodRuns.{no_clash_after}
use Rattle.kp_run_defs.proofs.worked.broken_refusals.Goals as goal

pub returns-clause-made_up : goal.returns-clause-made_up
returns-clause-made_up c legal =
    let clash = legal.refusals.0.0 refl in
    let none = no_clash_after (settings_read nothing_read) clash.events [] in
    let h : None ≡ Some made_up = sym none ∙ clash.is_clash in cc

pub returns-clause-packet : goal.returns-clause-packet
returns-clause-packet c legal = let h : false ≡ true = legal.seen in cc
