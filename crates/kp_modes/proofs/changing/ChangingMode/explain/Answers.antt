use Rattle.kp_lemmas.proofs.Results.{err_anyhow, ok_anyhow}
use Rattle.kp_mode_defs.specs.Mode.{explained}
use Rattle.kp_mode.specs.Calls.{covered_by}
use Rattle.kp_mode.proofs.CallLemmas.{adds}
use Rattle.kp_modes.proofs.changing.ChangingMode.explain.Goals as goal

pub returns-clause-explains : goal.returns-clause-explains
returns-clause-explains c = λ state stands.
    adds c.explained.result (λ s. Unit {0}) (Unit {0}) c.args.text.now c.explained.new.text
    (explained (covered_by c.args.plane.now) c.args.number c.args.line.now c.args.lists.now state)
    state c.explained.ensures.text (ok_anyhow c.explained.result (Unit {0}) tt)
    c.explained.ensures.front (err_anyhow c.explained.result (Unit {0}) tt)
