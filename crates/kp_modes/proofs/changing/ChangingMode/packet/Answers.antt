use Rattle.kp_lemmas.proofs.Results.{err_anyhow, ok_anyhow}
use Rattle.kp_mode_defs.specs.Mode.{answered}
use Rattle.kp_mode.specs.Calls.{covered_by}
use Rattle.kp_mode.proofs.CallLemmas.{answers}
use Rattle.kp_modes.proofs.changing.ChangingMode.packet.Goals as goal

pub returns : goal.returns
returns c = λ state stands.
    answers c.answered.result (λ s. Unit {0}) (Unit {0}) c.args.text.now c.answered.new.text
    (answered (covered_by c.args.plane.now) c.args.number c.args.line.now c.args.lists.now state)
    c.answered.new.lists c.answered.ensures.text c.answered.ensures.lists
    (ok_anyhow c.answered.result (Unit {0}) tt) c.answered.ensures.front (err_anyhow c.answered.result (Unit {0}) tt)
