use Rattle.std.proofs.lemmas.Result.{on_err_weaker, on_ok_weaker}
use Rattle.kp_mode_defs.specs.Mode.{answered}
use Rattle.kp_mode.specs.Calls.{covered_by}
use Rattle.kp_mode.proofs.CallLemmas.{answers}
use Rattle.kp_mode.proofs.mode.ReplayingMode.packet.Goals as goal

pub returns : goal.returns
returns c = λ state stands.
    answers c.answered.result (λ s. Unit {0}) (Unit {0}) c.args.text.now c.answered.new.text
    (answered (covered_by c.args.plane.now) c.args.number c.args.line.now c.args.lists.now state)
    c.answered.new.lists c.answered.ensures.text c.answered.ensures.lists
    (on_ok_weaker c.answered.result (λ text. tt) c.answered.ensures.text)
    c.answered.ensures.front (on_err_weaker c.answered.result (λ front. tt) c.answered.ensures.front)
