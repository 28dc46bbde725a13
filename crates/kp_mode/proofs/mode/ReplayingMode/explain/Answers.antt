use Rattle.std.proofs.lemmas.Result.{on_err_weaker, on_ok_weaker}
use Rattle.kp_mode_defs.specs.Mode.{explained}
use Rattle.kp_mode.specs.Calls.{covered_by}
use Rattle.kp_mode.proofs.CallLemmas.{adds}
use Rattle.kp_mode.proofs.mode.ReplayingMode.explain.Goals as goal

pub returns-clause-explains : goal.returns-clause-explains
returns-clause-explains c = λ state stands.
    adds c.explained.result (λ s. Unit {0}) (Unit {0}) c.args.text.now c.explained.new.text
    (explained (covered_by c.args.plane.now) c.args.number c.args.line.now c.args.lists.now state)
    state c.explained.ensures.text
    (on_ok_weaker c.explained.result (λ text. tt) c.explained.ensures.text)
    c.explained.ensures.front
    (on_err_weaker c.explained.result (λ front. tt) c.explained.ensures.front)
