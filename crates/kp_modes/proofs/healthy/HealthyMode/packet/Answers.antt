use Rattle.std.proofs.Common.{inl}
use Rattle.kp_lemmas.proofs.Results.{err_anyhow, ok_anyhow}
use Rattle.kp_health.specs.Known.{AreBetween, AreKnown}
use Rattle.kp_mode_defs.specs.Mode.{answered}
use Rattle.kp_plane.specs.Parts.{objects_in}
use Rattle.kp_mode.specs.Calls.{covered_by}
use Rattle.kp_mode.proofs.CallLemmas.{answers}
use Rattle.kp_modes.proofs.healthy.HealthyMode.packet.Goals as goal

pub returns : goal.returns
returns c = λ state stands.
    let p = c.args.plane.now in
    answers c.answered.result (λ s. AreKnown p.config (objects_in p) c.args.self.now)
    (AreBetween p.config (objects_in p) (objects_in p) c.args.self.now) c.args.text.now c.answered.new.text
    (answered (covered_by p) c.args.number c.args.line.now c.args.lists.now state)
    c.answered.new.lists c.answered.ensures.text c.answered.ensures.lists
    (ok_anyhow c.answered.result _ stands) c.answered.ensures.front (err_anyhow c.answered.result _ (λ key. inl (stands key)))
