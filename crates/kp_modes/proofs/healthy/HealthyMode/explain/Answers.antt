use Rattle.std.proofs.Common.{inl}
use Rattle.kp_lemmas.proofs.Results.{err_anyhow, ok_anyhow}
use Rattle.kp_health.specs.Known.{AreBetween, AreKnown}
use Rattle.kp_mode_defs.specs.Mode.{explained}
use Rattle.kp_plane.specs.Parts.{objects_in}
use Rattle.kp_mode.specs.Calls.{covered_by}
use Rattle.kp_mode.proofs.CallLemmas.{adds}
use Rattle.kp_modes.proofs.healthy.HealthyMode.explain.Goals as goal

pub returns-clause-explains : goal.returns-clause-explains
returns-clause-explains c = λ state stands.
    let p = c.args.plane.now in
    adds c.explained.result (λ s. AreKnown p.config (objects_in p) c.args.self.now)
    (AreBetween p.config (objects_in p) (objects_in p) c.args.self.now) c.args.text.now c.explained.new.text
    (explained (covered_by p) c.args.number c.args.line.now c.args.lists.now state)
    state c.explained.ensures.text (ok_anyhow c.explained.result _ stands)
    c.explained.ensures.front (err_anyhow c.explained.result _ (λ key. inl (stands key)))
