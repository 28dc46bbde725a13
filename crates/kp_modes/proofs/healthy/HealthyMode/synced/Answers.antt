use Rattle.std.proofs.Common.{subst, sym}
use Rattle.kp_lemmas.proofs.Results.{err_anyhow, ok_anyhow}
use Rattle.kp_health.specs.Known.{AreBetween, AreKnown}
use Rattle.kp_health_defs.specs.HealthText.{health_lines}
use Rattle.kp_plane.specs.Parts.{objects_before, objects_in}
use Rattle.kp_store.specs.Touched.{is_touched}
use Rattle.kp_mode.proofs.CallLemmas.{adds, adds_none}
use Rattle.kp_modes.proofs.Synced.{between, known_all, known_but}
use Rattle.kp_modes.proofs.healthy.HealthyMode.synced.Goals as goal

pub returns : goal.returns
returns c = λ state stands.
    let p = c.args.plane.now in
    let were = subst (AreKnown p.config (objects_before p)) (sym c.self.view_is) stands in
    let known =
    known_all p c.config.result.now c.objects.result.now (is_touched c.touched.result.now)
    c.self.inside.answers c.update.new.self c.config.ensures c.objects.ensures
    (known_but p c.own_keys.ensures.after_events c.untouched_health.ensures
    (is_touched c.touched.result.now) c.self.inside.answers c.touched.ensures were) c.in_ok-update.ensures.ok in
    adds c.push_lines.result (λ s. AreKnown p.config (objects_in p) c.update.new.self)
    (AreBetween p.config (objects_before p) (objects_in p) c.update.new.self) c.args.text.now c.push_lines.new.text
    (health_lines p.config (objects_in p)) state (c.push_lines.ensures.added p.config (objects_in p) known)
    (ok_anyhow c.push_lines.result _ known) c.push_lines.ensures.front
    (err_anyhow c.push_lines.result _ (between p c.config.result.now c.objects.result.now c.self.inside.answers c.update.new.self
    c.config.ensures c.objects.ensures were c.update.ensures.newer))

pub returns-in_err-update : goal.returns-in_err-update
returns-in_err-update c = λ state stands.
    let p = c.args.plane.now in
    adds_none _ (λ s. AreKnown p.config (objects_in p) c.update.new.self)
    (AreBetween p.config (objects_before p) (objects_in p) c.update.new.self) c.args.text.now
    (health_lines p.config (objects_in p)) state c.from_residual.result c.from_residual.ensures.1
    (between p c.config.result.now c.objects.result.now c.self.inside.answers c.update.new.self c.config.ensures
    c.objects.ensures (subst (AreKnown p.config (objects_before p)) (sym c.self.view_is) stands) c.update.ensures.newer)
