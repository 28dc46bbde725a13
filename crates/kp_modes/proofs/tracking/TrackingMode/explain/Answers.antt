use Rattle.kp_lemmas.proofs.Results.{err_anyhow, ok_anyhow}
use Rattle.kp_mode_defs.specs.Mode.{explained}
use Rattle.kp_plane.specs.Parts.{objects_in}
use Rattle.kp_udp_endpoints.specs.Counts.{AreCounted}
use Rattle.kp_mode.specs.Calls.{covered_by}
use Rattle.kp_mode.proofs.CallLemmas.{adds}
use Rattle.kp_modes.specs.Tracked.{StandsFor}
use Rattle.kp_modes.proofs.tracking.TrackingMode.explain.Goals as goal

pub returns-clause-explains : goal.returns-clause-explains
returns-clause-explains c = λ state stands.
    let p = c.args.plane.now in
    let kept = c.args.self.now in
    adds c.explained.result (StandsFor kept.connections kept.counts p.config (objects_in p))
    (AreCounted p.config (objects_in p) kept.counts) c.args.text.now c.explained.new.text
    (explained (covered_by p) c.args.number c.args.line.now c.args.lists.now state)
    state c.explained.ensures.text (ok_anyhow c.explained.result _ stands)
    c.explained.ensures.front (err_anyhow c.explained.result _ stands.counted)
