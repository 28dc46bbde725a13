use Rattle.std.proofs.Common.{[], ap, append-nil, subst, sym, ◌∙◌}
use Rattle.kp_plane.specs.Parts.{objects_before, objects_in}
use Rattle.kp_track_defs.specs.Kept.{without_endpoints}
use Rattle.kp_track_defs.specs.Stands.{stands_by}
use Rattle.kp_track_defs.specs.Tracking.{after_sync}
use Rattle.kp_udp_endpoints.specs.Counts.{AreCounted}
use Rattle.kp_mode.proofs.CallLemmas.{adds_none}
use Rattle.kp_modes.specs.Tracked.{StandsFor}
use Rattle.kp_modes.proofs.Follows.{after_synced}
use Rattle.kp_modes.proofs.Synced.{counted_now, fallen_now, followed}
use Rattle.kp_modes.proofs.tracking.TrackingMode.synced.Goals as goal

pub returns : goal.returns
returns c = λ state stands.
    let p = c.args.plane.now in
    let kept = c.args.self.now in
    let follows = followed p c.own_keys.ensures.after_events c.config.result.now c.objects.result.now c.as_slice.result.now
    c.as_slice-2.result.now c.config.ensures c.objects.ensures (c.as_slice.ensures ∙ c.in_ok-four.ensures)
    (c.as_slice-2.ensures ∙ c.in_ok-six.ensures) kept.counts stands.counted in
    let fallen = c.in_ok-fallen.fallen.items in (
      sym (append-nil _),
      after_synced c.kept_openers.ensures.clears c.kept_openers.ensures.syncs p.config (objects_before p) (objects_in p)
          kept.connections kept.counts state stands fallen
          (fallen_now p c.config.result.now c.objects.result.now c.config.ensures c.objects.ensures fallen
          (c.in_ok-fallen.ensures.fallen (objects_before p) follows))
          c.clear_all.new.connections
          (c.clear_all.ensures ∙ ap (λ es. without_endpoints es kept.connections) c.as_slice-3.ensures.value) c.follow.new.self
          (counted_now p c.config.result.now c.objects.result.now c.config.ensures c.objects.ensures c.follow.new.self
          (c.in_ok-fallen.ensures.counted (objects_before p) follows)),
    )

-- without memory all is as before the sync
pub returns-in_err-four : goal.returns-in_err-four
returns-in_err-four c = λ state stands.
    let p = c.args.plane.now in
    let kept = c.args.self.now in
    adds_none _ (StandsFor kept.connections kept.counts p.config (objects_in p))
    (AreCounted p.config (objects_before p) kept.counts) c.args._text.now []
    (after_sync (stands_by p.config (objects_in p)) state) c.from_residual.result c.from_residual.ensures.1 stands.counted

pub returns-in_err-six : goal.returns-in_err-six
returns-in_err-six c = λ state stands.
    let p = c.args.plane.now in
    let kept = c.args.self.now in
    adds_none _ (StandsFor kept.connections kept.counts p.config (objects_in p))
    (AreCounted p.config (objects_before p) kept.counts) c.args._text.now []
    (after_sync (stands_by p.config (objects_in p)) state) c.from_residual-in_err-six.result
    c.from_residual-in_err-six.ensures.1 stands.counted

pub returns-in_err-fallen : goal.returns-in_err-fallen
returns-in_err-fallen c = λ state stands.
    let p = c.args.plane.now in
    let kept = c.args.self.now in
    let counts = c.follow.new.self in
    adds_none _ (StandsFor kept.connections counts p.config (objects_in p))
    (AreCounted p.config (objects_before p) counts) c.args._text.now []
    (after_sync (stands_by p.config (objects_in p)) state) c.from_residual-in_err-fallen.result
    c.from_residual-in_err-fallen.ensures.1
    (subst (AreCounted p.config (objects_before p)) (sym c.in_err-fallen.ensures.stays) stands.counted)
