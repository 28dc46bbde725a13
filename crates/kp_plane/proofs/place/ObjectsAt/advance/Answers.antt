use Rattle.std.proofs.Common.{◌≡◌, ◌<◌, ◌+◌, ℕ, length, get_or, refl, sym, ap, ◌∙◌, arith}
use Rattle.kp_plane.proofs.Places.{next_place}
use Rattle.kp_plane.proofs.place.ObjectsAt.advance.Goals as goal

pub loop-at-preserved : goal.loop-at-preserved
loop-at-preserved c =
    let events = c.args.events.now in
    let event = c.index-events-at.result in
    let same : c.loop-at.self.at ≡ c.loop-at.at = c.loop-at.invariant.1 in
    let few : c.loop-at.self.at < length events = omega (arith, same, c.loop-at-test.true, c.requires.within) in (
      next_place events c.loop-at.self (record { objects = c.apply.new.self; at = c.loop-at.at + 1 }) event c.loop-at.invariant.0 few
          (c.index-events-at.is ∙ ap (λ (n : ℕ). get_or events n event) (sym same)) c.in_ok-apply.ensures.ok (ap (λ (n : ℕ). n + 1) (sym same)),
      refl,
      omega (arith, c.loop-at.invariant.2),
    )
