use Rattle.std.proofs.Common.{◌≡◌, length, arith}
use Rattle.std.proofs.lemmas.Result.{IfOk-weaker}
use Rattle.kp_object_defs.specs.SlicesNow.{slices_now}
use Rattle.kp_plane.specs.Invariant.{IsFed, IsSlicesAt}
use Rattle.kp_plane.proofs.SlicesAtPlaces.{at_all, fed_at}
use Rattle.kp_plane.proofs.slices_at.SlicesAt.caught_up.Goals as goal
use Rattle.kp_types.specs.Setting.{both_families}

pub returns-clause-at : goal.returns-clause-at
returns-clause-at c =
    let config = c.args.config.now in
    let events = c.args.events.now in
    let counts = c.args.counts.now in
    let before = c.loop-slices.slices in
    let is = c.loop-slices.invariant in
    IfOk-weaker c.with_events.result (IsFed config events (length events) before)
    (IsSlicesAt config events counts)
    (λ fed f. fed_at config events counts before is (length events) fed f
    (λ more. omega (arith, more, c.loop-slices-test.false)))
    c.with_events.ensures

pub returns-clause-slices : goal.returns-clause-slices
returns-clause-slices c =
    let config = c.args.config.now in
    let events = c.args.events.now in
    let counts = c.args.counts.now in
    let before = c.loop-slices.slices in
    let is = c.loop-slices.invariant in
    IfOk-weaker c.with_events.result (IsFed config events (length events) before)
    (λ s. s.slices ≡ slices_now both_families config events counts)
    (λ fed f.
    let all = f.syncs in
    at_all config events counts fed (fed_at config events counts before is (length events) fed f
    (λ more. omega (arith, more, c.loop-slices-test.false)))
    f.at (omega (arith, all, c.loop-slices-test.false)))
    c.with_events.ensures
