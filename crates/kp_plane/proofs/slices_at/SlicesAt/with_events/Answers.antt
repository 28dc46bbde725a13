use Rattle.std.proofs.Common.{◌≡◌, ◌+◌, subst, arith}
use Rattle.kp_plane.specs.Invariant.{IsFed}
use Rattle.kp_plane.proofs.SlicesAtPlaces.{fed_none, fed_on}
use Rattle.kp_plane.proofs.slices_at.SlicesAt.with_events.Goals as goal

pub loop-slices-init : goal.loop-slices-init
loop-slices-init c = (
  fed_none c.args.config.now c.args.events.now c.args.self c.requires.place c.requires.controlled,
  c.requires.later,
)

pub loop-slices-preserved : goal.loop-slices-preserved
loop-slices-preserved c =
    let before = c.loop-slices.slices in
    let after = c.after_event.new.self in
    let fed = c.in_ok-after_event.ensures in
    let at = fed.at in (
      fed_on c.args.config.now c.args.events.now c.args.self before after before.place.at
          (before.place.at + 1) c.loop-slices.invariant.0 fed,
      omega (arith, at, c.loop-slices-test.true),
    )

pub loop-slices-smaller : goal.loop-slices-smaller
loop-slices-smaller c =
    let at = c.in_ok-after_event.ensures.at in omega (arith, at, c.loop-slices-test.true)

pub returns : goal.returns
returns c =
    let last = c.loop-slices.slices in
    let all : last.place.at ≡ c.args.to =
    omega (arith, c.loop-slices.invariant.1, c.loop-slices-test.false) in
    subst (λ n. IsFed c.args.config.now c.args.events.now n c.args.self last) all
    c.loop-slices.invariant.0
