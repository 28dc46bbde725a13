use Rattle.std.proofs.Common.{◌+◌, ◌^◌, ◌<◌, IfSome, length, refl, sym, subst, ◌∙◌, arith}
use Rattle.kp_walker.specs.Held.{Meets}
use Rattle.kp_walker.specs.Progress.{state_of}
use Rattle.kp_walker.proofs.HeldSteps.{passes_none}
use Rattle.kp_walker.proofs.TriedRules.{run_ends, run_fails, run_holds}
use Rattle.kp_walker.proofs.hook.Hook.try_run.Goals as goal

pub loop-holds-init : goal.loop-holds-init
loop-holds-init g c = record {
  run = λ draws depth drawn.
      let h = c.args.self.now in
      passes_none h draws depth c.args.chain.now c.args.from
      (state_of h.header c.args.progress.now c.args.lists.now);
  on = omega arith;
  size = refl;
}

-- the place is one of the chain's
pub at-requires : goal.at-requires
at-requires g c =
    subst (λ o. IfSome o (λ holds. c.loop-holds.place < length c.args.chain.now)) c.in-Some.is
    c.try_place.ensures.within

-- the rule's match holds
pub returns-then-holds-clause-tried : goal.returns-then-holds-clause-tried
returns-then-holds-clause-tried g c draws depth drawn =
    let h = c.args.self.now in
    let s = state_of h.header c.args.progress.now c.args.lists.now in
    let t = state_of h.header c.loop-holds.progress c.loop-holds.lists in
    let u = state_of h.header c.try_place.new.progress c.try_place.new.lists in
    subst (λ place. Meets h draws depth c.args.chain.now c.args.from place c.at.result.rule.now s u)
    (sym c.at.ensures.place)
    (run_holds h draws depth c.args.chain.now c.args.from s t c.loop-holds.place
    (c.loop-holds.invariant.run draws depth drawn) u c.try_place.result
    (c.try_place.ensures.tried draws drawn) c.in-Some.holds c.in-Some.is c.if-holds.true
    c.at.result.rule.now
    (subst (λ o. IfSome o (λ holds. c.loop-holds.place < length c.args.chain.now)) c.in-Some.is
    c.try_place.ensures.within)
    c.at.ensures.rule)

pub returns-then-holds-clause-placed : goal.returns-then-holds-clause-placed
returns-then-holds-clause-placed g c =
    let within = subst (λ o. IfSome o (λ holds. c.loop-holds.place < length c.args.chain.now))
    c.in-Some.is c.try_place.ensures.within in
    record {
      on = omega (arith, c.loop-holds.invariant.on, c.at.ensures.place);
      within = omega (arith, within, c.at.ensures.place);
      fits = omega (arith, c.at.ensures.fits, c.at.ensures.place);
    }

-- it doesn't
pub loop-holds-preserved : goal.loop-holds-preserved
loop-holds-preserved g c = record {
  run = λ draws depth drawn.
      let h = c.args.self.now in
      run_fails h draws depth c.args.chain.now c.args.from
      (state_of h.header c.args.progress.now c.args.lists.now)
      (state_of h.header c.loop-holds.progress c.loop-holds.lists) c.loop-holds.place
      (c.loop-holds.invariant.run draws depth drawn)
      (state_of h.header c.try_place.new.progress c.try_place.new.lists) c.try_place.result
      (c.try_place.ensures.tried draws drawn) c.in-Some.holds c.in-Some.is c.if-holds.false
      (subst (λ o. IfSome o (λ holds. c.loop-holds.place < length c.args.chain.now)) c.in-Some.is
      c.try_place.ensures.within);
  on = omega (arith, c.loop-holds.invariant.on);
  size = c.try_place.ensures.size ∙ c.loop-holds.invariant.size;
}

-- the rule at the place isn't one of the run
pub returns-clause-tried : goal.returns-clause-tried
returns-clause-tried g c draws depth drawn =
    let h = c.args.self.now in
    run_ends h draws depth c.args.chain.now c.args.from
    (state_of h.header c.args.progress.now c.args.lists.now)
    (state_of h.header c.loop-holds.progress c.loop-holds.lists) c.loop-holds.place
    (c.loop-holds.invariant.run draws depth drawn)
    (state_of h.header c.try_place.new.progress c.try_place.new.lists) c.try_place.result
    (c.try_place.ensures.tried draws drawn) c.in_default.is

pub overflow_add-place : goal.overflow_add-place
overflow_add-place g c =
    let fits = subst (λ o. IfSome o (λ holds. c.loop-holds.place + 1 < 2 ^ 64)) c.in-Some.is
    c.try_place.ensures.fits in
    omega (arith, fits)

pub loop-holds-smaller : goal.loop-holds-smaller
loop-holds-smaller g c =
    let within = subst (λ o. IfSome o (λ holds. c.loop-holds.place < length c.args.chain.now))
    c.in-Some.is c.try_place.ensures.within in
    omega (arith, within)
