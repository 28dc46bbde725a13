use Rattle.std.proofs.Common.{◌+◌, ◌∙◌, refl, sym, ap, arith}
use Rattle.kp_walker.specs.Progress.{state_of, tried_of}
use Rattle.kp_walker.proofs.TriedRules.{matched_on, over_on, run_matched, run_over}
use Rattle.kp_walker.proofs.HeldSteps.{meets_on, none_held, passes_none, passes_on, passes_to, rule_fails, rule_holds, rule_refused}
use Rattle.kp_walker.proofs.SetSteps.{on_err}
use Rattle.kp_walker.proofs.hook.Hook.next_held.Goals as goal

pub loop-next-init : goal.loop-next-init
loop-next-init g c = record {
  run = λ draws depth drawn.
      let h = c.args.self.now in
      passes_none h draws depth c.args.chain.now c.args.from
      (state_of h.header c.args.progress.now c.args.lists.now);
  on = omega arith;
  size = refl;
}

-- the only match of a rule holds
pub returns-in-Matched-clause-met : goal.returns-in-Matched-clause-met
returns-in-Matched-clause-met g c draws depth drawn =
    let h = c.args.self.now in
    let n = c.in-Matched.next in
    let s = state_of h.header c.args.progress.now c.args.lists.now in
    let t = state_of h.header c.loop-next.progress c.loop-next.lists in
    let u = state_of h.header c.try_run.new.progress c.try_run.new.lists in
    meets_on h draws depth c.args.chain.now c.args.from c.loop-next.place n.place n.rule.now s t u
    (c.loop-next.invariant.run draws depth drawn)
    (run_matched h draws depth c.args.chain.now c.loop-next.place t u c.try_run.result n
    c.in-Matched.is (c.try_run.ensures.tried draws depth drawn))

pub returns-in-Matched-clause-placed : goal.returns-in-Matched-clause-placed
returns-in-Matched-clause-placed g c =
    let at = matched_on c.args.chain.now c.loop-next.place c.try_run.result c.in-Matched.next
    c.in-Matched.is c.try_run.ensures.placed in
    record {
      on = omega (arith, c.loop-next.invariant.on, at.on);
      within = at.within;
      fits = at.fits;
    }

-- the next rule's matches come to the set
pub returns-in_err-try_rule-clause-refused : goal.returns-in_err-try_rule-clause-refused
returns-in_err-try_rule-clause-refused g c = on_err c.from_residual.result (λ draws depth drawn.
    let h = c.args.self.now in
    let n = c.in-Some.next in
    let next = c.in-Some.ensures.next in
    let s = state_of h.header c.args.progress.now c.args.lists.now in
    let t = state_of h.header c.loop-next.progress c.loop-next.lists in
    let u = state_of h.header c.try_run.new.progress c.try_run.new.lists in
    let left = c.try_rule.new.lists in
    (passes_to h draws depth c.args.chain.now c.args.to.now c.args.from c.loop-next.place
    c.in-Over.after n.place s t u c.requires.heading next.next (c.loop-next.invariant.run draws depth drawn)
    (run_over h draws depth c.args.chain.now c.loop-next.place t u c.try_run.result c.in-Over.after
    c.in-Over.is (c.try_run.ensures.tried draws depth drawn))).sets left
    (rule_refused h draws depth c.args.chain.now n.place n.rule.now next.within next.here u left
    (c.in_err-try_rule.ensures.err draws drawn)))

-- they hold
pub returns-then-branch-clause-met : goal.returns-then-branch-clause-met
returns-then-branch-clause-met g c draws depth drawn =
    let h = c.args.self.now in
    let n = c.in-Some.next in
    let next = c.in-Some.ensures.next in
    let s = state_of h.header c.args.progress.now c.args.lists.now in
    let t = state_of h.header c.loop-next.progress c.loop-next.lists in
    let u = state_of h.header c.try_run.new.progress c.try_run.new.lists in
    let v = state_of h.header c.try_rule.new.progress c.try_rule.new.lists in
    meets_on h draws depth c.args.chain.now c.args.from n.place n.place n.rule.now s u v
    (passes_to h draws depth c.args.chain.now c.args.to.now c.args.from c.loop-next.place
    c.in-Over.after n.place s t u c.requires.heading next.next (c.loop-next.invariant.run draws depth drawn)
    (run_over h draws depth c.args.chain.now c.loop-next.place t u c.try_run.result c.in-Over.after
    c.in-Over.is (c.try_run.ensures.tried draws depth drawn)))
    (rule_holds h draws depth c.args.chain.now n.place n.rule.now next.within next.here u v
    (ap (λ b. tried_of h.header b c.try_rule.new.progress c.try_rule.new.lists) (sym c.if-branch.true)
    ∙ c.in_ok-try_rule.ensures.ok draws drawn))

pub returns-then-branch-clause-placed : goal.returns-then-branch-clause-placed
returns-then-branch-clause-placed g c =
    let next = c.in-Some.ensures.next in
    record {
      on = omega (
        arith,
        c.loop-next.invariant.on,
        next.on,
        over_on c.args.chain.now c.loop-next.place c.try_run.result c.in-Over.after c.in-Over.is c.try_run.ensures.placed,
      );
      within = next.within;
      fits = next.fits;
    }

-- they don't hold
pub loop-next-preserved : goal.loop-next-preserved
loop-next-preserved g c =
    let h = c.args.self.now in
    let n = c.in-Some.next in
    let next = c.in-Some.ensures.next in
    let v = state_of h.header c.try_rule.new.progress c.try_rule.new.lists in
    record {
      run = λ draws depth drawn.
          let s = state_of h.header c.args.progress.now c.args.lists.now in
          let t = state_of h.header c.loop-next.progress c.loop-next.lists in
          let u = state_of h.header c.try_run.new.progress c.try_run.new.lists in
          passes_on h draws depth c.args.chain.now c.args.from n.place (n.place + 1) s u v
          (passes_to h draws depth c.args.chain.now c.args.to.now c.args.from c.loop-next.place
          c.in-Over.after n.place s t u c.requires.heading next.next
          (c.loop-next.invariant.run draws depth drawn)
          (run_over h draws depth c.args.chain.now c.loop-next.place t u c.try_run.result c.in-Over.after
          c.in-Over.is (c.try_run.ensures.tried draws depth drawn)))
          (rule_fails h draws depth c.args.chain.now n.place n.rule.now next.within next.here u v
          (ap (λ b. tried_of h.header b c.try_rule.new.progress c.try_rule.new.lists) (sym c.if-branch.false)
          ∙ c.in_ok-try_rule.ensures.ok draws drawn));
      on = omega (
        arith,
        c.loop-next.invariant.on,
        next.on,
        over_on c.args.chain.now c.loop-next.place c.try_run.result c.in-Over.after c.in-Over.is c.try_run.ensures.placed,
      );
      size = c.in_ok-try_rule.ensures.size ∙ c.try_run.ensures.size ∙ c.loop-next.invariant.size;
    }

-- no rule is left
pub returns-in_default-clause-met : goal.returns-in_default-clause-met
returns-in_default-clause-met g c draws depth drawn =
    let h = c.args.self.now in
    let s = state_of h.header c.args.progress.now c.args.lists.now in
    let t = state_of h.header c.loop-next.progress c.loop-next.lists in
    let u = state_of h.header c.try_run.new.progress c.try_run.new.lists in
    none_held h draws depth c.args.chain.now c.args.to.now c.args.from c.in-Over.after s u
    c.requires.heading (c.next_rule.ensures.none c.in_default.is)
    (passes_on h draws depth c.args.chain.now c.args.from c.loop-next.place c.in-Over.after s t u
    (c.loop-next.invariant.run draws depth drawn)
    (run_over h draws depth c.args.chain.now c.loop-next.place t u c.try_run.result c.in-Over.after
    c.in-Over.is (c.try_run.ensures.tried draws depth drawn)))

pub loop-next-smaller : goal.loop-next-smaller
loop-next-smaller g c =
    let next = c.in-Some.ensures.next in
    omega (
      arith,
      next.on,
      next.within,
      over_on c.args.chain.now c.loop-next.place c.try_run.result c.in-Over.after c.in-Over.is c.try_run.ensures.placed,
    )
