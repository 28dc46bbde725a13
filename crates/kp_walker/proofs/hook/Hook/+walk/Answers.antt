use Rattle.std.proofs.Common.{◌+◌, ◌-◌, ◌∙◌, sym, ap, subst, arith, option_copied, None, Some, length, inl, inr, ◌==◌}
use Rattle.kp_table_defs.specs.Walk.{and_then, rules_outcome, returned_from, target_outcome}
use Rattle.kp_walker.specs.Flow.{jump_of, outcome_of, IsThrough}
use Rattle.kp_walker.specs.Held.{outcome_at, sets_at}
use Rattle.kp_walker.specs.Progress.{state_of}
use Rattle.kp_walker.specs.Sets.{OnNext}
use Rattle.kp_walker.specs.Shorn.{shorn}
use Rattle.kp_walker.specs.Surroundings.{surroundings_of, chains_of}
use Rattle.kp_walker.proofs.HeldSteps.{found_held, found_none}
use Rattle.kp_walker.proofs.SetSteps.{on_err, chain_sets}
use Rattle.kp_walker.proofs.Steps.{chain_found, nothing_done, went_next, shorn_returned, stays}
use Rattle.kp_walker.proofs.hook.Hook.+walk.Goals as goal

-- the jump goes to no chain
pub run_chain-returns-in-None-clause-outcome : goal.run_chain-returns-in-None-clause-outcome
run_chain-returns-in-None-clause-outcome g t c draws drawn =
    let h = c.args.self.now in
    ap (shorn g.R.Recorder.keeps)
    (chain_found (surroundings_of h.around.now draws) (chains_of h.around.now) h.table c.args.depth (c.args.depth - 1)
    c.args.chain.now (state_of h.header c.args.progress.now c.args.lists.now) None (omega arith)
    (sym (ap option_copied c.in-None.is) ∙ c.requires.found))

-- the chain has no rules
pub run_chain-returns-then-is_empty-clause-outcome : goal.run_chain-returns-then-is_empty-clause-outcome
run_chain-returns-then-is_empty-clause-outcome g t c draws drawn =
    let h = c.args.self.now in
    ap (shorn g.R.Recorder.keeps)
    (nothing_done (surroundings_of h.around.now draws) (chains_of h.around.now) h.table c.args.depth (c.args.depth - 1)
    c.args.chain.now (state_of h.header c.args.progress.now c.args.lists.now) c.in-Some.found.now (omega arith)
    (ap (λ rs. length rs == 0) (sym c.rules.ensures) ∙ sym c.is_empty.ensures ∙ c.if-is_empty.true)
    (sym (ap option_copied c.in-Some.is) ∙ c.requires.found))

-- what the chain's rules do, and back behind the jump
pub run_chain-returns-in_ok-flow-in-Some-clause-outcome : goal.run_chain-returns-in_ok-flow-in-Some-clause-outcome
run_chain-returns-in_ok-flow-in-Some-clause-outcome g t c draws drawn =
    let h = c.args.self.now in
    let e = surroundings_of h.around.now draws in
    let s = state_of h.header c.args.progress.now c.args.lists.now in
    let keeps = g.R.Recorder.keeps in
    let less = c.args.depth - 1 in
    c.returned_from.ensures.outcome h.header c.run_rules.new.progress c.run_rules.new.lists
    ∙ ap (λ o. shorn keeps (returned_from c.args.chain.now o)) (c.in_ok-flow-in-Some.ensures.outcome draws drawn)
    ∙ shorn_returned keeps c.args.chain.now (rules_outcome e (jump_of h draws less) c.in-Some.found.now s)
    ∙ ap (shorn keeps) (chain_found e (chains_of h.around.now) h.table c.args.depth less c.args.chain.now s
    (Some c.in-Some.found.now) (omega arith) (sym (ap option_copied c.in-Some.is) ∙ c.requires.found))

-- the chain's rules come to the set
pub run_chain-returns-in_err-flow-in-Some-clause-refused : goal.run_chain-returns-in_err-flow-in-Some-clause-refused
run_chain-returns-in_err-flow-in-Some-clause-refused g t c = on_err c.from_residual.result (λ draws drawn.
    let h = c.args.self.now in
    let e = surroundings_of h.around.now draws in
    let s = state_of h.header c.args.progress.now c.args.lists.now in
    let less = c.args.depth - 1 in
    chain_sets e (chains_of h.around.now) h.table c.args.depth less c.args.chain.now s c.run_rules.new.lists
    (Some c.in-Some.found.now) (omega arith) (sym (ap option_copied c.in-Some.is) ∙ c.requires.found)
    (c.in_err-flow-in-Some.ensures.refused draws drawn))

-- a rule's matches come to the set
pub run_rules-returns-in_err-next-clause-refused : goal.run_rules-returns-in_err-next-clause-refused
run_rules-returns-in_err-next-clause-refused g t c = on_err c.from_residual.result (λ draws drawn.
    c.loop-next.invariant.sets draws drawn c.next_held.new.lists
    (c.in_err-next.ensures.refused draws c.args.depth drawn))

-- its target comes to the set
pub run_rules-returns-in_err-flow-clause-refused : goal.run_rules-returns-in_err-flow-clause-refused
run_rules-returns-in_err-flow-clause-refused g t c = on_err c.from_residual-in_err-flow.result (λ draws drawn.
    let h = c.args.self.now in
    let left = c.run_target.new.lists in
    let met = found_held h draws c.args.depth c.args.chain.now c.loop-next.from
    (state_of h.header c.loop-next.progress c.loop-next.lists)
    (state_of h.header c.next_held.new.progress c.next_held.new.lists) c.in_ok-next.field-0 c.in-Some.next c.in-Some.is
    (c.in_ok-next.ensures.met draws c.args.depth drawn) in
    c.loop-next.invariant.sets draws drawn left
    (met.sets left (inl (c.in_err-flow.ensures.refused draws drawn))))

-- the rule goes on
pub run_rules-loop-next-preserved : goal.run_rules-loop-next-preserved
run_rules-loop-next-preserved g t c =
    let h = c.args.self.now in
    let n = c.in-Some.next in
    let then = state_of h.header c.run_target.new.progress c.run_target.new.lists in
    let way = g.R.Recorder.way c.run_target.new.recorder in
    record {
      same = λ draws drawn.
          let met = found_held h draws c.args.depth c.args.chain.now c.loop-next.from
          (state_of h.header c.loop-next.progress c.loop-next.lists)
          (state_of h.header c.next_held.new.progress c.next_held.new.lists) c.in_ok-next.field-0 n c.in-Some.is
          (c.in_ok-next.ensures.met draws c.args.depth drawn) in
          let went = went_next g.R.Recorder.keeps _ then
          (sym (ap (λ f. outcome_of h.header f c.run_target.new.progress way c.run_target.new.lists) c.in-Next.is)
          ∙ c.in_ok-flow.ensures.outcome draws drawn) in
          ap (λ o. and_then o (outcome_at h draws c.args.depth c.args.chain.now (n.place + 1))) (sym went)
          ∙ met.same ∙ c.loop-next.invariant.same draws drawn;
      sets = λ draws drawn left set.
          let met = found_held h draws c.args.depth c.args.chain.now c.loop-next.from
          (state_of h.header c.loop-next.progress c.loop-next.lists)
          (state_of h.header c.next_held.new.progress c.next_held.new.lists) c.in_ok-next.field-0 n c.in-Some.is
          (c.in_ok-next.ensures.met draws c.args.depth drawn) in
          let went = went_next g.R.Recorder.keeps _ then
          (sym (ap (λ f. outcome_of h.header f c.run_target.new.progress way c.run_target.new.lists) c.in-Next.is)
          ∙ c.in_ok-flow.ensures.outcome draws drawn) in
          c.loop-next.invariant.sets draws drawn left (met.sets left
          (inr (subst (λ o. OnNext o (λ u. sets_at h draws c.args.depth c.args.chain.now (n.place + 1) u left))
          (sym went) set)));
      new = subst (λ f. IsThrough f c.args.depth way) c.in-Next.is c.in_ok-flow.ensures.way;
      trail = c.in_ok-flow.ensures.trail ∙ c.loop-next.invariant.trail;
      size = c.in_ok-flow.ensures.size ∙ c.in_ok-next.ensures.size ∙ c.loop-next.invariant.size;
    }

-- the rule does not go on
pub run_rules-returns-in_default-flow : goal.run_rules-returns-in_default-flow
run_rules-returns-in_default-flow g t c = record {
  outcome = λ draws drawn.
      let h = c.args.self.now in
      let n = c.in-Some.next in
      let s = state_of h.header c.next_held.new.progress c.next_held.new.lists in
      let met = found_held h draws c.args.depth c.args.chain.now c.loop-next.from
      (state_of h.header c.loop-next.progress c.loop-next.lists) s c.in_ok-next.field-0 n c.in-Some.is
      (c.in_ok-next.ensures.met draws c.args.depth drawn) in
      stays g.R.Recorder.keeps h.header c.in_ok-flow.flow c.run_target.new.progress
      (g.R.Recorder.way c.run_target.new.recorder) c.run_target.new.lists
      (target_outcome (jump_of h draws c.args.depth) n.rule.now.target s)
      (outcome_at h draws c.args.depth c.args.chain.now (n.place + 1))
      c.in_default-flow.not-Next (c.in_ok-flow.ensures.outcome draws drawn)
      ∙ ap (shorn g.R.Recorder.keeps) (met.same ∙ c.loop-next.invariant.same draws drawn);
  way = c.in_ok-flow.ensures.way;
  refused = tt;
  trail = c.in_ok-flow.ensures.trail ∙ c.loop-next.invariant.trail;
  size = c.in_ok-flow.ensures.size ∙ c.in_ok-next.ensures.size ∙ c.loop-next.invariant.size;
}

-- no rule is left
pub run_rules-returns-clause-outcome : goal.run_rules-returns-clause-outcome
run_rules-returns-clause-outcome g t c draws drawn =
    let h = c.args.self.now in
    ap (shorn g.R.Recorder.keeps)
    (sym (found_none h draws c.args.depth c.args.chain.now c.loop-next.from
    (state_of h.header c.loop-next.progress c.loop-next.lists)
    (state_of h.header c.next_held.new.progress c.next_held.new.lists) c.in_ok-next.field-0 c.in_default.is
    (c.in_ok-next.ensures.met draws c.args.depth drawn))
    ∙ c.loop-next.invariant.same draws drawn)
