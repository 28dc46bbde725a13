use Rattle.std.proofs.Common.{◌≡◌, ◌∙◌, ap, sym, subst, bytes_eq}
use Rattle.std.specs.List.{list_any}
use Rattle.kp_types.specs.Packets.{family_of_packet}
use Rattle.kp_table_defs.specs.Ranks.{is_built_in}
use Rattle.kp_table_defs.specs.Walk as walk
use Rattle.kp_walker.specs.Journeys.{stage_of, table_of, journey_of}
use Rattle.kp_walker.specs.Progress.{state_of}
use Rattle.kp_walker.specs.Sets.{ChainSets}
use Rattle.kp_walker.specs.Shorn.{shorn}
use Rattle.kp_walker.specs.Surroundings.{surroundings_of, chains_of, lookup_of}
use Rattle.kp_walker.proofs.OwnTables.{same_chain, same_hooks, same_sets, there}
use Rattle.kp_walker.proofs.SetSteps.{on_err, hook_sets}
use Rattle.kp_walker.proofs.Steps.{still_on}
use Rattle.kp_walker.proofs.hook.Surroundings.through.Goals as goal

-- nothing stopped the packet before, and its walk doesn't get stuck
pub returns-clause-hook : goal.returns-clause-hook
returns-clause-hook g c draws drawn =
    let around = c.args.self.now in
    let e = surroundings_of around draws in
    let at = chains_of around in
    let family = family_of_packet around.packet.now in
    let table = table_of c.args.stage in
    let chain = c.args.chain.now in
    let trail = g.R.Recorder.trail in
    let keeps = g.R.Recorder.keeps in
    let old = c.args.journey.now in
    let before = c.args.lists.now in
    let s = state_of old.header old.progress before in
    let outcome = walk.chain_outcome e (lookup_of around) table walk.most_chains chain s in
    let same : walk.chain_outcome e at c.table.result walk.most_chains chain s ≡ outcome =
    ap (λ t. walk.chain_outcome e at t walk.most_chains chain s) c.table.ensures
    ∙ sym (same_chain e at family table walk.most_chains chain s) in
    still_on keeps e (lookup_of around) (stage_of c.args.stage) table chain
    (journey_of trail old before) (journey_of trail c.after_hook.new.self c.run_chain.new.lists)
    (sym c.if-is_some.ensures)
    (λ j start. c.after_hook.ensures.hook j outcome before c.run_chain.new.lists
    (ap (λ t. record (journey_of trail old before) { trail = t }) c.in_ok-flow.ensures.trail
    ∙ start)
    (c.in_ok-flow.ensures.outcome draws drawn ∙ ap (shorn keeps) same)
    (λ stuck. c.ranked_walks_end.ensures around.chains.now.chains c.requires.ranked c.table.result
    chain
    (ap (λ t. is_built_in t chain) c.table.ensures
    ∙ ap (list_any (bytes_eq chain)) (same_hooks family c.args.stage) ∙ c.requires.built_in)
    (there c.walked-found.result (at (record { table = c.table.result; chain = chain }))
    (c.walked-found.ensures
    ∙ ap (λ n. at (record { table = c.table.result; chain = n })) c.same.ensures)
    c.if-is_none.ensures)
    e s (same ∙ stuck)))

-- the hook's chain comes to the set
pub returns-in_err-flow-clause-refused : goal.returns-in_err-flow-clause-refused
returns-in_err-flow-clause-refused g c = on_err c.from_residual.result (λ draws drawn.
    let around = c.args.self.now in
    let e = surroundings_of around draws in
    let at = chains_of around in
    let family = family_of_packet around.packet.now in
    let table = table_of c.args.stage in
    let chain = c.args.chain.now in
    let old = c.args.journey.now in
    let left = c.run_chain.new.lists in
    let s = state_of old.header old.progress c.args.lists.now in
    hook_sets g.R.Recorder.keeps e (lookup_of around) table chain
    (journey_of g.R.Recorder.trail old c.args.lists.now) left (sym c.if-is_some.ensures)
    (subst (λ sets. sets) (sym (same_sets e at family table walk.most_chains chain s left))
    (subst (λ t. ChainSets e at t walk.most_chains chain s left) c.table.ensures
    (c.in_err-flow.ensures.refused draws drawn))))
