use Rattle.std.proofs.Common.{◌∙◌, inl, inr}
use Rattle.kp_types.specs.declared.chain.TableName.TheVariants.{Nat}
use Rattle.kp_table_defs.specs.Walk as walk
use Rattle.kp_walker.specs.Journeys.{beginning}
use Rattle.kp_walker.specs.Surroundings.{surroundings_of, lookup_of}
use Rattle.kp_walker.proofs.SetSteps.{on_err}
use Rattle.kp_walker.proofs.Steps.{told_beginning}
use Rattle.kp_walker.proofs.hook.Surroundings.go.Goals as goal

-- the first hook comes to the set
pub returns-in_err-enter-clause-refused : goal.returns-in_err-enter-clause-refused
returns-in_err-enter-clause-refused g c = on_err c.from_residual.result (λ draws drawn.
    let packet = c.args.self.now.packet.now in
    inl (c.in_err-enter.ensures.refused draws drawn (beginning packet c.args.lists.now)
    (c.new-journey.ensures.start c.args.lists.now ∙ told_beginning g.R.Recorder.keeps packet c.args.lists.now)))

-- the way behind it comes to the set
pub returns-in_err-onward-clause-refused : goal.returns-in_err-onward-clause-refused
returns-in_err-onward-clause-refused g c = on_err c.from_residual-in_err-onward.result (λ draws drawn.
    let packet = c.args.self.now.packet.now in
    let start = beginning packet c.args.lists.now in
    let entered = walk.through (surroundings_of c.args.self.now draws) (lookup_of c.args.self.now) walk.Translating Nat
    (walk.first_hook packet.from) start in
    inr (c.in_err-onward.ensures.refused draws drawn entered (c.in_ok-enter.ensures.hook draws drawn start
    (c.new-journey.ensures.start c.args.lists.now ∙ told_beginning g.R.Recorder.keeps packet c.args.lists.now))))

-- the first hook, and the way onward
pub returns-clause-way_on : goal.returns-clause-way_on
returns-clause-way_on g c draws drawn =
    let packet = c.args.self.now.packet.now in
    let start = beginning packet c.args.lists.now in
    let entered = walk.through (surroundings_of c.args.self.now draws) (lookup_of c.args.self.now) walk.Translating Nat
    (walk.first_hook packet.from) start in
    c.in_ok-onward.ensures.way_on draws drawn entered (c.in_ok-enter.ensures.hook draws drawn start
    (c.new-journey.ensures.start c.args.lists.now ∙ told_beginning g.R.Recorder.keeps packet c.args.lists.now))
