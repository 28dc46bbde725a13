use Rattle.std.proofs.Common.{ℕ, not, refl, sym, ap, ◌∙◌, subst, arith}
use Rattle.kp_track_defs.specs.Kept.{is_sent_to}
use Rattle.kp_conntrack.proofs.Dead.{all_sized}
use Rattle.kp_conntrack.proofs.Marking.{passes_is}
use Rattle.kp_conntrack.proofs.Settled.{all_unsent, bucket_at, bucket_at_end, bucket_first, bucket_kept, bucket_on}
use Rattle.kp_conntrack.proofs.Walked.{walk_in, walk_over}
use Rattle.kp_conntrack.proofs.rows.drop_sent_to.Goals as goal

pub loop-turn-init : goal.loop-turn-init
loop-turn-init c = (
  λ moment laid. laid,
  refl,
  bucket_first c.args.rows.now c.args.order.now c.args.index.now c.requires.0 c.requires.1 c.args.endpoint.now c.endpoint_bucket-bucket.result c.endpoint_bucket-bucket.ensures.value c.front-next.result c.front-next.ensures.value,
)

pub returns-in_default-clause-entries : goal.returns-in_default-clause-entries
returns-in_default-clause-entries c =
    sym (bucket_at_end c.args.rows.now c.loop-turn.order c.loop-turn.index c.requires.0 (c.loop-turn.invariant.0 c.requires.0 c.requires.1) c.args.endpoint.now c.endpoint_bucket-bucket.result c.endpoint_bucket-bucket.ensures.value c.loop-turn.next c.in_default.is c.loop-turn._turn c.loop-turn.invariant.2)
    ∙ c.loop-turn.invariant.1

pub after-next-requires-clause-list_in : goal.after-next-requires-clause-list_in
after-next-requires-clause-list_in c =
    let laid = c.loop-turn.invariant.0 c.requires.0 c.requires.1 in
    omega (arith, laid.found.endpoints.sized.count, c.endpoint_bucket-bucket.ensures.low)

pub after-next-requires-clause-row_in : goal.after-next-requires-clause-row_in
after-next-requires-clause-row_in c =
    walk_in _ _ c.in-Some.row c.loop-turn._turn (bucket_at c.args.rows.now c.loop-turn.order c.loop-turn.index c.requires.0 (c.loop-turn.invariant.0 c.requires.0 c.requires.1) c.args.endpoint.now c.endpoint_bucket-bucket.result c.endpoint_bucket-bucket.ensures.value c.loop-turn.next c.in-Some.row c.in-Some.is c.loop-turn._turn c.loop-turn.invariant.2)

pub free_if-requires-clause-order_in : goal.free_if-requires-clause-order_in
free_if-requires-clause-order_in c = (c.loop-turn.invariant.0 c.requires.0 c.requires.1).ordered.sized

pub free_if-requires-clause-sized : goal.free_if-requires-clause-sized
free_if-requires-clause-sized c = all_sized _ _ _ _ (c.loop-turn.invariant.0 c.requires.0 c.requires.1)

pub free_if-requires-clause-row_in : goal.free_if-requires-clause-row_in
free_if-requires-clause-row_in c =
    let laid = c.loop-turn.invariant.0 c.requires.0 c.requires.1 in
    let at = bucket_at c.args.rows.now c.loop-turn.order c.loop-turn.index c.requires.0 laid c.args.endpoint.now c.endpoint_bucket-bucket.result c.endpoint_bucket-bucket.ensures.value c.loop-turn.next c.in-Some.row c.in-Some.is c.loop-turn._turn c.loop-turn.invariant.2 in
    laid.ordered.within c.in-Some.row
    (bucket_kept c.args.rows.now c.loop-turn.order c.loop-turn.index c.requires.0 laid c.args.endpoint.now c.endpoint_bucket-bucket.result c.endpoint_bucket-bucket.ensures.value c.in-Some.row (walk_in _ _ c.in-Some.row c.loop-turn._turn at))

pub loop-turn-preserved : goal.loop-turn-preserved
loop-turn-preserved c =
    let laid = c.loop-turn.invariant.0 c.requires.0 c.requires.1 in
    let at = bucket_at c.args.rows.now c.loop-turn.order c.loop-turn.index c.requires.0 laid c.args.endpoint.now c.endpoint_bucket-bucket.result c.endpoint_bucket-bucket.ensures.value c.loop-turn.next c.in-Some.row c.in-Some.is c.loop-turn._turn c.loop-turn.invariant.2 in
    let kept = bucket_kept c.args.rows.now c.loop-turn.order c.loop-turn.index c.requires.0 laid c.args.endpoint.now c.endpoint_bucket-bucket.result c.endpoint_bucket-bucket.ensures.value c.in-Some.row (walk_in _ _ c.in-Some.row c.loop-turn._turn at) in
    let within = laid.ordered.within c.in-Some.row kept in
    let step = bucket_on c.args.rows.now c.loop-turn.order c.loop-turn.index c.requires.0 laid c.args.endpoint.now c.endpoint_bucket-bucket.result c.endpoint_bucket-bucket.ensures.value c.in-Some.row c.loop-turn._turn at c.after-next.result c.after-next.ensures.value c.passes.result
    (c.passes.ensures ∙ passes_is (is_sent_to c.args.endpoint.now) c.args.rows.now c.in-Some.row (omega (arith, within, laid.len)))
    c.free_if.new.order c.free_if.new.index c.free_if.ensures in (
      λ moment before. step.0 moment (c.loop-turn.invariant.0 moment before),
      step.1 ∙ c.loop-turn.invariant.1,
      step.2,
    )

pub returns-clause-entries : goal.returns-clause-entries
returns-clause-entries c =
    sym (all_unsent c.args.rows.now c.loop-turn.order c.loop-turn.index c.requires.0 (c.loop-turn.invariant.0 c.requires.0 c.requires.1) c.args.endpoint.now c.endpoint_bucket-bucket.result c.endpoint_bucket-bucket.ensures.value
    (walk_over _ _ c.loop-turn.next c.loop-turn._turn c.loop-turn.invariant.2 (omega arith)))
    ∙ c.loop-turn.invariant.1
