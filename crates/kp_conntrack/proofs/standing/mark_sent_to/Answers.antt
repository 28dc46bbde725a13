use Rattle.std.proofs.Common.{ℕ, ◌<◌, Option, IfSome, Some, refl, sym, ap, ◌∙◌, subst, arith}
use Rattle.kp_conntrack.proofs.Marking.{marked_at_end, marked_on, marked_over, marking_at, marking_first, one_within, passes_is, row_among}
use Rattle.kp_conntrack.proofs.Walked.{walk_in}
use Rattle.kp_track_defs.specs.Kept.{is_sent_to}
use Rattle.kp_conntrack.proofs.standing.mark_sent_to.Goals as goal

pub loop-turn-init : goal.loop-turn-init
loop-turn-init c = (
  marking_first c.args.rows.now c.args.endpoints.now c.args.endpoint.now c.endpoint_bucket-bucket.result c.args.marks.now c.front-next.result c.front-next.ensures.value c.requires,
  row_among c.args.rows.now c.args.endpoints.now c.requires c.front-next.result c.front-next.ensures.within,
)

pub returns-in_default : goal.returns-in_default
returns-in_default c =
    marked_at_end c.args.rows.now c.args.endpoints.now c.args.endpoint.now c.endpoint_bucket-bucket.result c.args.marks.now c.loop-turn.marks c.loop-turn.next c.in_default.is c.loop-turn._turn c.loop-turn.invariant.0 c.endpoint_bucket-bucket.ensures.value

pub after-next-requires-clause-row_in : goal.after-next-requires-clause-row_in
after-next-requires-clause-row_in c =
    walk_in _ _ c.in-Some.row c.loop-turn._turn
    (marking_at c.args.rows.now c.args.endpoints.now c.args.endpoint.now c.endpoint_bucket-bucket.result c.args.marks.now c.loop-turn.marks c.loop-turn.next c.in-Some.row c.in-Some.is c.loop-turn._turn c.loop-turn.invariant.0).walked

pub mark-requires : goal.mark-requires
mark-requires c = one_within c.loop-turn.next c.in-Some.row c.in-Some.is c.loop-turn.invariant.1

pub loop-turn-preserved : goal.loop-turn-preserved
loop-turn-preserved c =
    let within = one_within c.loop-turn.next c.in-Some.row c.in-Some.is c.loop-turn.invariant.1 in
    let at = marking_at c.args.rows.now c.args.endpoints.now c.args.endpoint.now c.endpoint_bucket-bucket.result c.args.marks.now c.loop-turn.marks c.loop-turn.next c.in-Some.row c.in-Some.is c.loop-turn._turn c.loop-turn.invariant.0 in (
      marked_on c.args.rows.now c.args.endpoints.now c.args.endpoint.now c.endpoint_bucket-bucket.result c.args.marks.now c.loop-turn.marks c.in-Some.row c.loop-turn._turn at c.after-next.result c.after-next.ensures.value c.passes.result
          (c.passes.ensures ∙ passes_is (is_sent_to c.args.endpoint.now) c.args.rows.now c.in-Some.row (let len = c.requires.len in omega (arith, len, within)))
          within c.mark.ensures.room c.mark.new.self c.mark.ensures.marks,
      row_among c.args.rows.now c.args.endpoints.now c.requires c.after-next.result c.after-next.ensures.within,
    )

pub returns : goal.returns
returns c =
    marked_over c.args.rows.now c.args.endpoints.now c.args.endpoint.now c.endpoint_bucket-bucket.result c.args.marks.now c.loop-turn.marks c.loop-turn.next c.loop-turn._turn c.loop-turn.invariant.0 (omega arith) c.endpoint_bucket-bucket.ensures.value
