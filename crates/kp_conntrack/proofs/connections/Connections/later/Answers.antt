use Rattle.std.proofs.Common.{None, Some, ◌∙◌, arith}
use Rattle.kp_track_defs.specs.Entries.{has_connection}
use Rattle.kp_conntrack.specs.Laid.{as_later}
use Rattle.kp_conntrack.proofs.Heard.{connection_found, found_answer, kept_heard_of, laid_heard, no_answer, nothing_changed}
use Rattle.kp_conntrack.proofs.connections.Connections.later.Goals as goal

pub find-requires : goal.find-requires
find-requires c =
    let laid = c.self.invariant in
    omega (arith, laid.found.connections.sized.count, c.requires.low)

pub returns-in_err-row-clause-answer : goal.returns-in_err-row-clause-answer
returns-in_err-row-clause-answer c =
    rw (← c.self.view_is)
    (c.from_residual.ensures
    ∙ no_answer c.self.inside.rows.items c.self.inside.order c.self.inside.index c.self.inside.moment c.self.invariant (has_connection c.args.connection.now) as_later
    (connection_found c.self.inside.rows.items c.self.inside.order c.self.inside.index c.self.inside.moment c.self.invariant c.args.connection.now c.args.bucket c.requires.bucket c.as_slice.result.now c.as_slice.ensures.value None c.in_err-row.ensures.value))

pub returns-in_err-row-clause-after : goal.returns-in_err-row-clause-after
returns-in_err-row-clause-after c =
    rw (← c.self.view_is)
    (nothing_changed c.self.inside.rows.items c.self.inside.order c.self.inside.index c.self.inside.moment c.self.invariant (has_connection c.args.connection.now) as_later
    (connection_found c.self.inside.rows.items c.self.inside.order c.self.inside.index c.self.inside.moment c.self.invariant c.args.connection.now c.args.bucket c.requires.bucket c.as_slice.result.now c.as_slice.ensures.value None c.in_err-row.ensures.value))

pub invariant_of-self : goal.invariant_of-self
invariant_of-self c =
    laid_heard c.self.inside.rows.items c.self.inside.order c.self.inside.index c.self.inside.moment c.self.invariant (has_connection c.args.connection.now) as_later c.in_ok-row.row
    (connection_found c.self.inside.rows.items c.self.inside.order c.self.inside.index c.self.inside.moment c.self.invariant c.args.connection.now c.args.bucket c.requires.bucket c.as_slice.result.now c.as_slice.ensures.value (Some c.in_ok-row.row) c.in_ok-row.ensures.value)
    c.renew-entry.new.rows.items c.renew-entry.new.ages c.renew-entry.ensures.rows c.renew-entry.ensures.ages

pub returns-clause-answer : goal.returns-clause-answer
returns-clause-answer c =
    rw (← c.self.view_is)
    (found_answer c.self.inside.rows.items c.self.inside.order c.self.inside.index c.self.inside.moment c.self.invariant (has_connection c.args.connection.now) as_later c.in_ok-row.row
    (connection_found c.self.inside.rows.items c.self.inside.order c.self.inside.index c.self.inside.moment c.self.invariant c.args.connection.now c.args.bucket c.requires.bucket c.as_slice.result.now c.as_slice.ensures.value (Some c.in_ok-row.row) c.in_ok-row.ensures.value)
    c.renew-entry.result c.renew-entry.ensures.entry)

pub returns-clause-after : goal.returns-clause-after
returns-clause-after c =
    rw (← c.self.view_is)
    (kept_heard_of c.self.inside.rows.items c.self.inside.order c.self.inside.index c.self.inside.moment c.self.invariant (has_connection c.args.connection.now) as_later c.in_ok-row.row
    (connection_found c.self.inside.rows.items c.self.inside.order c.self.inside.index c.self.inside.moment c.self.invariant c.args.connection.now c.args.bucket c.requires.bucket c.as_slice.result.now c.as_slice.ensures.value (Some c.in_ok-row.row) c.in_ok-row.ensures.value)
    c.renew-entry.new.rows.items c.renew-entry.new.ages c.renew-entry.ensures.rows c.renew-entry.ensures.ages)
