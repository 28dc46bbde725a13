use Rattle.std.proofs.Common.{sym, arith}
use Rattle.kp_conntrack.specs.Laid.{free_rows}
use Rattle.kp_conntrack.proofs.Added.{entries_added, first_in, laid_added}
use Rattle.kp_conntrack.proofs.Heard.{has_room_for, kept_more, no_room, nothing_kept_more}
use Rattle.kp_conntrack.proofs.connections.Connections.add.Goals as goal

pub returns-in_default-clause-room : goal.returns-in_default-clause-room
returns-in_default-clause-room c =
    rw (← c.self.view_is) (sym (no_room c.self.inside.rows.items c.self.inside.order c.self.inside.index c.self.inside.moment c.self.invariant c.in_default.ensures.value))

pub returns-in_default-clause-after : goal.returns-in_default-clause-after
returns-in_default-clause-after c =
    rw (← c.self.view_is) (nothing_kept_more c.self.inside.rows.items c.self.inside.order c.self.inside.index c.self.inside.moment c.self.invariant c.args.entry c.in_default.ensures.value)

pub invariant_of-self : goal.invariant_of-self
invariant_of-self c =
    laid_added c.self.inside.rows.items c.self.inside.order c.move_back.new.self c.self.inside.index c.place.new.self c.self.inside.moment c.in-Some.row c.args.entry c.self.invariant (first_in c.in-Some.row (free_rows c.self.inside.order) (sym c.in-Some.ensures.value)) (c.in-Some.ensures.elsewhere 0 (λ same. cc)) c.in-Some.ensures.apart (let rows = c.self.invariant.ordered.sized.rows in let within = c.in-Some.ensures.within in omega (arith, rows, within)) (rw (← c.self.view_is) at c.requires) c.move_back.ensures c.place.ensures

pub returns-clause-room : goal.returns-clause-room
returns-clause-room c =
    rw (← c.self.view_is) (sym (has_room_for c.self.inside.rows.items c.self.inside.order c.self.inside.index c.self.inside.moment c.self.invariant c.in-Some.row c.in-Some.ensures.value))

pub returns-clause-after : goal.returns-clause-after
returns-clause-after c =
    rw (← c.self.view_is)
    (kept_more c.self.inside.rows.items c.self.inside.order c.self.inside.index c.self.inside.moment c.self.invariant c.args.entry c.in-Some.row c.in-Some.ensures.value _
    (entries_added c.self.inside.rows.items c.self.inside.order c.move_back.new.self c.self.inside.index c.place.new.self c.self.inside.moment c.in-Some.row c.args.entry c.self.invariant (first_in c.in-Some.row (free_rows c.self.inside.order) (sym c.in-Some.ensures.value)) (c.in-Some.ensures.elsewhere 0 (λ same. cc)) c.in-Some.ensures.apart (let rows = c.self.invariant.ordered.sized.rows in let within = c.in-Some.ensures.within in omega (arith, rows, within)) (rw (← c.self.view_is) at c.requires) c.move_back.ensures c.place.ensures))
