use Rattle.std.proofs.Common.{subst, sym, ap, ◌∙◌}
use Rattle.kp_conntrack.specs.Laid.{IsLaid}
use Rattle.kp_conntrack.specs.Marked.{AreMarkedBy, HasRows}
use Rattle.kp_conntrack.specs.Laid.{kept_rows}
use Rattle.kp_conntrack.specs.Standing.{udp_targets}
use Rattle.kp_conntrack.proofs.Marking.{few_listed}
use Rattle.kp_conntrack.proofs.Settled.{settled_entries}
use Rattle.kp_conntrack.proofs.connections.Connections.settle.Goals as goal

pub mark_standing-requires : goal.mark_standing-requires
mark_standing-requires c =
    subst (λ rows. HasRows rows c.self.inside.index.endpoints) (sym c.as_slice-rows.ensures.value)
    (few_listed c.self.inside.rows.items c.self.inside.order c.self.inside.index c.self.inside.moment c.self.invariant)

pub drop_unmarked-requires : goal.drop_unmarked-requires
drop_unmarked-requires c = (
  c.self.inside.moment,
  subst (λ rows. IsLaid rows c.self.inside.order c.self.inside.index c.self.inside.moment) (sym c.as_slice-rows.ensures.value) c.self.invariant,
)

pub invariant_of-self : goal.invariant_of-self
invariant_of-self c =
    let slice = c.as_slice-rows.ensures.value in
    subst (λ rows. IsLaid rows c.drop_unmarked.new.order c.drop_unmarked.new.index c.self.inside.moment) slice
    (c.drop_unmarked.ensures.laid c.self.inside.moment
    (subst (λ rows. IsLaid rows c.self.inside.order c.self.inside.index c.self.inside.moment) (sym slice) c.self.invariant))

pub returns : goal.returns
returns c =
    rw (← c.self.view_is)
    (settled_entries c.self.inside.rows.items c.as_slice-rows.result.now c.as_slice-rows.ensures.value c.self.inside.order c.self.inside.index c.self.inside.moment c.self.invariant (udp_targets c.args.table.now.chains) c.mark_standing.new.marks c.mark_standing.ensures c.drop_unmarked.new.order c.drop_unmarked.ensures.entries)
