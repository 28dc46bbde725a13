use Rattle.std.proofs.Common.{ap, subst, sym, ◌∙◌}
use Rattle.kp_choice_defs.specs.Recent.{reaped, shard_of, sightings}
use Rattle.kp_recent.specs.Marked.{IsCovered}
use Rattle.kp_recent.proofs.Marking.{covered_reaped, reaped_same}
use Rattle.kp_recent.proofs.marked.MarkedShelf.look.Goals as goal

-- no source is too old
pub returns-then-end_look-clause-lists : goal.returns-then-end_look-clause-lists
returns-then-end_look-clause-lists c =
    let list = c.args.list.now in
    let source = c.args.source.now in
    let shelf = c.self.inside.shelf in
    let part = shard_of list source in
    sym c.self.view_is
    ∙ sym (reaped_same c.self.inside.marks shelf c.self.invariant list source c.args.now
    c.args.seconds (c.end_look.ensures.young (sightings shelf part) (c.self.invariant.all part)
    c.if-end_look.true))
    ∙ ap (λ r. reaped r list source c.args.now c.args.seconds) c.self.view_is

-- what is left of the sources is marked
pub invariant_of-self : goal.invariant_of-self
invariant_of-self c =
    subst (IsCovered c.self.inside.marks) (sym c.look-is_live.ensures.lists)
    (covered_reaped c.self.inside.marks c.self.inside.shelf c.self.invariant c.args.list.now
    c.args.source.now c.args.now c.args.seconds)
