use Rattle.std.proofs.Common.{sym, ◌∙◌, arith}
use Rattle.kp_links.proofs.Ringed.{is_unlinked, no_owner_read, owner_read, rings_unlinked, row_after, row_before, stays_unlinked}
use Rattle.kp_links.proofs.links.Links.unlink.Goals as goal

pub skip-requires-clause-prev_in : goal.skip-requires-clause-prev_in
skip-requires-clause-prev_in c =
    let owned = (owner_read c.self.inside.owners.items c.args.row _ (rw (← c.self.view_is) at c.requires) c.index.ensures (sym c.is_some.ensures ∙ c.if-is_some.true)) in
    omega (arith, row_before _ _ _ c.self.invariant c.args.row owned.0 owned.1)

pub skip-requires-clause-next_in : goal.skip-requires-clause-next_in
skip-requires-clause-next_in c =
    let owned = (owner_read c.self.inside.owners.items c.args.row _ (rw (← c.self.view_is) at c.requires) c.index.ensures (sym c.is_some.ensures ∙ c.if-is_some.true)) in
    omega (arith, row_after _ _ _ c.self.invariant c.args.row owned.0 owned.1)

pub invariant_of-self : goal.invariant_of-self
invariant_of-self c =
    let owned = (owner_read c.self.inside.owners.items c.args.row _ (rw (← c.self.view_is) at c.requires) c.index.ensures (sym c.is_some.ensures ∙ c.if-is_some.true)) in
    rings_unlinked c.self.inside.links.items c.self.inside.owners.items c.self.inside.heads c.self.invariant
    c.skip.new.links.items c.args.row owned.0 (omega arith) owned.1 c.skip.ensures.skips

pub returns-then-is_some : goal.returns-then-is_some
returns-then-is_some c =
    let owned = (owner_read c.self.inside.owners.items c.args.row _ (rw (← c.self.view_is) at c.requires) c.index.ensures (sym c.is_some.ensures ∙ c.if-is_some.true)) in
    rw (← c.self.view_is)
    (is_unlinked c.self.inside.links.items c.self.inside.owners.items c.self.inside.heads c.self.invariant
    c.skip.new.links.items c.args.row owned.0 (omega arith) owned.1 c.skip.ensures.skips)

pub returns-else-is_some : goal.returns-else-is_some
returns-else-is_some c =
    rw (← c.self.view_is)
    (stays_unlinked _ _ _ c.self.invariant c.args.row
    (no_owner_read c.self.inside.owners.items c.args.row _ (rw (← c.self.view_is) at c.requires) c.index.ensures (sym c.is_some.ensures ∙ c.if-is_some.false)))
