use Rattle.kp_base.proofs.Maps.{inserted, removed}
use Rattle.kp_vmap_defs.proofs.Destinations.{destination_exact, destination_ties, destination_total}
use Rattle.kp_vmap.proofs.Answered.{answered}
use Rattle.kp_vmap.proofs.Keeping.{inserted_at, removed_at}
use Rattle.kp_vmap.proofs.keep.keep_place.Goals as goal

pub returns-then-is_empty-clause-place : goal.returns-then-is_empty-clause-place
returns-then-is_empty-clause-place c =
    removed_at c.args.places.now.entries c.swap_remove.new.self.entries c.args.at c.args.ports
    (removed destination_total destination_ties destination_exact c.args.places.now.entries
    c.swap_remove.new.self.entries c.args.at c.swap_remove.ensures.updates.0)
    (c.is_empty.ensures.0 c.if-is_empty.true)

pub returns-else-is_empty-clause-place : goal.returns-else-is_empty-clause-place
returns-else-is_empty-clause-place c =
    inserted_at c.args.places.now.entries c.insert.new.self.entries c.args.at c.args.ports
    (inserted destination_total destination_ties destination_exact c.args.places.now.entries
    c.insert.new.self.entries c.args.at c.args.ports
    (answered _ c.insert.result c.insert.ensures.updates (c.insert.ensures.succeeds c.requires)).0)
