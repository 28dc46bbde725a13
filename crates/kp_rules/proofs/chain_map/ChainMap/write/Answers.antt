use Rattle.std.proofs.Common.{ap, ◌∙◌, arith}
use Rattle.std.specs.FinMap as finite
use Rattle.kp_rules.proofs.MapPlaces.{from_ok, written}
use Rattle.kp_rules.proofs.chain_map.ChainMap.write.Goals as goal

pub returns-clause-chains : goal.returns-clause-chains
returns-clause-chains c =
    let was = c.self.view_is ∙ c.slot_for-slot.ensures in
    let ok = c.insert.ensures.succeeds (omega (arith, c.requires, ap (λ m. m.room) was)) in
    written c.self.inside.rules.entries c.insert.new.self.entries c.args.chain.at c.in_slot.result (from_ok c.insert.result _ ok c.insert.ensures.updates).0
    ∙ (λ i. finite.insert (was i).chains c.args.chain.at (c.in_slot.ensures i))
