use Rattle.std.proofs.Common.{◌∙◌, arith}
use Rattle.std.specs.FinMap as finite
use Rattle.kp_rules.proofs.MapPlaces.{entry_added}
use Rattle.kp_rules.proofs.chain_map.chains_of.Goals as goal

pub loop-i-preserved-in-Some : goal.loop-i-preserved-in-Some
loop-i-preserved-in-Some c =
    let at = c.in_ok-new.ensures.at ∙ c.same.ensures in
    let rules = c.in_ok-new.ensures.rules ∙ c.in_ok-copy.ensures ∙ c.shared.ensures in
    record {
      same =
          c.write.ensures.chains
          ∙ (λ j. finite.insert (c.loop-i.invariant.same j) (at j) (rules j))
          ∙ entry_added c.args.entries.now.entries c.loop-i.i c.in-Some.at.now c.in-Some.rules.now (omega arith) c.in-Some.ensures.entry;
      room = omega (arith, c.write.ensures.room, c.loop-i.invariant.room);
    }
