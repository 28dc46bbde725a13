use Rattle.std.proofs.Common.{◌∙◌}
use Rattle.kp_base.proofs.Maps.{inserted, lookup-get}
use Rattle.kp_types.proofs.ChainOrder.{chain_total, chain_exact, chain_tree_ties}
use Rattle.kp_writer.proofs.next.put.Goals as goal

pub returns-clause-places : goal.returns-clause-places
returns-clause-places c =
    inserted chain_total chain_tree_ties chain_exact c.args.places.now.entries
    c.insert.new.self.entries c.args.at c.args.chain c.in_ok-insert.ensures.updates.0

pub returns-clause-had : goal.returns-clause-had
returns-clause-had c =
    c.in_ok-insert.ensures.old
    ∙ lookup-get chain_total chain_tree_ties c.args.places.now.entries c.args.at
