use Rattle.std.proofs.Common.{sym, ◌∙◌}
use Rattle.kp_store.proofs.Buckets.{kept_there}
use Rattle.kp_store.proofs.index.Index.put.Goals as goal

pub returns-then-holds-clause-ok : goal.returns-then-holds-clause-ok
returns-then-holds-clause-ok g c =
    kept_there g.T.PartialEq.eq g.met.T.Eq.laws c.args.self.now c.args.tag.now c.args.key.now (sym c.holds.ensures ∙ c.if-holds.true)
