use Rattle.std.proofs.Common.{sym, ap, ◌∙◌}
use Rattle.std.specs.Map.{lookup}
use Rattle.kp_store.specs.Indexes.{has}
use Rattle.kp_store.proofs.Ordered.{unused}
use Rattle.kp_store.proofs.index.Index.is_used.Goals as goal

pub returns : goal.returns
returns g c = λ no k.
    ap (λ es. has g.T.PartialEq.eq es c.args.tag.now k) (sym c.self.view_is)
    ∙ unused (lookup (g.T.PartialEq.eq c.args.tag.now) c.self.inside.buckets.entries) k (sym c.contains_key.ensures ∙ no)
