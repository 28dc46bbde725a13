use Rattle.std.proofs.Common.{◌+◌, ap, ◌∙◌}
use Rattle.std.specs.FinMap as finite
use Rattle.kp_store.proofs.Once.{count_once}
use Rattle.kp_store.proofs.bucket.Bucket.size.Goals as goal

pub returns : goal.returns
returns c =
    let few = c.self.inside.few in
    (λ i. (c.len.ensures ∙ few.ok.0) i + c.len-2.ensures.len i)
    ∙ count_once few.items c.self.inside.many c.self.invariant.1
    ∙ ap finite.len c.self.view_is
