use Rattle.std.proofs.Common.{sym, ap, ◌∙◌}
use Rattle.std.specs.Option.{unwrap_or}
use Rattle.std.specs.FinMap as finite
use Rattle.kp_base.specs.Keys.{key_cmp}
use Rattle.kp_store.specs.Indexes.{Keys, bucket}
use Rattle.kp_store.proofs.index.Index.size.Goals as goal

pub returns-in-Some : goal.returns-in-Some
returns-in-Some g c =
    c.size.ensures
    ∙ ap (λ o. finite.len (unwrap_or {T = Keys} o finite.empty)) c.in-Some.ensures.value
    ∙ ap (λ es. finite.len (bucket g.T.PartialEq.eq es c.args.tag.now)) c.self.view_is

pub returns-in-None : goal.returns-in-None
returns-in-None g c =
    sym (finite.len-empty key_cmp (Unit {0}))
    ∙ ap (λ o. finite.len (unwrap_or {T = Keys} o finite.empty)) c.in-None.ensures.value
    ∙ ap (λ es. finite.len (bucket g.T.PartialEq.eq es c.args.tag.now)) c.self.view_is
