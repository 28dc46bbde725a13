use Rattle.std.proofs.Common.{sym, ap, ◌∙◌}
use Rattle.std.specs.Option.{unwrap_or}
use Rattle.std.specs.FinMap as finite
use Rattle.kp_store.specs.Indexes.{Keys, has}
use Rattle.kp_store.proofs.Ordered.{none_before}
use Rattle.kp_store.proofs.index.Index.holds.Goals as goal

pub returns-in-None : goal.returns-in-None
returns-in-None g c =
    sym (none_before c.args.key.now)
    ∙ ap (λ o. finite.contains_key (unwrap_or {T = Keys} o finite.empty) c.args.key.now) c.in-None.ensures.value
    ∙ ap (λ es. has g.T.PartialEq.eq es c.args.tag.now c.args.key.now) c.self.view_is
