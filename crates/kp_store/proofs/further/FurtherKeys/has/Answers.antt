use Rattle.std.proofs.Common.{sym, ap, ◌∙◌}
use Rattle.std.specs.FinMap as finite
use Rattle.kp_store.specs.contracts.further.FurtherKeys.{the_view}
use Rattle.kp_store.proofs.Ordered.{none_before}
use Rattle.kp_store.proofs.further.FurtherKeys.has.Goals as goal

pub returns-in-None : goal.returns-in-None
returns-in-None c =
    sym (none_before c.args.key.now)
    ∙ ap (λ o. finite.contains_key (the_view (record { keys = o })) c.args.key.now) (sym c.in-None.is)
    ∙ ap (λ m. finite.contains_key m c.args.key.now) c.self.view_is
