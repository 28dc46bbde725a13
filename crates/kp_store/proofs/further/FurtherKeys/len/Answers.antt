use Rattle.std.proofs.Common.{sym, ap, ◌∙◌}
use Rattle.std.specs.FinMap as finite
use Rattle.kp_base.specs.Keys.{key_cmp}
use Rattle.kp_store.specs.contracts.further.FurtherKeys.{the_view}
use Rattle.kp_store.proofs.further.FurtherKeys.len.Goals as goal

pub returns-in-None-clause-len : goal.returns-in-None-clause-len
returns-in-None-clause-len c =
    sym (finite.len-empty key_cmp (Unit {0}))
    ∙ ap (λ o. finite.len (the_view (record { keys = o }))) (sym c.in-None.is)
    ∙ ap finite.len c.self.view_is
