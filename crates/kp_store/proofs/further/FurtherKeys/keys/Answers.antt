use Rattle.std.proofs.Common.{List, map, sym, ap, ◌∙◌, Bor}
use Rattle.std.specs.List.{list_any}
use Rattle.std.specs.Ordering.{eq_by_cmp}
use Rattle.std.specs.FinMap as finite
use Rattle.kp_base.specs.Keys.{key_cmp}
use Rattle.kp_base.specs.declared.key.ObjectKey.{ObjectKey}
use Rattle.kp_store.specs.contracts.further.FurtherKeys.{the_view}
use Rattle.kp_store.proofs.Ordered.{none_before}
use Rattle.kp_store.proofs.further.FurtherKeys.keys.Goals as goal

pub returns-in-None : goal.returns-in-None
returns-in-None c = λ k.
    ap (λ (qs : List (Bor ObjectKey)). list_any (eq_by_cmp key_cmp k) (map (λ q. q.now) qs)) c.new.ensures.items
    ∙ sym (none_before k)
    ∙ ap (λ o. finite.contains_key (the_view (record { keys = o })) k) (sym c.in-None.is)
    ∙ ap (λ m. finite.contains_key m k) c.self.view_is
