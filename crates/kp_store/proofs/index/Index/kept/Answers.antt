use Rattle.std.proofs.Common.{List, map, sym, ap, ◌∙◌, Bor}
use Rattle.std.specs.List.{list_any}
use Rattle.std.specs.Option.{unwrap_or}
use Rattle.std.specs.Ordering.{eq_by_cmp}
use Rattle.std.specs.FinMap as finite
use Rattle.std.proofs.lemmas.Result.{IfOk-weaker}
use Rattle.kp_base.specs.Keys.{key_cmp}
use Rattle.kp_base.specs.declared.key.ObjectKey.{ObjectKey}
use Rattle.kp_store.specs.Indexes.{Keys, has}
use Rattle.kp_store.proofs.Ordered.{none_before}
use Rattle.kp_store.proofs.index.Index.kept.Goals as goal

pub returns-in-Some : goal.returns-in-Some
returns-in-Some g c =
    IfOk-weaker c.keys.result _ _ (λ ks is k.
    is k
    ∙ ap (λ o. finite.contains_key (unwrap_or {T = Keys} o finite.empty) k) c.in-Some.ensures.value
    ∙ ap (λ es. has g.T.PartialEq.eq es c.args.tag.now k) c.self.view_is) c.keys.ensures

pub returns-in-None : goal.returns-in-None
returns-in-None g c = λ k.
    ap (λ (qs : List (Bor ObjectKey)). list_any (eq_by_cmp key_cmp k) (map (λ q. q.now) qs)) c.new.ensures.items
    ∙ sym (none_before k)
    ∙ ap (λ o. finite.contains_key (unwrap_or {T = Keys} o finite.empty) k) c.in-None.ensures.value
    ∙ ap (λ es. has g.T.PartialEq.eq es c.args.tag.now k) c.self.view_is
