use Rattle.std.proofs.Common.{◌||◌, sym, ap, ◌∙◌}
use Rattle.std.specs.Option.{unwrap_or}
use Rattle.std.specs.FinMap as finite
use Rattle.kp_store.specs.Indexes.{Keys, has}
use Rattle.std.proofs.lemmas.Result.{on_ok_weaker}
use Rattle.kp_store.proofs.Ordered.{none_before}
use Rattle.kp_store.proofs.index.Index.put_into.Goals as goal

pub returns-in-Some : goal.returns-in-Some
returns-in-Some g c =
    on_ok_weaker c.put_into.result (λ is k.
    is k
    ∙ ap (λ o. finite.contains_key (unwrap_or {T = Keys} o finite.empty) k || finite.contains_key c.args.keys.now k) c.in-Some.ensures.value
    ∙ ap (λ es. has g.T.PartialEq.eq es c.args.tag.now k || finite.contains_key c.args.keys.now k) c.self.view_is) c.put_into.ensures

pub returns-in-None : goal.returns-in-None
returns-in-None g c = λ k.
    ap (λ b. b || finite.contains_key c.args.keys.now k)
    (sym (none_before k)
    ∙ ap (λ o. finite.contains_key (unwrap_or {T = Keys} o finite.empty) k) c.in-None.ensures.value
    ∙ ap (λ es. has g.T.PartialEq.eq es c.args.tag.now k) c.self.view_is)
