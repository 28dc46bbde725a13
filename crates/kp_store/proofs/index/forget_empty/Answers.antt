use Rattle.std.proofs.Common.{None, true≢false, sym, ap, ◌∙◌}
use Rattle.std.proofs.lemmas.Option.{none-some, same_Some}
use Rattle.kp_store.proofs.Buckets.{forgotten}
use Rattle.kp_store.proofs.Filled.{filled_again, filled_there}
use Rattle.kp_store.proofs.Ordered.{none_before}
use Rattle.std.specs.FinMap as finite
use Rattle.kp_store.proofs.index.forget_empty.Goals as goal

pub returns-then-is_empty : goal.returns-then-is_empty
returns-then-is_empty g c =
    let same = g.T.PartialEq.eq in
    let es = c.args.buckets.now.entries in
    let fs = c.swap_remove.new.self.entries in
    let tag = c.args.tag.now in
    record {
      keys = forgotten same g.met.T.Eq.laws es fs tag c.in-Some.bucket.now c.in-Some.ensures.value (λ k. ap (λ m. finite.contains_key m k) (c.is_empty.ensures.0 c.if-is_empty.true) ∙ none_before k) c.swap_remove.ensures.updates.0;
      filled = λ filled. filled_again same es fs tag None c.swap_remove.ensures.updates.0 filled (none-some _);
    }

pub returns-else-is_empty-clause-filled : goal.returns-else-is_empty-clause-filled
returns-else-is_empty-clause-filled g c = λ filled.
    filled_there g.T.PartialEq.eq g.met.T.Eq.laws c.args.buckets.now.entries c.args.tag.now filled
    (λ none. true≢false (sym (c.is_empty.ensures.1 (same_Some _ _ (c.in-Some.ensures.value ∙ none))) ∙ c.if-is_empty.false))

pub returns-in-None-clause-filled : goal.returns-in-None-clause-filled
returns-in-None-clause-filled g c = λ filled.
    filled_there g.T.PartialEq.eq g.met.T.Eq.laws c.args.buckets.now.entries c.args.tag.now filled
    (λ none. none-some _ (c.in-None.ensures.value ∙ none))
