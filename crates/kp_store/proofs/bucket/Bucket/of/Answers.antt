use Rattle.std.proofs.Common.{◌∷◌, ◌++◌, [], length, ap, ◌∙◌}
use Rattle.std.specs.FinMap as finite
use Rattle.kp_store.specs.Indexes.{are_once, with_keys}
use Rattle.kp_store.proofs.KeyLists.{alone}
use Rattle.kp_store.proofs.Once.{one_is_few, once_alone}
use Rattle.kp_store.proofs.bucket.Bucket.of.Goals as goal

pub returns : goal.returns
returns c = λ k.
    let items = c.in_ok-push.ensures.items ∙ (λ i. c.in_ok-few.ensures.items i ++ c.in_ok-copy.ensures i ∷ []) in
    (λ i. finite.contains_key (with_keys (items i) (c.none.ensures i)) k)
    ∙ alone c.args.key.now k

pub invariant_of-result : goal.invariant_of-result
invariant_of-result c =
    let items = c.in_ok-push.ensures.items ∙ (λ i. c.in_ok-few.ensures.items i ++ c.in_ok-copy.ensures i ∷ []) in
    (one_is_few _ (ap length items), (λ i. are_once (items i) (c.none.ensures i)) ∙ once_alone c.args.key.now)
