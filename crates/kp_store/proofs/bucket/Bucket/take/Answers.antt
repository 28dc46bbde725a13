use Rattle.std.proofs.Common.{◌&&◌, not, filter, rules, ap, ◌∙◌}
use Rattle.std.specs.Ordering.{eq_by_cmp}
use Rattle.std.specs.FinMap as finite
use Rattle.std.proofs.lemmas.Fn.{filter_same}
use Rattle.kp_base.specs.Keys.{key_cmp}
use Rattle.kp_base.specs.contracts.key.ObjectKeyPartialEq.TheImpl as key_eq
use Rattle.kp_base.proofs.KeyOrder.{key_ties}
use Rattle.kp_store.specs.Indexes.{are_once, with_keys}
use Rattle.kp_store.proofs.KeyLists.{taken}
use Rattle.kp_store.proofs.Once.{no_more, once_taken}
use Rattle.kp_store.proofs.bucket.Bucket.take.Goals as goal

pub returns : goal.returns
returns c = λ k.
    let key = c.args.key.now in
    let few = c.self.inside.few.items in
    let kept = filter_same _ (λ o. not (key_eq.ghosts.eq o key)) _ (λ x b f called. (search rules, search rules)) few c.retain.new.self.items c.retain.ensures.filtered
    ∙ (λ i. filter (λ o. not (key_ties o key i)) few) in
    (λ i. finite.contains_key (with_keys (kept i) (c.take.ensures i)) k)
    ∙ taken few c.self.inside.many key k
    ∙ ap (λ m. not (eq_by_cmp key_cmp k key) && finite.contains_key m k) c.self.view_is

pub invariant_of-self : goal.invariant_of-self
invariant_of-self c =
    let key = c.args.key.now in
    let few = c.self.inside.few in
    let kept = filter_same _ (λ o. not (key_eq.ghosts.eq o key)) _ (λ x b f called. (search rules, search rules)) few.items c.retain.new.self.items c.retain.ensures.filtered
    ∙ (λ i. filter (λ o. not (key_ties o key i)) few.items) in (
      no_more _ _ _ _ c.retain.ensures.bound c.retain.new.self.ok.0 few.ok.0 c.self.invariant.0,
      (λ i. are_once (kept i) (c.take.ensures i)) ∙ once_taken c.self.inside.many key few.items c.self.invariant.1,
    )
