use Rattle.std.proofs.Common.{◌≤◌, ◌||◌, ◌∷◌, ◌++◌, [], length, rules, sym, ap, subst, ◌∙◌}
use Rattle.std.specs.Ordering.{eq_by_cmp}
use Rattle.std.specs.FinMap as finite
use Rattle.kp_base.specs.Keys.{key_cmp}
use Rattle.kp_store.specs.declared.bucket.TheConstants.{FEW}
use Rattle.kp_store.specs.Indexes.{are_once, with_keys}
use Rattle.std.proofs.lemmas.Result.{on_ok_weaker}
use Rattle.kp_store.proofs.KeyLists.{pushed, put_beside}
use Rattle.kp_store.proofs.Once.{once_beside, once_pushed, room_for_one}
use Rattle.kp_store.proofs.OwnObjects.{either_way}
use Rattle.kp_store.proofs.bucket.Bucket.add.Goals as goal

pub returns-in_ok-push-clause-ok : goal.returns-in_ok-push-clause-ok
returns-in_ok-push-clause-ok c = λ k.
    let few = c.self.inside.few.items in
    let many = c.self.inside.many in
    let key = c.args.key.now in
    let items = c.in_ok-push.ensures.items ∙ ap (λ x. few ++ x ∷ []) c.in_ok-key.ensures in
    ap (λ ks. finite.contains_key (with_keys ks many) k) items
    ∙ pushed few many key k
    ∙ ap (λ m. eq_by_cmp key_cmp k key || finite.contains_key m k) c.self.view_is

pub returns-else-len-lt-FEW-clause-ok : goal.returns-else-len-lt-FEW-clause-ok
returns-else-len-lt-FEW-clause-ok c =
    let few = c.self.inside.few.items in
    let many = c.self.inside.many in
    let key = c.args.key.now in
    on_ok_weaker c.put.result (λ is k.
    ap (λ m. finite.contains_key (with_keys few m) k) (is ∙ ap (λ x. finite.insert many x tt) c.in_ok-key.ensures)
    ∙ put_beside few many key k
    ∙ ap (λ m. eq_by_cmp key_cmp k key || finite.contains_key m k) c.self.view_is) c.put.ensures.ok

pub invariant_of-self-then-len-lt-FEW : goal.invariant_of-self-then-len-lt-FEW
invariant_of-self-then-len-lt-FEW c =
    let few = c.self.inside.few.items in
    let many = c.self.inside.many in
    let key = c.args.key.now in
    let items = c.in_ok-push.ensures.items ∙ ap (λ x. few ++ x ∷ []) c.in_ok-key.ensures in
    let absent = ap (λ m. finite.contains_key m key) c.self.view_is ∙ c.requires.absent in (
      subst (λ ks. length ks ≤ FEW) (sym items) (room_for_one few key FEW (search rules)),
      ap (λ ks. are_once ks many) items ∙ once_pushed many key few c.self.invariant.1 absent,
    )

pub invariant_of-self-else-len-lt-FEW : goal.invariant_of-self-else-len-lt-FEW
invariant_of-self-else-len-lt-FEW c =
    let few = c.self.inside.few.items in
    let many = c.self.inside.many in
    let key = c.args.key.now in
    let absent = ap (λ m. finite.contains_key m key) c.self.view_is ∙ c.requires.absent in (
      c.self.invariant.0,
      either_way c.put.result c.put.ensures.ok c.put.ensures.err
          (λ is. ap (are_once few) (is ∙ ap (λ x. finite.insert many x tt) c.in_ok-key.ensures) ∙ once_beside many key few c.self.invariant.1 absent)
          (λ is. ap (are_once few) is ∙ c.self.invariant.1),
    )
