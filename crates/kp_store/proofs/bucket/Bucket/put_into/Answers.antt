use Rattle.std.proofs.Common.{◌||◌, ℕ, Bool, List, map, Ok, ap, ◌∙◌, Bor}
use Rattle.std.specs.List.{list_any}
use Rattle.std.specs.Ordering.{eq_by_cmp}
use Rattle.std.specs.FinMap as finite
use Rattle.std.proofs.lemmas.Iterator.{YieldsList-from_slice}
use Rattle.std.proofs.lemmas.Iterator.Consumers.{map_from_collect}
use Rattle.kp_base.specs.Keys.{key_cmp}
use Rattle.kp_base.specs.declared.key.ObjectKey.{ObjectKey}
use Rattle.std.proofs.lemmas.Result.{on_ok_weaker}
use Rattle.kp_store.proofs.KeyLists.{in_both}
use Rattle.kp_store.proofs.Unions.{any_shown}
use Rattle.kp_store.proofs.bucket.Bucket.put_into.Goals as goal

pub returns : goal.returns
returns c =
    on_ok_weaker c.put_all-2.result (λ is k.
    let few = c.self.inside.few.items in
    let many = c.self.inside.many in
    let others = finite.contains_key c.args.keys.now k in
    let test : List ObjectKey → Bool = list_any (eq_by_cmp key_cmp k) in
    let seen : List (Bor ObjectKey) → Bool = λ qs. test (map (λ q. q.now) qs) in
    let listed = any_shown (λ (q : Bor ObjectKey). q.now) (eq_by_cmp key_cmp k) c.as_slice.result.now ∙ ap seen c.as_slice.ensures.value ∙ ap test (map_from_collect {E = ℕ} (Ok c.in_ok-few.few) c.in_ok-few.ensures.ran (YieldsList-from_slice c.deref.result.now cc) ∙ c.deref.ensures.value) in
    let beside = any_shown (λ (q : Bor ObjectKey). q.now) (eq_by_cmp key_cmp k) c.as_slice-2.result.now ∙ ap seen c.as_slice-2.ensures.value ∙ c.in_ok-many.ensures k in
    is k
    ∙ (λ i. beside i || c.in_ok-put_all.ensures.all k i)
    ∙ ap (λ b. finite.contains_key many k || (b || others)) listed
    ∙ in_both few many k others
    ∙ ap (λ m. finite.contains_key m k || others) c.self.view_is) c.put_all-2.ensures.all
