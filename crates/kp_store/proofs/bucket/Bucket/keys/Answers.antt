use Rattle.std.proofs.Common.{◌≡◌, ◌||◌, ℕ, Bool, List, map, Ok, sym, ap, ◌∙◌, Bor}
use Rattle.std.specs.List.{list_any}
use Rattle.std.specs.Ordering.{eq_by_cmp}
use Rattle.std.specs.FinMap as finite
use Rattle.std.proofs.lemmas.Iterator.{YieldsList-from_slice}
use Rattle.std.proofs.lemmas.Iterator.Consumers.{map_from_collect}
use Rattle.std.proofs.lemmas.List.{map-append}
use Rattle.std.proofs.lemmas.List.Folds.{list_any-append}
use Rattle.kp_base.specs.Keys.{key_cmp}
use Rattle.kp_base.specs.declared.key.ObjectKey.{ObjectKey}
use Rattle.kp_store.proofs.KeyLists.{in_keys}
use Rattle.kp_store.proofs.bucket.Bucket.keys.Goals as goal

pub returns : goal.returns
returns c = λ k.
    let few = c.self.inside.few.items in
    let many = c.self.inside.many in
    let test : List ObjectKey → Bool = list_any (eq_by_cmp key_cmp k) in
    let now : List (Bor ObjectKey) → List ObjectKey = λ qs. map (λ q. q.now) qs in
    let listed : now c.in_ok-keys.keys.items ≡ few = map_from_collect {E = ℕ} (Ok c.in_ok-keys.keys) c.in_ok-keys.ensures.ran (YieldsList-from_slice c.deref.result.now cc) ∙ c.deref.ensures.value in
    ap (λ qs. test (now qs)) c.in_ok-append.ensures.items
    ∙ ap test (map-append (λ (q : Bor ObjectKey). q.now) c.in_ok-keys.keys.items c.in_ok-many.many.items)
    ∙ list_any-append (eq_by_cmp key_cmp k) (now c.in_ok-keys.keys.items) (now c.in_ok-many.many.items)
    ∙ (λ i. test (listed i) || c.in_ok-many.ensures k i)
    ∙ sym (in_keys few many k)
    ∙ ap (λ m. finite.contains_key m k) c.self.view_is
