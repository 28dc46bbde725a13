use Rattle.std.proofs.Common.{◌&&◌, ◌||◌, Bool, List, map, ap, ◌∙◌, Bor}
use Rattle.std.specs.List.{list_any}
use Rattle.std.specs.Ordering.{eq_by_cmp}
use Rattle.std.specs.FinMap as finite
use Rattle.std.proofs.lemmas.List.{take_all}
use Rattle.kp_base.specs.Keys.{key_cmp}
use Rattle.kp_base.specs.declared.key.ObjectKey.{ObjectKey}
use Rattle.kp_store.specs.LookUps.{selects_if}
use Rattle.kp_store.proofs.Choosing.{any_and, at_key}
use Rattle.kp_store.proofs.Unions.{any_shown, more_beside}
use Rattle.kp_store.proofs.selecting.put_selecting.Goals as goal

pub loop-key-preserved : goal.loop-key-preserved
loop-key-preserved c = λ k.
    let services = c.args.services.now in
    let selected : ObjectKey → Bool = λ q. selects_if c.args.pod.now (finite.get services q) in
    let test : Bor ObjectKey → Bool = λ q. eq_by_cmp key_cmp k q.now && selected q.now in
    let q = c.key-item.result in
    c.in_ok-put_if.ensures k
    ∙ ap (λ o. (eq_by_cmp key_cmp k q.now && selects_if c.args.pod.now o) || finite.contains_key c.loop-key.keys k) c.get.ensures
    ∙ ap (λ b. test q || b) (c.loop-key.invariant k)
    ∙ more_beside test c.as_slice-key-items.result.now c.loop-key.key-index q (finite.contains_key c.args.keys.now k) c.loop-key-test.true c.key-item.is

pub returns : goal.returns
returns c = λ k.
    let services = c.args.services.now in
    let old = finite.contains_key c.args.keys.now k in
    let items = c.as_slice-key-items.result.now in
    let selected : ObjectKey → Bool = λ q. selects_if c.args.pod.now (finite.get services q) in
    let test : ObjectKey → Bool = λ q. eq_by_cmp key_cmp k q && selected q in
    let keys : List ObjectKey = map (λ q. q.now) c.in_ok-tagged.tagged.items in
    c.loop-key.invariant k
    ∙ ap (λ (xs : List (Bor ObjectKey)). list_any (λ q. test q.now) xs || old) (take_all c.loop-key.key-index items c.loop-key-test.false ∙ c.as_slice-key-items.ensures.value)
    ∙ ap (λ b. b || old)
    (any_shown (λ (q : Bor ObjectKey). q.now) test c.in_ok-tagged.tagged.items
    ∙ (λ i. list_any (λ q. at_key selected k q i) keys)
    ∙ any_and (eq_by_cmp key_cmp k) (selected k) keys
    ∙ ap (λ b. b && selected k) (c.in_ok-tagged.ensures k))
