use Rattle.std.proofs.Common.{◌&&◌, ◌||◌, Bool, true, false, ◌≡◌, refl, sym, ap, ◌∙◌, option_copied}
use Rattle.std.specs.Ordering.{eq_by_cmp}
use Rattle.std.specs.FinMap as finite
use Rattle.std.proofs.lemmas.Result.{on_ok_weaker}
use Rattle.kp_base.specs.Keys.{key_cmp}
use Rattle.kp_store.specs.LookUps.{selects_if}
use Rattle.kp_store.proofs.Buckets.{in_inserted}
use Rattle.kp_store.proofs.selecting.put_if.Goals as goal

with_true : (a b : Bool) → b ≡ true → a ≡ a && b
with_true true b h = sym h
with_true false b h = refl

pub returns-in_ok-copy-in-Some : goal.returns-in_ok-copy-in-Some
returns-in_ok-copy-in-Some c =
    on_ok_weaker c.put.result (λ is k.
    let old = c.args.keys.now in
    let selected = ap (λ o. selects_if c.args.pod.now (option_copied o)) c.in-Some.is ∙ sym c.selects.ensures ∙ c.if-selects.true in
    ap (λ m. finite.contains_key m k) is
    ∙ in_inserted old c.in_ok-copy-in-Some.field-0 k
    ∙ ap (λ q. eq_by_cmp key_cmp k q || finite.contains_key old k) c.in_ok-copy-in-Some.ensures
    ∙ ap (λ b. b || finite.contains_key old k) (with_true (eq_by_cmp key_cmp k c.args.key.now) _ selected)) c.put.ensures.ok
