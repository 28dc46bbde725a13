use Rattle.std.proofs.Common.{◌≡◌, ◌+◌, ◌-◌, ◌<◌, ◌∙◌, ◌∷◌, ap, sym, map, drop, length, arith}
use Rattle.std.specs.FinMap.{put}
use Rattle.std.specs.Map.Iter.{deref_pair}
use Rattle.std.proofs.lemmas.List.{drop_more}
use Rattle.kp_base.specs.Keys.{port_key_cmp}
use Rattle.kp_base.proofs.KeyOrder.{port_key_matches}
use Rattle.kp_object_defs.specs.Order.{in_order}
use Rattle.kp_object_defs.proofs.InOrder.{insert-through}
use Rattle.kp_changes.proofs.names.by_themselves.Goals as goal

pub loop-place-preserved : goal.loop-place-preserved
loop-place-preserved c =
    let names = c.args.names.now in
    let i = c.loop-place.place - 1 in
    let fits : i < length names = omega (arith, c.loop-place.auto.place, c.loop-place-test.true) in
    let back : i + 1 ≡ c.loop-place.place = omega (arith, c.loop-place-test.true) in
    let name = c.index-names-place.result in
    let rest : drop i names ≡ name ∷ drop c.loop-place.place names =
    drop_more names i name fits ∙ (λ j. sym c.index-names-place.is j ∷ drop (back j) names) in
    ap (map deref_pair) c.in_ok-insert.ensures.entries
    ∙ insert-through port_key_cmp (λ b. b.now) (λ b. b.now)
    (λ a b. port_key_matches a.now b.now) c.loop-place.named.entries _ _
    ∙ ap (put port_key_cmp name name) c.loop-place.invariant
    ∙ sym (ap (λ l. in_order port_key_cmp (map (λ k. (k, k)) l)) rest)
