use Rattle.std.proofs.Common.{◌≡◌, ◌+◌, ◌-◌, ◌<◌, ◌∙◌, ◌∷◌, ap, sym, refl, map, drop, length, get_or, arith}
use Rattle.std.specs.FinMap.{put}
use Rattle.std.specs.Map.Iter.{deref_pair}
use Rattle.std.proofs.lemmas.List.{drop_more}
use Rattle.kp_base.specs.Keys.{text_cmp}
use Rattle.kp_object_defs.specs.Order.{in_order}
use Rattle.kp_object_defs.proofs.InOrder.{insert-through}
use Rattle.kp_packer.specs.Views.{shown}
use Rattle.kp_packer.proofs.order.set_of_names.Goals as goal

pub loop-place-preserved : goal.loop-place-preserved
loop-place-preserved c =
    let slices = c.args.slices.now in
    let i = c.loop-place.place - 1 in
    let fits : i < length slices = omega (arith, c.loop-place.auto.place, c.loop-place-test.true) in
    let back : i + 1 ≡ c.loop-place.place = omega (arith, c.loop-place-test.true) in
    let s = get_or slices i c.index-slices-place.result in
    let rest : drop i slices ≡ s ∷ drop c.loop-place.place slices =
    drop_more slices i c.index-slices-place.result fits ∙ (λ j. s ∷ drop (back j) slices) in
    ap (map deref_pair) c.in_ok-insert.ensures.entries
    ∙ insert-through text_cmp (λ b. b.now) (λ b. b.now) (λ a b. refl) c.loop-place.names.entries _ _
    ∙ ap (put text_cmp s.now.key.name s.now.key.name) c.loop-place.invariant
    ∙ sym (ap (λ l. in_order text_cmp (map (λ k. (k, k)) (map (λ s. s.key.name) (shown l)))) rest)
