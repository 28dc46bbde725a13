use Rattle.std.proofs.Common.{◌≡◌, ◌+◌, ◌-◌, ◌<◌, ◌∙◌, ◌∷◌, ◌++◌, ap, sym, drop, length, map, arith}
use Rattle.std.specs.BTreeSet.{insert_key}
use Rattle.std.proofs.lemmas.List.{drop_more}
use Rattle.kp_base.specs.Keys.{port_key_cmp}
use Rattle.kp_base.specs.contracts.key.PortKeyOrd.TheImpl as port_key_ord
use Rattle.kp_object_defs.specs.Order.{distinct_in_order}
use Rattle.kp_vmap.proofs.PortNames.{distinct_more}
use Rattle.kp_modes.proofs.dirty_names.add_names.Goals as goal

pub loop-place-preserved : goal.loop-place-preserved
loop-place-preserved c = λ others before.
    let dirty = c.args.dirty.now in
    let i = c.loop-place.place - 1 in
    let fits : i < length dirty = omega (arith, c.loop-place.auto.place, c.loop-place-test.true) in
    let back : i + 1 ≡ c.loop-place.place = omega (arith, c.loop-place-test.true) in
    let port = c.index-dirty-place.result in
    let rest : drop i dirty ≡ port ∷ drop c.loop-place.place dirty =
    drop_more dirty i port fits ∙ (λ j. sym c.index-dirty-place.is j ∷ drop (back j) dirty) in
    c.in_ok-insert.ensures.keys
    ∙ (λ j. insert_key port_key_ord.ghosts.cmp (c.loop-place.invariant others before j)
    (c.in_ok-copy.ensures j))
    ∙ distinct_more port.key (map (λ d. d.key) (drop c.loop-place.place dirty) ++ others)
    ∙ sym (ap (λ ds. distinct_in_order port_key_cmp (map (λ d. d.key) ds ++ others)) rest)
