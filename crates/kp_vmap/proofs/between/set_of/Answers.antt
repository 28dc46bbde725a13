use Rattle.std.proofs.Common.{◌≡◌, ◌+◌, ◌-◌, ◌<◌, ◌∙◌, ◌∷◌, ap, sym, drop, length, arith}
use Rattle.std.specs.BTreeSet.{insert_key}
use Rattle.std.proofs.lemmas.List.{drop_more}
use Rattle.kp_base.specs.Keys.{port_key_cmp}
use Rattle.kp_base.specs.contracts.key.PortKeyOrd.TheImpl as port_key_ord
use Rattle.kp_object_defs.specs.Order.{distinct_in_order}
use Rattle.kp_vmap.proofs.PortNames.{distinct_more}
use Rattle.kp_vmap.proofs.between.set_of.Goals as goal

pub loop-place-preserved : goal.loop-place-preserved
loop-place-preserved c =
    let keys = c.args.keys.now in
    let i = c.loop-place.place - 1 in
    let fits : i < length keys = omega (arith, c.loop-place.auto.place, c.loop-place-test.true) in
    let back : i + 1 ≡ c.loop-place.place = omega (arith, c.loop-place-test.true) in
    let key = c.index-keys-place.result in
    let rest : drop i keys ≡ key ∷ drop c.loop-place.place keys =
    drop_more keys i key fits ∙ (λ j. sym c.index-keys-place.is j ∷ drop (back j) keys) in
    c.in_ok-insert.ensures.keys
    ∙ (λ j. insert_key port_key_ord.ghosts.cmp (c.loop-place.invariant j) (c.in_ok-copy.ensures j))
    ∙ distinct_more key (drop c.loop-place.place keys)
    ∙ ap (distinct_in_order port_key_cmp) (sym rest)
