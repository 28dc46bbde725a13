use Rattle.std.proofs.Common.{◌++◌, List, map, ap, ◌∙◌, Bor}
use Rattle.std.specs.List.{filter_map}
use Rattle.std.specs.FinMap as finite
use Rattle.std.specs.Option.{option_to_list}
use Rattle.std.proofs.lemmas.List.{take_all}
use Rattle.kp_base.specs.declared.key.ObjectKey.{ObjectKey}
use Rattle.kp_desired.proofs.Steps.{filter_map_now_step}
use Rattle.kp_store.proofs.hashed.Hashed.found.Goals as goal

pub loop-key-preserved : goal.loop-key-preserved
loop-key-preserved g c =
    c.in_ok-add_found.ensures
    ∙ (λ i. c.loop-key.invariant i ++ option_to_list (c.at.ensures i))
    ∙ filter_map_now_step (finite.get c.args.self.now) c.as_slice-key-items.result.now c.loop-key.key-index c.key-item.result c.loop-key-test.true c.key-item.is

pub returns : goal.returns
returns g c =
    let objects = c.args.self.now in
    let items = c.as_slice-key-items.result.now in
    c.loop-key.invariant
    ∙ ap (λ (ks : List (Bor ObjectKey)). filter_map (finite.get objects) (map (λ k. k.now) ks)) (take_all c.loop-key.key-index items c.loop-key-test.false ∙ c.as_slice-key-items.ensures.value)
    ∙ ap (filter_map (finite.get objects)) c.in_ok-keys.ensures
