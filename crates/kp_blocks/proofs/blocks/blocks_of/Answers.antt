use Rattle.std.proofs.Common.{◌∷◌, [], map, sym, ap, ◌∙◌}
use Rattle.std.specs.FinMap as finite
use Rattle.std.specs.Map.Iter.{deref_pair}
use Rattle.std.proofs.lemmas.List.{map-append}
use Rattle.kp_blocks.proofs.PutBehind.{put_all, put_behind}
use Rattle.kp_blocks.proofs.blocks.blocks_of.Goals as goal

pub loop-port-preserved : goal.loop-port-preserved
loop-port-preserved c =
    let was = c.loop-port.blocks in
    let left = c.pop.new.self.items in
    ap (λ m. put_all m (map deref_pair left)) (c.in_ok-put.ensures.ok
    ∙ ap (finite.insert was c.in-Some.port.now) c.in_ok-copy.ensures)
    ∙ sym (put_behind was (map deref_pair left) (deref_pair (c.in-Some.port, c.in-Some.block)))
    ∙ ap (put_all was) (sym (map-append deref_pair left ((c.in-Some.port, c.in-Some.block) ∷ [])))
    ∙ ap (λ ps. put_all was (map deref_pair ps)) (sym c.in-Some.ensures.items)
    ∙ c.loop-port.invariant
