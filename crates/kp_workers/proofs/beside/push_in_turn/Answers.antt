use Rattle.std.proofs.Common.{◌≡◌, ◌<◌, ◌++◌, ◌∙◌, ap, append_assoc, sym, subst, length}
use Rattle.std.proofs.lemmas.List.{length-set}
use Rattle.std.proofs.lemmas.Nat.{mod_below}
use Rattle.kp_part_laws.specs.Beside.{worker_of}
use Rattle.kp_workers.proofs.BesideLemmas.{tells_next}
use Rattle.kp_workers.proofs.beside.push_in_turn.Goals as goal

-- the next item's text
pub loop-item-preserved : goal.loop-item-preserved
loop-item-preserved g c =
    let workers = length c.args.workers.now in
    let place = c.worker_of-place.result in
    let tellers = c.loop-item.tellers.items in
    let at : place ≡ worker_of workers (g.W.Work.part c.args.work.now c.item-item.result) =
    c.worker_of-place.ensures ∙ ap (worker_of workers) c.part.ensures in
    let there : place < length tellers =
    subst (λ k. place < k) (sym c.loop-item.invariant.long)
    (subst (λ p. p < workers) (sym at) (mod_below _ workers c.requires.some)) in
    record {
      long = length-set tellers place c.next.new.self ∙ c.loop-item.invariant.long;
      told = λ told kept.
          tells_next (λ x. worker_of workers (g.W.Work.part c.args.work.now x))
          c.args.items.now c.loop-item.item-index c.item-item.result c.loop-item-test.true
          c.item-item.is tellers place at there c.index_mut.result.now c.next.new.self
          c.index_mut.ensures.value c.next.result.now c.loop-item.out.items
          c.extend_from_slice.new.self.items _ c.next.ensures
          c.in_ok-extend_from_slice.ensures.items (c.loop-item.invariant.told told kept);
      front = (
        c.loop-item.invariant.front.0 ++ c.next.result.now,
        c.in_ok-extend_from_slice.ensures.items
            ∙ ap (λ bytes. bytes ++ c.next.result.now) c.loop-item.invariant.front.1
            ∙ append_assoc c.args.out.now.items c.loop-item.invariant.front.0 c.next.result.now,
      );
    }
