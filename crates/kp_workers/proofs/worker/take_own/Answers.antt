use Rattle.std.proofs.Common.{◌≡◌, ◌==◌, true, false, arith, ap, sym, ◌∙◌}
use Rattle.std.proofs.lemmas.Bool.Decides.{nat_tests}
use Rattle.kp_part_laws.specs.Beside.{worker_of}
use Rattle.kp_workers.proofs.WorkerLemmas.{goes_on, goes_past}
use Rattle.kp_workers.proofs.worker.take_own.Goals as goal

-- an item of another worker
pub loop-item-preserved-then-owner-place : goal.loop-item-preserved-then-owner-place
loop-item-preserved-then-owner-place g c =
    let count = c.args.place.count in
    let owner = c.worker_of-owner.result in
    let is : owner ≡ worker_of count (g.W.Work.part c.args.work.now c.item-item.result) =
    c.worker_of-owner.ensures ∙ ap (worker_of count) c.part.ensures in
    let test : (owner == c.args.place.own) ≡ false =
    grind (arith, nat_tests, c.if-owner-place.true) in
    record {
      done =
          goes_past (λ x. worker_of count (g.W.Work.part c.args.work.now x))
          (g.W.Work.step c.args.work.now) c.args.place.own c.args.items.now
          c.loop-item.item-index c.item-item.result c.loop-item-test.true c.item-item.is
          c.args.worker.now c.loop-item.worker (ap (λ o. o == c.args.place.own) (sym is) ∙ test)
          c.loop-item.invariant.done;
      size = c.loop-item.invariant.size;
    }

-- one of its own
pub loop-item-preserved : goal.loop-item-preserved
loop-item-preserved g c =
    let count = c.args.place.count in
    let owner = c.worker_of-owner.result in
    let is : owner ≡ worker_of count (g.W.Work.part c.args.work.now c.item-item.result) =
    c.worker_of-owner.ensures ∙ ap (worker_of count) c.part.ensures in
    let test : (owner == c.args.place.own) ≡ true =
    grind (arith, nat_tests, c.if-owner-place.false) in
    record {
      done =
          goes_on (λ x. worker_of count (g.W.Work.part c.args.work.now x))
          (g.W.Work.step c.args.work.now) c.args.place.own c.args.items.now
          c.loop-item.item-index c.item-item.result c.loop-item-test.true c.item-item.is
          c.args.worker.now c.loop-item.worker c.take.new.self
          (ap (λ o. o == c.args.place.own) (sym is) ∙ test) c.loop-item.invariant.done
          c.in_ok-take.ensures.done;
      size = c.in_ok-take.ensures.size ∙ c.loop-item.invariant.size;
    }
