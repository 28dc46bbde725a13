use Rattle.std.proofs.Common.{sym, ◌∙◌}
use Rattle.kp_part_laws.specs.Beside.{worker_of}
use Rattle.kp_workers.specs.Workers.{done_own}
use Rattle.kp_workers.specs.declared.worker.Worker.{Worker}
use Rattle.kp_workers.proofs.WorkerLemmas.{has_done}
use Rattle.kp_workers.proofs.worker.Worker.run.Goals as goal

pub returns-clause-done : goal.returns-clause-done
returns-clause-done g c = λ none.
    let before : Worker = record {
      lists = c.args.self.now.lists;
      texts = c.clear.new.self;
      calls = 0;
      refused = c.args.self.now.refused;
    } in
    let count = c.args.place.count in
    let done =
    has_done c.take_own.result
    (done_own (λ x. worker_of count (g.W.Work.part c.args.work.now x))
    (g.W.Work.step c.args.work.now) c.args.items.now c.args.place.own c.args.self.now.lists)
    before c.take_own.new.worker c.clear.ensures c.take_own.ensures.done
    (sym c.err-self.ensures.value ∙ none) in
    record { texts = done.texts; lists = done.lists }
