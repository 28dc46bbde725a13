use Rattle.std.proofs.Common.{sym, ◌∙◌}
use Rattle.std.specs.FinMap.{get}
use Rattle.std.proofs.lemmas.Result.{on_ok_weaker}
use Rattle.kp_part_laws.specs.Beside.{worker_of}
use Rattle.kp_workers.specs.Walks.{part_in, walk_step}
use Rattle.kp_workers.specs.Workers.{done_own}
use Rattle.kp_workers.specs.declared.walker.Walker.{Walker}
use Rattle.kp_workers.proofs.WalkLemmas.{has_walked}
use Rattle.kp_workers.proofs.walker.Walker.run.Goals as goal

pub returns-clause-walked : goal.returns-clause-walked
returns-clause-walked g c = λ none. record {
  by = λ drawn have.
      let before : Walker = record {
        lists = c.args.self.now.lists;
        answers = c.clear.new.self;
        calls = 0;
        refused = c.args.self.now.refused;
      } in
      let count = c.args.place.count in
      let walked =
      has_walked c.walk_own.result
      (done_own (λ x. worker_of count (part_in x))
      (walk_step (get c.args.ground.now.table.now.chains) c.args.ground.now.node.now drawn)
      c.args.packets.now c.args.place.own c.args.self.now.lists) before c.walk_own.new.walker
      c.clear.ensures.items
      (on_ok_weaker c.walk_own.result (λ all. all drawn have) c.walk_own.ensures.walked)
      (sym c.err-self.ensures.value ∙ none) in
      record { told = walked.told; lists = walked.lists };
}
