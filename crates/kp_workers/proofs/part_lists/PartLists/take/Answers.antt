use Rattle.std.proofs.Common.{◌≡◌, ◌∙◌, ap, sym, length, rules}
use Rattle.std.specs.Prelude.{string_bytes}
use Rattle.kp_part_laws.specs.Beside.{worker_of}
use Rattle.kp_workers.specs.declared.worker.Worker.{Worker}
use Rattle.kp_workers.proofs.OwnLemmas.{like_after, size_after, text_after}
use Rattle.kp_workers.proofs.part_lists.PartLists.take.Goals as goal

pub invariant_of-self : goal.invariant_of-self
invariant_of-self g c =
    like_after c.self.inside.workers.items c.worker_of-place.result c.index_mut.result.now
    (record c.index_mut.result.now { lists = c.step.new.lists }) c.index_mut.ensures.value
    c.step.ensures.size c.self.invariant

pub returns : goal.returns
returns g c =
    let step = g.W.Work.step c.args.work.now c.args.item.now in
    let workers = c.self.inside.workers.items in
    let old = c.index_mut.result.now in
    let on : Worker = record old { lists = c.step.new.lists } in
    let many : c.len.result ≡ length workers = search rules in
    let did =
    text_after workers c.self.invariant c.len.result (g.W.Work.part c.args.work.now c.args.item.now)
    c.worker_of-place.result old on c.args.self.now many
    (c.worker_of-place.ensures ∙ ap (worker_of c.len.result) c.part.ensures)
    c.index_mut.ensures.value (sym c.self.view_is)
    step c.requires.local c.step.result
    (string_bytes c.args.text.now) (string_bytes c.step.new.text) c.step.ensures.text
    c.step.ensures.lists in
    record {
      text = did.0;
      lists = did.1;
      size =
          size_after workers c.worker_of-place.result old on c.index_mut.ensures.value
          c.step.ensures.size c.args.self.now (sym c.self.view_is);
      front = c.step.ensures.front;
    }
