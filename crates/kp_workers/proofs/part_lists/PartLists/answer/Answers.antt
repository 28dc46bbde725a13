use Rattle.std.proofs.Common.{◌≡◌, ◌%◌, ◌∙◌, ap, sym, length, rules}
use Rattle.std.specs.Prelude.{string_bytes}
use Rattle.kp_part_laws.specs.Beside.{worker_of}
use Rattle.kp_workers.specs.declared.worker.Worker.{Worker}
use Rattle.kp_workers.proofs.AnswerLemmas.{answer_in_part, answering}
use Rattle.kp_workers.proofs.OwnLemmas.{like_after, size_after, text_after}
use Rattle.kp_workers.proofs.part_lists.PartLists.answer.Goals as goal

pub invariant_of-self : goal.invariant_of-self
invariant_of-self c =
    like_after c.self.inside.workers.items c.worker_of-place.result c.index_mut.result.now
    (record c.index_mut.result.now { lists = c.answer.new.lists }) c.index_mut.ensures.value
    c.answer.ensures.size c.self.invariant

pub returns : goal.returns
returns c =
    let line = c.args.line.now in
    let workers = c.self.inside.workers.items in
    let old = c.index_mut.result.now in
    let on : Worker = record old { lists = c.answer.new.lists } in
    let many : c.len.result ≡ length workers = search rules in
    let did =
    text_after workers c.self.invariant c.len.result (line.packet.source.number % 16)
    c.worker_of-place.result old on c.args.self.now many
    (c.worker_of-place.ensures ∙ ap (worker_of c.len.result) c.part_of.ensures)
    c.index_mut.ensures.value (sym c.self.view_is)
    (answering c.args.snapshot.now c.args.number line)
    (answer_in_part c.args.snapshot.now c.args.number line) c.answer.result
    (string_bytes c.args.text.now) (string_bytes c.answer.new.text) c.answer.ensures.text
    c.answer.ensures.lists in
    record {
      text = did.0;
      lists = did.1;
      size =
          size_after workers c.worker_of-place.result old on c.index_mut.ensures.value
          c.answer.ensures.size c.args.self.now (sym c.self.view_is);
      front = c.answer.ensures.front;
    }
