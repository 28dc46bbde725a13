use Rattle.std.proofs.Common.{◌≡◌, ◌%◌, ◌∙◌, ap, sym, length, rules}
use Rattle.kp_part_laws.specs.Beside.{worker_of}
use Rattle.kp_workers.specs.declared.worker.Worker.{Worker}
use Rattle.kp_workers.proofs.AnswerLemmas.{telling, told_in_part}
use Rattle.kp_workers.proofs.OwnLemmas.{like_after, size_after, told_after}
use Rattle.kp_workers.proofs.part_lists.PartLists.verdict_of.Goals as goal

pub invariant_of-self : goal.invariant_of-self
invariant_of-self c =
    like_after c.self.inside.workers.items c.worker_of-place.result c.index_mut.result.now
    (record c.index_mut.result.now { lists = c.verdict_of.new.lists }) c.index_mut.ensures.value
    c.verdict_of.ensures.size c.self.invariant

pub returns : goal.returns
returns c =
    let s = c.args.snapshot.now in
    let line = c.args.line.now in
    let workers = c.self.inside.workers.items in
    let old = c.index_mut.result.now in
    let on : Worker = record old { lists = c.verdict_of.new.lists } in
    let many : c.len.result ≡ length workers = search rules in
    let did =
    told_after workers c.self.invariant c.len.result (line.packet.source.number % 16)
    c.worker_of-place.result old on c.args.self.now many
    (c.worker_of-place.ensures ∙ ap (worker_of c.len.result) c.part_of.ensures)
    c.index_mut.ensures.value (sym c.self.view_is)
    (telling s c.args.number line (λ verdict trail. verdict))
    (told_in_part s c.args.number line (λ verdict trail. verdict)) (λ verdict. verdict)
    c.verdict_of.result c.verdict_of.ensures.verdict c.verdict_of.ensures.lists in
    record {
      verdict = did.0;
      lists = did.1;
      size =
          size_after workers c.worker_of-place.result old on c.index_mut.ensures.value
          c.verdict_of.ensures.size c.args.self.now (sym c.self.view_is);
    }
