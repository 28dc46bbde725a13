use Rattle.std.proofs.Common.{◌≡◌, length, rules, sym}
use Rattle.kp_workers.proofs.OwnLemmas.{sees_at}
use Rattle.kp_workers.proofs.part_lists.PartLists.own.Goals as goal

pub returns : goal.returns
returns c =
    let workers = c.self.inside.workers.items in
    let many : c.len.result ≡ length workers = search rules in
    sees_at workers c.self.invariant c.args.source.now c.len.result c.part_of.result
    c.worker_of.result c.index.result.now c.args.self.now many c.part_of.ensures
    c.worker_of.ensures c.index.ensures (sym c.self.view_is)
