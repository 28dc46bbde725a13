use Rattle.std.proofs.lemmas.Result.{IfOk-weaker}
use Rattle.kp_writer.proofs.PendingPorts.{dirty_are}
use Rattle.kp_writer.proofs.writer.Writer.dirty.Goals as goal

pub returns : goal.returns
returns c =
    let w = c.self.inside in
    IfOk-weaker c.dirty_ports.result _ _
    (λ dirty are. dirty_are w.family w.config w.ports c.args.self.now c.self.view_is c.deref.result.now
    c.in_ok-pending.pending.items c.deref.ensures.value c.in_ok-pending.ensures dirty are)
    c.dirty_ports.ensures
