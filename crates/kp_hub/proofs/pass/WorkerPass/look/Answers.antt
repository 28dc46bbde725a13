use Rattle.std.proofs.Common.{sym, ◌∙◌}
use Rattle.kp_hub.proofs.Readings.{reads_through}
use Rattle.kp_hub.proofs.pass.WorkerPass.look.Goals as goal

pub returns : goal.returns
returns g c =
    reads_through c.args.self.now c.self.inside.reader c.in-Some.reader c.enter.result c.leave.result c.self.inside.learned c.self.inside.accepted.amount c.self.inside.refused.amount
    c.self.view_is (sym c.take.ensures.value ∙ c.in-Some.is) c.self.invariant.0
    c.enter.ensures.seen c.enter.ensures.told c.enter.ensures.kept c.leave.ensures.seen c.leave.ensures.told
