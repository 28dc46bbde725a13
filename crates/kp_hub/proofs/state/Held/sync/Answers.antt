use Rattle.std.proofs.Common.{◌+◌}
use Rattle.kp_hub.proofs.Syncing.{accepts_taken, accepts_told}
use Rattle.kp_hub.proofs.state.Held.sync.Goals as goal

pub returns-in-Ok-clause-ok : goal.returns-in-Ok-clause-ok
returns-in-Ok-clause-ok g c =
    accepts_told g.J.Sharing.config c.args.self.now c.record.new.self c.tell_accepted.new.self c.in-Ok.sync
    (c.record.new.self.accepted + 1) c.tell_accepted.ensures.counts
    (accepts_taken g.J.Sharing.config c.args.self.now c.take_all.new.self c.record.new.self c.take_all.ensures.stays
    c.take_all.ensures.counts c.in-Ok.sync c.in-Ok.ensures.ok)
