use Rattle.std.proofs.Common.{subst}
use Rattle.kp_publish.specs.Entries.{GoesOnFrom}
use Rattle.kp_publish.proofs.Beginnings.{goes_on_through}
use Rattle.kp_hub.specs.Finishing.{records_told}
use Rattle.kp_hub.proofs.Endings.{all_read, begins_all}
use Rattle.kp_hub.proofs.laws.same_hub.Goals as goal

pub returns-clause-all : goal.returns-clause-all
returns-clause-all g c =
    all_read c.tell.result c.look.new.self.seen (records_told g.J.Sharing.config c.args.done.now.journal c.args.done.now.notes)
    c.tell.ensures.ended c.tell.ensures.records
    (subst (GoesOnFrom c.look.new.self.seen) c.learn.ensures.learned c.look.ensures.learned)

pub returns-clause-seen : goal.returns-clause-seen
returns-clause-seen g c =
    begins_all c.args.pass.now.seen c.look.new.self.seen (records_told g.J.Sharing.config c.args.done.now.journal c.args.done.now.notes)
    (subst (GoesOnFrom c.look.new.self.seen) c.learn.ensures.seen c.look.ensures.seen)
    (returns-clause-all g c)

pub returns-clause-told : goal.returns-clause-told
returns-clause-told g c =
    begins_all c.args.pass.now.told c.look.new.self.seen (records_told g.J.Sharing.config c.args.done.now.journal c.args.done.now.notes)
    (goes_on_through c.look.new.self.seen c.learn.new.self.told c.args.pass.now.told c.learn.ensures.told c.look.ensures.told)
    (returns-clause-all g c)

pub returns-clause-learned : goal.returns-clause-learned
returns-clause-learned g c =
    begins_all c.args.pass.now.learned c.look.new.self.seen (records_told g.J.Sharing.config c.args.done.now.journal c.args.done.now.notes)
    (goes_on_through c.look.new.self.seen c.args.pass.now.told c.args.pass.now.learned c.knows_its_front.ensures
    (goes_on_through c.look.new.self.seen c.learn.new.self.told c.args.pass.now.told c.learn.ensures.told c.look.ensures.told))
    (returns-clause-all g c)
