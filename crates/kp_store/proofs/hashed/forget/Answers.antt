use Rattle.kp_store.proofs.NamedEntries.{take_named}
use Rattle.kp_store.proofs.hashed.forget.Goals as goal

pub returns : goal.returns
returns g c =
    take_named g.K.PartialEq.eq g.K.Name.key_of g.K.Name.name_of g.met.K.Name.own g.met.K.Name.one c.args.entries.now.entries c.swap_remove.new.self.entries c.args.name.now c.swap_remove.ensures.updates.0
