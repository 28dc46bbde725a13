use Rattle.std.proofs.Common.{ap, ◌∙◌}
use Rattle.std.specs.FinMap as finite
use Rattle.kp_store.proofs.NamedEntries.{put_named}
use Rattle.kp_store.proofs.hashed.Hashed.put.Goals as goal

pub returns-clause-ok : goal.returns-clause-ok
returns-clause-ok g c =
    let key_of = g.K.Name.key_of in
    put_named g.K.PartialEq.eq key_of g.K.Name.name_of g.met.K.Name.own g.met.K.Name.one c.self.inside.entries.entries c.insert.new.self.entries c.args.name c.args.object c.in_ok-insert.ensures.updates.0
    ∙ ap (λ m. finite.insert m (key_of c.args.name) c.args.object) c.self.view_is
