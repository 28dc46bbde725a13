use Rattle.std.proofs.Common.{sym, ap, ◌∙◌}
use Rattle.std.specs.FinMap as finite
use Rattle.kp_store.proofs.NamedEntries.{owner, take_none}
use Rattle.kp_store.proofs.hashed.Hashed.take.Goals as goal

pub returns-in-Some : goal.returns-in-Some
returns-in-Some g c =
    c.forget.ensures
    ∙ (λ i. finite.remove (c.self.view_is i) (owner g.K.PartialEq.eq g.K.Name.key_of g.K.Name.name_of g.met.K.Name.own g.met.K.Name.one c.args.key.now c.in-Some.name.now (sym c.in-Some.ensures) i))

pub returns-in-None : goal.returns-in-None
returns-in-None g c =
    let key = c.args.key.now in
    sym c.self.view_is
    ∙ take_none g.K.PartialEq.eq g.K.Name.key_of g.K.Name.name_of g.met.K.Name.own g.met.K.Name.one c.self.inside.entries.entries key (sym c.in-None.ensures)
    ∙ ap (λ m. finite.remove m key) c.self.view_is
