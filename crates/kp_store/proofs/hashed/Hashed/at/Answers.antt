use Rattle.std.proofs.Common.{sym, ap, ◌∙◌}
use Rattle.std.specs.FinMap as finite
use Rattle.kp_store.proofs.NamedEntries.{by_name, got, owner}
use Rattle.kp_store.proofs.hashed.Hashed.at.Goals as goal

pub returns-in-None : goal.returns-in-None
returns-in-None g c =
    let same = g.K.PartialEq.eq in
    let es = c.self.inside.entries.entries in
    ap (λ o. by_name same o es) c.in-None.ensures
    ∙ sym (got same g.K.Name.key_of g.K.Name.name_of g.met.K.Name.own g.met.K.Name.one c.args.key.now es)
    ∙ ap (λ m. finite.get m c.args.key.now) c.self.view_is

pub returns-in-Some : goal.returns-in-Some
returns-in-Some g c =
    c.named.ensures
    ∙ (λ i. finite.get (c.self.view_is i) (owner g.K.PartialEq.eq g.K.Name.key_of g.K.Name.name_of g.met.K.Name.own g.met.K.Name.one c.args.key.now c.in-Some.name.now (sym c.in-Some.ensures) i))
