use Rattle.std.proofs.Common.{Some, ap, ◌∙◌}
use Rattle.kp_store.proofs.NamedEntries.{named}
use Rattle.kp_store.proofs.hashed.named.Goals as goal

pub returns-in-None : goal.returns-in-None
returns-in-None g c =
    c.in-None.ensures.value
    ∙ named g.K.PartialEq.eq g.K.Name.key_of g.K.Name.name_of g.met.K.Name.own g.met.K.Name.one c.args.name.now c.args.entries.now.entries

pub returns-in-Some : goal.returns-in-Some
returns-in-Some g c =
    ap Some c.get-in-Some.ensures
    ∙ c.in-Some.ensures.value
    ∙ named g.K.PartialEq.eq g.K.Name.key_of g.K.Name.name_of g.met.K.Name.own g.met.K.Name.one c.args.name.now c.args.entries.now.entries
