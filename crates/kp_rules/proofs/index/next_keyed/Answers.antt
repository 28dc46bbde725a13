use Rattle.std.proofs.Common.{sym, ◌∙◌}
use Rattle.std.proofs.lemmas.Bool.{eqb-true}
use Rattle.kp_rules.proofs.KeyedPlaces.{keyed_none}
use Rattle.kp_rules.proofs.index.next_keyed.Goals as goal

pub returns-then-is_empty : goal.returns-then-is_empty
returns-then-is_empty c list are =
    sym (keyed_none list c.args.keyed.now c.args.to.now c.args.from are (eqb-true _ _ (sym c.is_empty.ensures ∙ c.if-is_empty.true)))
