use Rattle.std.proofs.Common.{Some, sym, ap, ◌∙◌}
use Rattle.std.specs.FinMap as finite
use Rattle.kp_types.specs.Places.{chain_cmp}
use Rattle.kp_rules.specs.contracts.chain_map.ChainMap.{the_view}
use Rattle.kp_rules.proofs.SameValues.{written_again}
use Rattle.kp_rules.proofs.chain_map.ChainMap.set_jump.Goals as goal

pub returns : goal.returns
returns c =
    let es = c.self.inside.rules.entries in
    let same = written_again c.set_jump.new.self es c.args.index (sym c.in-Some.ensures.value ∙ ap (λ v. Some v) (sym c.set_jump.ensures)) in
    ap (λ fs. record (the_view c.self.inside) { chains = finite.from_entries {R = chain_cmp} fs }) same
    ∙ c.self.view_is
