use Rattle.std.proofs.Common.{◌≡◌, ◌++◌, List, ap, ◌∙◌}
use Rattle.std.proofs.lemmas.Result.{on_ok_weaker}
use Rattle.kp_types.specs.declared.chain.ChainAt.{ChainAt}
use Rattle.kp_restore_text.specs.Printed.{if_there}
use Rattle.kp_restore_text.proofs.Sections.{nat_added}
use Rattle.kp_restore_text.proofs.places.add_nat.Goals as goal

pub returns : goal.returns
returns c =
    let there : (old : List ChainAt) (a b : ChainAt) → a ≡ b → old ++ if_there c.args.table.now.chains a ≡ old ++ if_there c.args.table.now.chains b = λ old a b e. ap (λ at. old ++ if_there c.args.table.now.chains at) e in
    on_ok_weaker c.add_if_there-4.result
    (λ e. nat_added c.args.table.now.chains c.args.which _ _ _ _ _ (c.in_ok-add_if_there.ensures ∙ there _ _ _ c.place.ensures) (c.in_ok-add_if_there-2.ensures ∙ there _ _ _ c.place-2.ensures) (c.in_ok-add_if_there-3.ensures ∙ there _ _ _ c.place-3.ensures) (e ∙ there _ _ _ c.place-4.ensures))
    c.add_if_there-4.ensures
