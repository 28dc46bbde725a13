use Rattle.std.proofs.Common.{◌≡◌, ap, option_copied, ◌∙◌}
use Rattle.std.proofs.lemmas.Result.{IfOk-weaker}
use Rattle.kp_object_defs.specs.Entries.{family_among}
use Rattle.kp_object_defs.specs.PortInfo.{lists_of}
use Rattle.kp_category.proofs.Families.{in_one_family}
use Rattle.kp_category.proofs.policies.categorise.Goals as goal

pub returns-clause-family : goal.returns-clause-family
returns-clause-family c = λ family all.
    let s = c.args.service.now in
    let p = c.args.port.now in
    let zone = option_copied c.args.zone in
    let cs = c.args.endpoints.now in
    IfOk-weaker c.lists_in.result (λ lists. lists ≡ lists_of c.family_among.result s p zone c.as_slice-endpoints.result.now) (λ lists. lists ≡ lists_of family s p zone cs)
    (λ lists same.
    same ∙ ap (λ shown. lists_of c.family_among.result s p zone shown) c.as_slice-endpoints.ensures
    ∙ ap (λ f. lists_of f s p zone cs) (c.family_among.ensures ∙ ap family_among c.as_slice-endpoints.ensures)
    ∙ in_one_family family s p zone cs all)
    c.lists_in.ensures
