use Rattle.std.proofs.Common.{◌≡◌, ◌∙◌, ap, map}
use Rattle.std.proofs.lemmas.List.{take_all}
use Rattle.kp_packer.specs.Views.{shown}
use Rattle.kp_packer.proofs.Ordering.{keys-shown}
use Rattle.kp_packer.proofs.order.names_in_order.Goals as goal

pub returns : goal.returns
returns c =
    let entries = c.in_ok-set_of_names.field-0.entries in
    let items = c.as_slice-name-items.result.now in
    let all : items ≡ map (λ e. e.0) entries = c.as_slice-name-items.ensures.value ∙ c.in_ok-keys.ensures in
    c.from_vec.ensures ∙ c.loop-name.invariant
    ∙ ap shown (take_all c.loop-name.name-index items c.loop-name-test.false ∙ all)
    ∙ keys-shown entries ∙ ap (map (λ e. e.0)) c.in_ok-set_of_names.ensures
