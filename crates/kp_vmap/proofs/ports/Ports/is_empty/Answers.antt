use Rattle.std.proofs.Common.{◌==◌, length, sym, ap, ◌∙◌}
use Rattle.std.proofs.lemmas.Bool.{eqb-true}
use Rattle.std.proofs.lemmas.List.{nil_from_length}
use Rattle.kp_vmap_defs.specs.VerdictMap.{by_name}
use Rattle.kp_vmap.proofs.SortedPorts.{none_known}
use Rattle.kp_vmap.proofs.ports.Ports.is_empty.Goals as goal

pub returns : goal.returns
returns c =
    let items = c.self.inside.items.items in (
      (λ is. sym c.self.view_is
          ∙ ap by_name (nil_from_length items
          (eqb-true _ _ (ap (λ ks. length ks == 0) (sym c.as_slice.ensures.value)
          ∙ sym c.is_empty.ensures ∙ is)))),
      (λ none. c.is_empty.ensures
          ∙ ap (λ ks. length ks == 0)
          (c.as_slice.ensures.value ∙ none_known items c.self.invariant (c.self.view_is ∙ none))),
    )
