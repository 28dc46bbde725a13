use Rattle.std.proofs.Common.{sym, ap, ◌∙◌}
use Rattle.std.specs.FinMap as finite
use Rattle.kp_vmap_defs.proofs.KnownPorts.{values_by_name}
use Rattle.kp_vmap.proofs.ports.Ports.as_slice.Goals as goal

pub returns : goal.returns
returns c =
    c.as_slice.ensures.value
    ∙ sym (values_by_name c.self.inside.items.items c.self.invariant)
    ∙ ap finite.values c.self.view_is
