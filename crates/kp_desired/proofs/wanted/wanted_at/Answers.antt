use Rattle.std.proofs.Common.{◌==◌, length, sym, ap, ◌∙◌}
use Rattle.kp_desired.proofs.WithPorts.{made_with}
use Rattle.kp_desired.proofs.wanted.wanted_at.Goals as goal

pub returns : goal.returns
returns c =
    made_with c.args.pod.now _ c.in_ok-entry_of.field-0 c.in_ok-copy.field-0 _ c.in_ok-ports.ports.items c.from_vec.result
    c.in_ok-copy.ensures c.from_vec.ensures c.in_ok-entry_of.ensures c.in_ok-ports.ensures (ap (λ ps. length ps == 0) (sym c.as_slice.ensures.value) ∙ sym c.is_empty.ensures ∙ c.if-is_empty.false)
