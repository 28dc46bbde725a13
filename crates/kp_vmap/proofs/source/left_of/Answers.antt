use Rattle.std.proofs.Common.{◌==◌, ◌||◌, length, sym, ap, ◌∙◌}
use Rattle.kp_vmap.proofs.MergedPorts.{at_other_end}
use Rattle.kp_vmap.proofs.source.left_of.Goals as goal

pub returns-else-is_empty : goal.returns-else-is_empty
returns-else-is_empty c =
    let some = c.args.some.now in
    let others = c.args.others.now in
    at_other_end some others
    (ap (λ b. b || (length others == 0)) (sym (sym c.is_empty.ensures ∙ c.if-is_empty.false))
    ∙ c.requires)
