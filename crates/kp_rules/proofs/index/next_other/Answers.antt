use Rattle.std.proofs.Common.{rules, slice_get, sym, ap, ◌∙◌}
use Rattle.kp_rules.proofs.OtherPlaces.{other_itself}
use Rattle.kp_rules.proofs.index.next_other.Goals as goal

pub returns-then-stands_at_itself : goal.returns-then-stands_at_itself
returns-then-stands_at_itself c list same =
    sym (other_itself list c.args.from (sym (c.stands_at_itself.ensures (search rules) ∙ ap (λ ps. slice_get ps c.args.from) same)))
