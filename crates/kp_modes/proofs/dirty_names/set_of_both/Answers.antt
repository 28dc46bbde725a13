use Rattle.std.proofs.Common.{[], append-nil, ap, map, ◌∙◌}
use Rattle.kp_base.specs.Keys.{port_key_cmp}
use Rattle.kp_object_defs.specs.Order.{distinct_in_order}
use Rattle.kp_modes.proofs.dirty_names.set_of_both.Goals as goal

pub returns : goal.returns
returns c =
    let theirs = map (λ d. d.key) c.args.six.now in
    c.in_ok-add_names-2.ensures theirs
    (c.in_ok-add_names.ensures [] c.new-names.ensures.empty
    ∙ ap (distinct_in_order port_key_cmp) (append-nil theirs))
