use Rattle.std.proofs.Common.{rules, ◌≡◌, ◌∙◌, true, cond, bytes_eq}
use Rattle.kp_packer.proofs.Naming.{one_more_name}
use Rattle.kp_packer.proofs.names.add_names.Goals as goal

pub loop-name-preserved : goal.loop-name-preserved
loop-name-preserved c = λ name.
    let names = c.args.names.now in
    let i = c.loop-name.name-index in
    let x = c.name-item.result in
    let copied : c.in_ok-copy.field-0 ≡ x = search rules in
    c.in_ok-insert.ensures.updates.0 name
    ∙ (λ j. cond (bytes_eq (copied j) name) true (c.loop-name.invariant name j))
    ∙ one_more_name name names i x c.loop-name-test.true c.name-item.is
