use Rattle.std.proofs.Common.{rules, ◌≤◌, ◌<◌, ◌∙◌, length, ap}
use Rattle.kp_packer.proofs.Naming.{add_name, keep_names}
use Rattle.kp_packer.proofs.names.free_names.Goals.{then-len-count+in_ok-add_free, else-len-count}
use Rattle.kp_packer.proofs.names.free_names.Goals as goal

pub loop-number-preserved : goal.loop-number-preserved
loop-number-preserved c =
    let taken = c.args.taken.now in
    let service = c.args.service.now in
    let names = c.loop-number.names.items in
    elim c.if-len-count.branch [
      | then-len-count+in_ok-add_free w ↦
          let few : length names < c.args.count = search rules in
          ap (λ v. v.items) w.names-is ∙ w.in_ok-add_free.ensures
          ∙ add_name taken service c.args.count c.loop-number.number c.in_ok-taken_names.taken_names.keys names c.in_ok-taken_names.ensures c.loop-number.invariant few
      | else-len-count w ↦
          let many : c.args.count ≤ length names = search rules in
          ap (λ v. v.items) w.names-is ∙ keep_names taken service c.args.count c.loop-number.number names c.loop-number.invariant many
    ]
