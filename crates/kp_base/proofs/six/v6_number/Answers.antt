use Rattle.std.proofs.Common.{option_map, Some, sym, ap, ◌∙◌}
use Rattle.std.specs.Net.Addr.{ipv6_segments}
use Rattle.kp_base.specs.Net.{v6_address}
use Rattle.kp_base.specs.Six.{groups_number}
use Rattle.kp_base.proofs.Groups.{read_whole, not_read}
use Rattle.kp_base.proofs.six.v6_number.Goals as goal

pub returns-in-Ok : goal.returns-in-Ok
returns-in-Ok c =
    ap (λ n. Some (v6_address n)) (c.number_of.ensures ∙ ap groups_number c.segments.ensures)
    ∙ sym (ap (option_map (λ groups. v6_address (groups_number groups))) (read_whole c.args.text.now (ipv6_segments c.in-Ok.address) c.in-Ok.ensures))

pub returns-in-Err : goal.returns-in-Err
returns-in-Err c =
    sym (ap (option_map (λ groups. v6_address (groups_number groups))) (not_read c.args.text.now c.in-Err.ensures))
