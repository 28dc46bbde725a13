use Rattle.std.proofs.Common.{map, ◌∙◌}
use Rattle.kp_object_defs.specs.PortInfo.{port_key_of}
use Rattle.kp_health.specs.BothFamilies.{entries_of_sources}
use Rattle.kp_health.proofs.KnownAnswers.{by_sources}
use Rattle.kp_health.proofs.entries.entries_by_port.Goals as goal

pub returns : goal.returns
returns c =
    let s = c.args.service.now in
    c.in_ok-per_port.ensures
    ∙ (λ i. map (λ p. entries_of_sources c.args.config.now.node (c.in_ok-four.ensures i)
    (c.in_ok-six.ensures i) (port_key_of s p)) s.ports)
    ∙ by_sources c.args.config.now c.args.objects.now s s.ports
