use Rattle.std.proofs.Common.{option_copied, ap, ◌∙◌}
use Rattle.std.specs.FinMap.{put}
use Rattle.kp_base.specs.Keys.{port_key_cmp}
use Rattle.kp_base.proofs.KeyOrder.{port_key_matches}
use Rattle.kp_types.specs.declared.info.ServiceSources.{ServiceSources}
use Rattle.kp_object_defs.specs.PortInfo.{info_of, port_key_of}
use Rattle.kp_object_defs.proofs.InOrder.{insert-put}
use Rattle.kp_known_ports.proofs.ports.add_port.Goals as goal

pub returns : goal.returns
returns c =
    c.in_ok-insert.ensures.entries
    ∙ insert-put {R = port_key_cmp} port_key_matches c.args.known.now.entries c.in_ok-key.key c.in_ok-info.info
    ∙ (λ i. put port_key_cmp (c.in_ok-key.ensures i) (c.in_ok-info.ensures i) c.args.known.now.entries)
    ∙ ap (λ (from : ServiceSources). put port_key_cmp (port_key_of from.service c.args.port.now)
    (info_of c.args.family c.args.config.now.node (option_copied c.args.zone)
    (c.args.sources.now, c.args.port.now)) c.args.known.now.entries) c.sources.view_is
