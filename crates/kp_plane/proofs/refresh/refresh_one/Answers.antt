use Rattle.std.proofs.Common.{arith, ◌∙◌}
use Rattle.std.specs.List.{filter_map}
use Rattle.kp_types.specs.Setting.{config_for}
use Rattle.kp_object_defs.specs.PortByKey.{info_at}
use Rattle.kp_writer.specs.Known.{port_keys_at}
use Rattle.kp_writer.specs.Written.{setting_in}
use Rattle.kp_plane.proofs.Refreshed.{made_one, others_stay, service_done}
use Rattle.kp_plane.proofs.refresh.refresh_one.Goals as goal

pub returns-clause-others : goal.returns-clause-others
returns-clause-others g c =
    others_stay c.refresh.result c.args.service.now c.in_ok-infos.infos.items
    c.args.writer.now.newest c.refresh.new.self.newest c.refresh.ensures.ports

pub returns-clause-ok : goal.returns-clause-ok
returns-clause-ok g c =
    let o = c.args.objects.now in
    service_done (setting_in c.args.writer.now) o c.known_of_service.ensures c.requires
    c.args.service.now c.in_ok-infos.infos.items c.args.writer.now.newest
    c.refresh.new.self.newest
    (c.in_ok-infos.ensures.infos
    ∙ (λ i. filter_map (info_at (c.family.ensures i) (config_for (c.family.ensures i)
    (c.config.ensures i)) o) (port_keys_at o c.args.service.now)))
    c.refresh.result c.refresh.ensures.ports

pub returns-clause-steps : goal.returns-clause-steps
returns-clause-steps g c =
    let o = c.args.objects.now in
    let one = made_one (setting_in c.args.writer.now) c.args.writer.now.written o
    c.args.service.now c.in_ok-infos.infos.items
    (c.in_ok-infos.ensures.infos
    ∙ (λ i. filter_map (info_at (c.family.ensures i) (config_for (c.family.ensures i)
    (c.config.ensures i)) o) (port_keys_at o c.args.service.now))) in
    omega (arith, one, c.refresh.ensures.steps)
