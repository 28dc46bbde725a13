use Rattle.std.proofs.Common.{ap, sym, ◌∙◌}
use Rattle.std.specs.Option.{option_copied}
use Rattle.kp_plane.proofs.Refreshed.{one_stored}
use Rattle.kp_plane.proofs.refresh.infos_of.Goals as goal

pub infos_of_services-requires-clause-stored : goal.infos_of_services-requires-clause-stored
infos_of_services-requires-clause-stored g c =
    one_stored c.args.objects.now c.requires c.args.service.now c.in-Some.service.now
    (sym c.service.ensures ∙ ap option_copied c.in-Some.is)
