use Rattle.kp_vmap.specs.Places.{staged_at}
use Rattle.kp_vmap.proofs.next.stage_port.Goals as goal

pub returns-clause-places : goal.returns-clause-places
returns-clause-places g c =
    c.put_known.ensures.places (staged_at c.args.kept.now.entries c.args.staged.now.entries)
    c.in_ok-take_known.ensures.places
