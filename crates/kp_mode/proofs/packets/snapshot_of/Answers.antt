use Rattle.std.specs.FinMap.{get}
use Rattle.std.proofs.Common.{ap, sym, subst}
use Rattle.kp_plane.specs.Parts.{decided_in}
use Rattle.kp_run_defs.specs.ReplayText.{draws_at, walk_at}
use Rattle.kp_walk_laws.specs.Laws.{Agree}
use Rattle.kp_mode.proofs.packets.snapshot_of.Goals as goal

pub returns-clause-walked : goal.returns-clause-walked
returns-clause-walked c = λ number line lists i.
    walk_at (get (c.table.ensures.table i).chains)
    (ap (λ config. config.addresses) c.config.ensures i) number line lists

pub returns-clause-decided : goal.returns-clause-decided
returns-clause-decided c = λ number line lists.
    subst (λ w. Agree w
    (decided_in c.args.plane.now line.packet (draws_at number line.draws) lists))
    (λ i. walk_at (get (sym c.table.ensures.table i).chains)
    (ap (λ config. config.addresses) (sym c.config.ensures) i) number line lists)
    (c.table.ensures.agree line.packet (draws_at number line.draws) lists)
