use Rattle.std.proofs.Common.{◌||◌, false, is_some, refl, ap}
use Rattle.kp_worked_runs.specs.Runs.{refused_at_end, synced}
use Rattle.kp_worked_runs.proofs.ByLists.{final_is}
use Rattle.kp_worked_runs.proofs.worked_statuses.Goals as goal

pub returns-clause-line : goal.returns-clause-line
returns-clause-line c = refl

pub returns-clause-sync : goal.returns-clause-sync
returns-clause-sync c = refl

pub returns-clause-at_end : goal.returns-clause-at_end
returns-clause-at_end c = ap (λ clash. false || (false || is_some clash)) (final_is refused_at_end)

pub returns-clause-none : goal.returns-clause-none
returns-clause-none c = ap (λ clash. false || (false || is_some clash)) (final_is synced)
