use Rattle.std.proofs.Common.{[], ◌∷◌, refl}
use Rattle.kp_worked.specs.Setting.{web, second, infos}
use Rattle.kp_worked.specs.Decisions.{two, local_inside}
use Rattle.kp_worked.specs.Counts.{local_balancer, both_terminating, second_ready, one_without_hint, all_with_hints}
use Rattle.kp_worked.proofs.Changes.{counts_are}
use Rattle.kp_worked.proofs.worked_later_syncs.Goals as goal

pub returns-clause-last_local : goal.returns-clause-last_local
returns-clause-last_local c = counts_are (infos local_balancer two) (infos local_balancer (second ∷ [])) refl

pub returns-clause-one_goes : goal.returns-clause-one_goes
returns-clause-one_goes c = counts_are both_terminating second_ready refl

pub returns-clause-comes_back : goal.returns-clause-comes_back
returns-clause-comes_back c = counts_are (infos web two) (infos web two) refl

pub returns-clause-hint : goal.returns-clause-hint
returns-clause-hint c = counts_are one_without_hint all_with_hints refl

pub returns-clause-reject : goal.returns-clause-reject
returns-clause-reject c = counts_are (infos local_inside (second ∷ [])) (infos local_inside []) refl

pub returns-clause-service_goes : goal.returns-clause-service_goes
returns-clause-service_goes c = counts_are (infos web two) [] refl
