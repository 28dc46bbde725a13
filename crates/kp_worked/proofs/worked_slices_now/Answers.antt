use Rattle.std.specs.Prelude.{[], ◌∷◌, refl}
use Rattle.std.specs.Fmt.{digits}
use Rattle.kp_worked.specs.SlicesNow.{applied, changed, name_and_pods, service_deleted}
use Rattle.kp_worked.proofs.SliceLists.{seen_alike}
use Rattle.kp_worked.proofs.worked_slices_now.Goals as goal

pub returns-clause-before : goal.returns-clause-before
unfolding digits
returns-clause-before c = seen_alike name_and_pods applied [] refl

pub returns-clause-first : goal.returns-clause-first
unfolding digits
returns-clause-first c = seen_alike name_and_pods applied (5 ∷ []) refl

pub returns-clause-change : goal.returns-clause-change
unfolding digits
returns-clause-change c = seen_alike name_and_pods changed (5 ∷ []) refl

pub returns-clause-second : goal.returns-clause-second
unfolding digits
returns-clause-second c = seen_alike name_and_pods changed (5 ∷ 2 ∷ []) refl

pub returns-clause-service_goes : goal.returns-clause-service_goes
unfolding digits
returns-clause-service_goes c = seen_alike name_and_pods service_deleted (5 ∷ 2 ∷ []) refl

pub returns-clause-third : goal.returns-clause-third
unfolding digits
returns-clause-third c = seen_alike name_and_pods service_deleted (5 ∷ 2 ∷ 1 ∷ []) refl
