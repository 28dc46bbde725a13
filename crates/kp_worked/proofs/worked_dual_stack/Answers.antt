use Rattle.std.specs.Prelude.{[], ◌∷◌, refl}
use Rattle.std.specs.Fmt.{digits}
use Rattle.kp_worked.specs.DualStack.{applied, four_alone, name_and_type}
use Rattle.kp_worked.proofs.SliceLists.{seen_alike}
use Rattle.kp_worked.proofs.worked_dual_stack.Goals as goal

pub returns-clause-new_slice : goal.returns-clause-new_slice
unfolding digits
returns-clause-new_slice c = refl

pub returns-clause-slices_of_both : goal.returns-clause-slices_of_both
unfolding digits
returns-clause-slices_of_both c = seen_alike name_and_type applied (2 ∷ []) refl

pub returns-clause-family_goes : goal.returns-clause-family_goes
unfolding digits
returns-clause-family_goes c = seen_alike name_and_type four_alone (2 ∷ 1 ∷ []) refl
