-- What holds of each answer for each of some things.
use Rattle.std.proofs.Common.{IfOk}
use Rattle.std.specs.declared.result.Result.{Result}
use Rattle.std.specs.declared.result.Result.TheVariants.{Ok, Err}

pub of_each : {I T E : Type 0} (r : Result T E) (P : I → T → Type 0)
    → ((i : I) → IfOk r (P i)) → IfOk r (λ x. (i : I) → P i x)
of_each (Ok x) P holds = holds
of_each (Err e) P holds = tt
