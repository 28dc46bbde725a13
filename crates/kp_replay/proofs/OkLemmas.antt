-- Facts after an Ok.
use Rattle.std.specs.Prelude.{Result, Ok, Err, OnOk}

-- what two facts tell after an Ok
pub both_ok : {T E : Type 0} (P Q R : Type 0) (result : Result T E) → OnOk result P → OnOk result Q → (P → Q → R) → OnOk result R
both_ok P Q R (Ok x) h k f = f h k
both_ok P Q R (Err e) h k f = tt
