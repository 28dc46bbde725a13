-- What holds of a result, holds of the value that it has.
use Rattle.std.proofs.Common.{◌≡◌, Some, unwrap_or, Result, Ok, Err, sym, subst, ap}
use Rattle.std.specs.Prelude.{IfOk, MatchResult, OnErr, OnOk}
use Rattle.std.specs.Result.{result_ok}

-- of a value and of an error
pub of_ok : {X E : Type 0} (P : X → Type 0) (Q : E → Type 0) (r : Result X E) (x : X)
    → MatchResult r P Q → Some x ≡ result_ok r → P x
of_ok P Q (Ok y) x h is = subst P (sym (ap (λ o. unwrap_or o y) is)) h
of_ok P Q (Err e) x h is = absurd (cc)

-- of a value alone
pub of_if_ok : {X E : Type 0} (P : X → Type 0) (r : Result X E) (x : X) → IfOk r P
    → Some x ≡ result_ok r → P x
of_if_ok P (Ok y) x h is = subst P (sym (ap (λ o. unwrap_or o y) is)) h
of_if_ok P (Err e) x h is = absurd (cc)

-- what follows from what holds after an Ok holds after it
pub on_ok : {X E : Type 0} (P Q : Type 0) (r : Result X E) → OnOk r P → (P → Q) → OnOk r Q
on_ok P Q (Ok x) is f = f is
on_ok P Q (Err e) is f = tt

-- what holds anyhow holds after an Ok
pub ok_anyhow : {X E : Type 0} (r : Result X E) (P : Type 0) → P → OnOk r P
ok_anyhow (Ok x) P is = is
ok_anyhow (Err e) P is = tt

-- what holds anyhow holds after an error
pub err_anyhow : {X E : Type 0} (r : Result X E) (P : Type 0) → P → OnErr r P
err_anyhow (Ok x) P is = tt
err_anyhow (Err e) P is = is
