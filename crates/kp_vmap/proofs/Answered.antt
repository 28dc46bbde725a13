-- What holds of an answer that is a value.
use Rattle.std.specs.Prelude.{Result, Ok, Err}
use Rattle.std.specs.Result.{IsOk, OnOk}
use Rattle.std.proofs.lemmas.Bool.{false≢true}

pub answered : {X E : Type 0} (P : Type 0) (r : Result X E) → OnOk r P → IsOk r → P
answered P (Ok x) h ok = h
answered P (Err e) h ok = absurd (false≢true ok)
