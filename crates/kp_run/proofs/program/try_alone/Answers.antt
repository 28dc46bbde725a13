use Rattle.std.proofs.Common.{inr, map, refl, string_bytes, sym, subst}
use Rattle.kp_run.proofs.PlanLemmas.{Fits, mode_fits}
use Rattle.kp_run.proofs.program.try_alone.Goals as goal

-- the numbers are within their bounds
pub generate-requires : goal.generate-requires
generate-requires g c =
    let some = rw c.in-Ok-Some-Gen.field-0-is at c.in-Ok-Some-Gen.ensures in
    let told = rw c.in-Ok-Some-Gen.field-0-0-is at some in
    subst Fits (sym told) (mode_fits (map string_bytes c.args.words.now))

-- there was no memory for the words
pub returns-in-Err-clause-ran : goal.returns-in-Err-clause-ran
returns-in-Err-clause-ran g c = inr (refl, refl)
