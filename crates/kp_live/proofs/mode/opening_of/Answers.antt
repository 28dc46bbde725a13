use Rattle.std.proofs.Common.{◌≡◌, ℕ, ◌<◌, List, [], ◌∷◌, length, cond, nat_lt, codes, refl, ap, ◌∙◌, lt-ltb, arith}
use Rattle.std.proofs.lemmas.Result.{IfOk-weaker}
use Rattle.kp_streams.specs.Streams.{reading_in}
use Rattle.kp_live.proofs.mode.opening_of.Goals as goal

-- how many streams run, by whether there is one
counted : (names : List (List ℕ)) (k : ℕ) → (length names ≡ 0 → k ≡ 1) → (0 < length names → k ≡ length names)
    → k ≡ length (cond (nat_lt 0 (length names)) names (codes "main" ∷ []))
counted [] k none some = none refl
counted (name ∷ names) k none some =
    let one : 0 < length (name ∷ names) = omega arith in
    rw (lt-ltb 0 (length (name ∷ names)) one) (some one)

pub returns-clause-streams : goal.returns-clause-streams
returns-clause-streams c =
    let names = (reading_in c.args.lines.now).streams in
    let same : length c.streams.result.now ≡ length names = ap length c.streams.ensures.names in
    let count = counted names c.count_of-streams.result
    (λ e. c.count_of-streams.ensures.none (same ∙ e))
    (λ more. c.count_of-streams.ensures.some (omega (arith, same, more)) ∙ same) in
    IfOk-weaker c.new.result _ _ (λ o is. is ∙ count) c.new.ensures.streams
