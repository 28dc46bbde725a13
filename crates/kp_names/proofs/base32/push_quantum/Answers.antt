use Rattle.std.proofs.Common.{◌≡◌, ℕ, ◌-◌, ◌<◌, ◌/◌, ◌%◌, ◌^◌, ◌++◌, [], ◌∷◌, take, sym, ap, ◌∙◌, append_assoc, subst, arith}
use Rattle.kp_choice_defs.specs.Names.{base32_digit}
use Rattle.kp_names.specs.Quantum.{quantum_at, quantum_text_at}
use Rattle.kp_names.proofs.Quanta.{next_character, place_fits, place_some}
use Rattle.kp_names.proofs.base32.push_quantum.Goals as goal

pub pow-requires : goal.pow-requires
pow-requires c = place_fits c.loop-place.place

pub nonzero_div-bits : goal.nonzero_div-bits
nonzero_div-bits c = subst (λ d. 0 < d) (sym c.pow.ensures) (place_some c.loop-place.place)

-- one character more
pub loop-place-preserved : goal.loop-place-preserved
loop-place-preserved c =
    let p = c.loop-place.place in
    let character : ℕ → ℕ = λ place. base32_digit (quantum_at c.args.bytes.now c.args.at / 32 ^ place % 32) in
    let so_far = take p (quantum_text_at c.args.bytes.now c.args.at) in
    let digit : c.base32_digit.result ≡ character (7 - p) =
    c.base32_digit.ensures.value ∙ ap (λ d. base32_digit (c.quantum-number.result / d % 32)) c.pow.ensures
    ∙ ap (λ n. base32_digit (n / 32 ^ (7 - p) % 32)) c.quantum-number.ensures.value in
    c.push.ensures.ascii c.base32_digit.ensures.ascii
    ∙ ap (λ l. l ++ c.base32_digit.result ∷ []) c.loop-place.invariant
    ∙ append_assoc c.args.text.now.bytes so_far (c.base32_digit.result ∷ [])
    ∙ ap (λ l. c.args.text.now.bytes ++ l)
    (ap (λ b. so_far ++ b ∷ []) digit ∙ sym (next_character character p (omega (arith, c.loop-place-test.true, c.requires.count))))
