-- Numbers that are written in digits.
use Rattle.std.proofs.Common.{◌≡◌, ℕ, ◌+◌, ◌-◌, ◌*◌, ◌<◌, ◌≤◌, List, [], ◌∷◌, length, take, drop, get_or, false, ◌&&◌, nat_le, Some, None, sym, subst, arith}
use Rattle.std.proofs.lemmas.List.{take-append-drop}
use Rattle.std.proofs.lemmas.List.Sums.{fold-append, fold_more}
use Rattle.std.proofs.lemmas.Bool.{and_right, cond-false}
use Rattle.std.proofs.lemmas.Bool.Decides.{nat_tests}
use Rattle.kp_base.specs.Dotted.{is_decimal, digits_number, decimal_up_to}

-- more digits write no smaller number
pub digits_rise : (n : ℕ) (digits : List ℕ) → n ≤ digits_number n digits
digits_rise n [] = omega arith
digits_rise n (d ∷ digits) = omega (arith, digits_rise (n * 10 + (d - 48)) digits)

-- so the front of the digits writes no greater number than all
pub front_below : (k : ℕ) (text : List ℕ) → digits_number 0 (take k text) ≤ digits_number 0 text
front_below k text =
    subst (λ (ds : List ℕ). digits_number 0 (take k text) ≤ digits_number 0 ds) (take-append-drop k text)
    (subst (λ (n : ℕ). digits_number 0 (take k text) ≤ n) (sym (fold-append (λ (n d : ℕ). n * 10 + (d - 48)) 0 (take k text) (drop k text)))
    (digits_rise (digits_number 0 (take k text)) (drop k text)))

-- a text whose front writes too much writes no number
pub too_much : (most k : ℕ) (text : List ℕ) → k < length text → most < digits_number 0 (take k text) * 10 + (get_or text k 0 - 48) → decimal_up_to most text ≡ None
too_much most k text inside above =
    let step = fold_more (λ (n d : ℕ). n * 10 + (d - 48)) 0 text k 0 inside in
    let more : most < digits_number 0 text = omega (arith, step, front_below (k + 1) text) in
    let no : nat_le (digits_number 0 text) most ≡ false = grind (arith, nat_tests) in
    cond-false (is_decimal text && nat_le (digits_number 0 text) most) (Some (digits_number 0 text)) None (and_right (is_decimal text) _ no)
