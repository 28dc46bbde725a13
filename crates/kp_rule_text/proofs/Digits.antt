-- Numbers that are written in digits.
use Rattle.std.proofs.Common.{◌≡◌, ℕ, ◌+◌, ◌-◌, ◌*◌, ◌<◌, List, length, take, get_or, false, ◌&&◌, nat_le, Some, None, arith}
use Rattle.std.specs.List.{list_all}
use Rattle.std.proofs.lemmas.List.Sums.{fold_more}
use Rattle.std.proofs.lemmas.Bool.{and_right, cond-false}
use Rattle.std.proofs.lemmas.Bool.Decides.{nat_tests}
use Rattle.kp_base.specs.Dotted.{is_digit, digits_number}
use Rattle.kp_base.proofs.Decimals.{front_below}
use Rattle.kp_rule_text.specs.WordReading.{digits_up_to}

-- a text whose front writes too much writes no number
pub too_much : (most k : ℕ) (text : List ℕ) → k < length text → most < digits_number 0 (take k text) * 10 + (get_or text k 0 - 48) → digits_up_to most text ≡ None
too_much most k text inside above =
    let step = fold_more (λ (n d : ℕ). n * 10 + (d - 48)) 0 text k 0 inside in
    let more : most < digits_number 0 text = omega (arith, step, front_below (k + 1) text) in
    let no : nat_le (digits_number 0 text) most ≡ false = grind (arith, nat_tests) in
    cond-false (list_all is_digit text && nat_le (digits_number 0 text) most) (Some (digits_number 0 text)) None (and_right (list_all is_digit text) _ no)
