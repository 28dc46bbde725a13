-- Numbers that a parse refuses.
use Rattle.std.proofs.Common.{◌≡◌, ◌<◌, ◌^◌, ◌&&◌, ℕ, true, List, Some, None, Result, Err, rules, arith, sym, subst, nat_le, inl, inr, length}
use Rattle.std.specs.List.{list_all}
use Rattle.std.specs.Result.{OkIff}
use Rattle.std.specs.Str.Parse.{ParsesUnsigned, digits_value}
use Rattle.std.proofs.lemmas.Bool.{cases_lt, cond-false}
use Rattle.std.proofs.lemmas.Bool.Decides.{nat_tests}
use Rattle.std.proofs.lemmas.Str.Parse.{IsNumeralModel, numerals_by_value, parse_digits}
use Rattle.kp_words.specs.Words.{is_digit, within}

own : IsNumeralModel (λ ds. list_all is_digit ds ≡ true) (digits_value 10)
own = numerals_by_value _ (search rules)

-- a number above the most is none
above : (least most number : ℕ) → most < number → None ≡ within least most number
above least most number more =
    sym (cond-false (nat_le least number && nat_le number most) (Some number) None (grind (arith, nat_tests)))

-- a number whose parse fails doesn't fit into 64 bits, so it is above the most
pub too_large : {E : Type 0} (least most : ℕ) (word : List ℕ) (r : Result ℕ E) (e : E) → r ≡ Err e → ParsesUnsigned 64 10 word r → 0 < length word
    → list_all is_digit word ≡ true → most < 2 ^ 64 → None ≡ within least most (digits_value 10 word)
too_large least most word r e failed parsed some digits fits =
    let refused = subst (λ x. OkIff x ((0 < length word) × (digits_value 10 word < 2 ^ 64)) (digits_value 10 word)) failed
    (parse_digits own 64 word r parsed digits) in
    elim (cases_lt (digits_value 10 word) (2 ^ 64)) [
      | inl less ↦ absurd (refused (some, less))
      | inr more ↦ above least most (digits_value 10 word) (omega arith)
    ]
