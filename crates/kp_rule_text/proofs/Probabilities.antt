-- Words of probabilities.
use Rattle.std.proofs.Common.{◌≡◌, ℕ, ◌+◌, ◌-◌, ◌*◌, ◌/◌, ◌%◌, ◌^◌, ◌<◌, ◌≤◌, List, [], ◌∷◌, map, Bool, true, cond, ◌&&◌, nat_le, Some, None, option_and_then, IfSome, fold, lit<, refl, ap, ◌∙◌, arith}
use Rattle.std.specs.List.{list_all}
use Rattle.std.proofs.lemmas.Bool.{and_from, cond-true}
use Rattle.std.proofs.lemmas.Bool.Decides.{nat_tests}
use Rattle.std.proofs.lemmas.Option.{IfSome_then}
use Rattle.std.proofs.Math.Arith.{mod-mul}
use Rattle.kp_base.specs.Dotted.{is_digit, digits_number, split_once}
use Rattle.kp_choice_defs.specs.Draws.{digit_at, probability_text_of}
use Rattle.kp_rule_text.specs.WordReading.{digits_up_to, probability_of_parts, probability_read, probability_word}
use Rattle.kp_rule_text.proofs.Cuts.{if_kept, cut_front}
use Rattle.kp_rule_text.proofs.Words.{if_then, of_some, is_word_byte, IsWord, exact_sound, exact_complete, digit_is_word}
use Rattle.kp_lemmas.proofs.ListFacts.{test_weaker}

-- at most 1
abbrev is_probability : ℕ → Bool
is_probability p = nat_le p (10 ^ 10)

abbrev IsProbability : ℕ → Type 0
IsProbability p = is_probability p ≡ true

parts_within : (whole decimals : List ℕ) → IfSome (probability_of_parts whole decimals) IsProbability
parts_within whole decimals =
    if_then IsProbability (λ w. option_and_then (λ d. cond (nat_le (w * 10 ^ 10 + d) (10 ^ 10)) (Some (w * 10 ^ 10 + d)) None) (digits_up_to 9999999999 decimals)) (digits_up_to 1 whole)
    (λ w e. if_then IsProbability (λ d. cond (nat_le (w * 10 ^ 10 + d) (10 ^ 10)) (Some (w * 10 ^ 10 + d)) None) (digits_up_to 9999999999 decimals)
    (λ d f. if_kept IsProbability (nat_le (w * 10 ^ 10 + d) (10 ^ 10)) (Some (w * 10 ^ 10 + d)) (λ h. h)))

read_within : (word : List ℕ) → IfSome (probability_read word) IsProbability
read_within word = if_then IsProbability (λ (whole, decimals). probability_of_parts whole decimals) (split_once 46 word) (λ p e. parts_within p.0 p.1)

-- ---- digits

digit_passes : (p place : ℕ) → is_digit (digit_at p place) ≡ true
digit_passes p place =
    let low : p / 10 ^ place % 10 < 10 = omega arith in
    grind (arith, nat_tests, low)

digits_pass : (p : ℕ) (ks : List ℕ) → list_all is_digit (map (digit_at p) ks) ≡ true
digits_pass p [] = refl
digits_pass p (k ∷ ks) = and_from _ _ (digit_passes p k) (digits_pass p ks)

-- digits without their code
uncoded : (n : ℕ) (ds : List ℕ) → digits_number n (map (λ d. 48 + d) ds) ≡ fold (λ n d. n * 10 + d) n ds
uncoded n [] = refl
uncoded n (d ∷ ds) =
    let plain : n * 10 + (48 + d - 48) ≡ n * 10 + d = omega arith in
    ap (λ m. digits_number m (map (λ d. 48 + d) ds)) plain ∙ uncoded (n * 10 + d) ds

-- ten digits and the number that they write
ten_digits : (a b c d e f g h i j : ℕ) → fold (λ (n d : ℕ). n * 10 + d) 0 (a ∷ b ∷ c ∷ d ∷ e ∷ f ∷ g ∷ h ∷ i ∷ j ∷ [])
    ≡ a * 1000000000 + (b * 100000000 + (c * 10000000 + (d * 1000000 + (e * 100000 + (f * 10000 + (g * 1000 + (h * 100 + (i * 10 + j))))))))
ten_digits a b c d e f g h i j = omega arith

-- a number's last digits, from one on
digit_before : (p c : ℕ) → 0 < c → p % (10 * c) ≡ (p / c % 10) * c + p % c
digit_before p c some = mod-mul p (lit< tt) some

sums : (m9 m8 m7 m6 m5 m4 m3 m2 m1 a b c d e f g h i j : ℕ)
    → m9 ≡ a + m8 → m8 ≡ b + m7 → m7 ≡ c + m6 → m6 ≡ d + m5 → m5 ≡ e + m4 → m4 ≡ f + m3 → m3 ≡ g + m2 → m2 ≡ h + m1 → m1 ≡ i + j
    → a + (b + (c + (d + (e + (f + (g + (h + (i + j)))))))) ≡ m9
sums m9 m8 m7 m6 m5 m4 m3 m2 m1 a b c d e f g h i j p9 p8 p7 p6 p5 p4 p3 p2 p1 = omega arith

last_digits : (p : ℕ) → p / 1000000000 % 10 * 1000000000 + (p / 100000000 % 10 * 100000000 + (p / 10000000 % 10 * 10000000 + (p / 1000000 % 10 * 1000000 + (p / 100000 % 10 * 100000 + (p / 10000 % 10 * 10000 + (p / 1000 % 10 * 1000 + (p / 100 % 10 * 100 + (p / 10 % 10 * 10 + p / 1 % 10)))))))) ≡ p % 10000000000
last_digits p =
    let last : p % 10 ≡ p / 1 % 10 = omega arith in
    sums _ _ _ _ _ _ _ _ _ _ _ _ _ _ _ _ _ _ _
    (digit_before p 1000000000 (lit< tt)) (digit_before p 100000000 (lit< tt)) (digit_before p 10000000 (lit< tt))
    (digit_before p 1000000 (lit< tt)) (digit_before p 100000 (lit< tt)) (digit_before p 10000 (lit< tt))
    (digit_before p 1000 (lit< tt)) (digit_before p 100 (lit< tt)) (digit_before p 10 (lit< tt) ∙ ap (λ k. p / 10 % 10 * 10 + k) last)

abbrev decimals_of : ℕ → List ℕ
decimals_of p = map (digit_at p) (9 ∷ 8 ∷ 7 ∷ 6 ∷ 5 ∷ 4 ∷ 3 ∷ 2 ∷ 1 ∷ 0 ∷ [])

decimals_write : (p : ℕ) → digits_number 0 (decimals_of p) ≡ p % 10000000000
decimals_write p =
    uncoded 0 (p / 1000000000 % 10 ∷ p / 100000000 % 10 ∷ p / 10000000 % 10 ∷ p / 1000000 % 10 ∷ p / 100000 % 10 ∷ p / 10000 % 10 ∷ p / 1000 % 10 ∷ p / 100 % 10 ∷ p / 10 % 10 ∷ p / 1 % 10 ∷ [])
    ∙ ten_digits _ _ _ _ _ _ _ _ _ _ ∙ last_digits p

decimals_read : (p : ℕ) → digits_up_to 9999999999 (decimals_of p) ≡ Some (p % 10000000000)
decimals_read p =
    let written = decimals_write p in
    let low : digits_number 0 (decimals_of p) ≤ 9999999999 = omega (arith, written) in
    let within : nat_le (digits_number 0 (decimals_of p)) 9999999999 ≡ true = grind (arith, nat_tests, low) in
    cond-true (list_all is_digit (decimals_of p) && nat_le (digits_number 0 (decimals_of p)) 9999999999) (Some (digits_number 0 (decimals_of p))) None
    (and_from _ _ (digits_pass p (9 ∷ 8 ∷ 7 ∷ 6 ∷ 5 ∷ 4 ∷ 3 ∷ 2 ∷ 1 ∷ 0 ∷ [])) within)
    ∙ ap Some written

whole_read : (p : ℕ) → p ≤ 10000000000 → digits_up_to 1 (digit_at p 10 ∷ []) ≡ Some (p / 10000000000)
whole_read p fits =
    let written : digits_number 0 (digit_at p 10 ∷ []) ≡ p / 10000000000 = omega (arith, fits) in
    let low : digits_number 0 (digit_at p 10 ∷ []) ≤ 1 = omega (arith, written, fits) in
    let within : nat_le (digits_number 0 (digit_at p 10 ∷ [])) 1 ≡ true = grind (arith, nat_tests, low) in
    cond-true (list_all is_digit (digit_at p 10 ∷ []) && nat_le (digits_number 0 (digit_at p 10 ∷ [])) 1) (Some (digits_number 0 (digit_at p 10 ∷ []))) None
    (and_from _ _ (digits_pass p (10 ∷ [])) within)
    ∙ ap Some written

probability_is_read : (p : ℕ) → p ≤ 10000000000 → probability_read (probability_text_of p) ≡ Some p
probability_is_read p fits =
    let whole : p / 10000000000 * 10000000000 + p % 10000000000 ≡ p = omega arith in
    let low : p / 10000000000 * 10000000000 + p % 10000000000 ≤ 10000000000 = omega (arith, whole, fits) in
    let within : nat_le (p / 10000000000 * 10000000000 + p % 10000000000) 10000000000 ≡ true = grind (arith, nat_tests, low) in
    ap (option_and_then (λ (whole, decimals). probability_of_parts whole decimals)) (cut_front is_digit 46 refl (digit_at p 10 ∷ []) (decimals_of p) (digits_pass p (10 ∷ [])))
    ∙ (λ i. option_and_then (λ w. option_and_then (λ d. cond (nat_le (w * 10 ^ 10 + d) (10 ^ 10)) (Some (w * 10 ^ 10 + d)) None) (decimals_read p i)) (whole_read p fits i))
    ∙ cond-true (nat_le (p / 10000000000 * 10000000000 + p % 10000000000) 10000000000) (Some (p / 10000000000 * 10000000000 + p % 10000000000)) None within
    ∙ ap Some whole

pub probabilities : IsWord probability_word probability_text_of is_probability
probabilities = record {
  sound = λ word.
      IfSome_then (probability_word word) (exact_sound probability_text_of probability_read word)
      (λ p h. (of_some IsProbability (probability_read word) p (read_within word) h.0, h.1));
  complete = λ p h. exact_complete probability_text_of probability_read p (probability_is_read p (grind (arith, nat_tests)));
  whole = λ p h.
      and_from _ _ (digit_is_word (digit_at p 10) (digit_passes p 10))
      (test_weaker is_digit is_word_byte digit_is_word (decimals_of p) (digits_pass p (9 ∷ 8 ∷ 7 ∷ 6 ∷ 5 ∷ 4 ∷ 3 ∷ 2 ∷ 1 ∷ 0 ∷ [])));
}
