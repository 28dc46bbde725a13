-- Texts that are cut at a byte, and the numbers of their pieces.
use Rattle.std.proofs.Common.{◌≡◌, ℕ, ◌+◌, ◌*◌, ◌<◌, ◌≤◌, ◌==◌, List, [], ◌∷◌, length, take, drop, get_or, map, true, false, ◌&&◌, nat_lt, nat_le, not, position, Option, Some, None, option_map, option_and_then, refl, sym, ap, ◌∙◌, inl, inr, arith}
use Rattle.std.specs.List.{slice_split, list_all, position_or_len}
use Rattle.std.proofs.lemmas.Bool.{and_left, and_right, cond-true, cond-false, cases_lt}
use Rattle.std.proofs.lemmas.Bool.Decides.{nat_tests}
use Rattle.std.proofs.lemmas.List.Elements.{All-from_get_or}
use Rattle.std.proofs.lemmas.List.Folds.{list_all_at}
use Rattle.std.proofs.lemmas.List.Splits.{slice_split_none, slice_split_first}
use Rattle.std.proofs.lemmas.List.Sums.{fails_before_first, passes_at_first}
use Rattle.kp_base.specs.Net.{AddressParts, v4_address}
use Rattle.kp_base.specs.Dotted.{is_digit, is_decimal, digits_number, has_leading_zero, decimal_up_to, four_numbers, address_of, number_before_dot}

-- the place of the first dot, or the length
abbrev dot : List ℕ → ℕ
dot text = position_or_len (λ b. b == 46) text

-- the first place of a dot, where there is one
dot_some : (text : List ℕ) → dot text < length text → position (λ b. b == 46) text ≡ Some (dot text)
dot_some text inside = cond-true (nat_lt (dot text) (length text)) (Some (dot text)) None (grind (arith, nat_tests))

dot_none : (text : List ℕ) → length text ≤ dot text → position (λ b. b == 46) text ≡ None
dot_none text all = cond-false (nat_lt (dot text) (length text)) (Some (dot text)) None (grind (arith, nat_tests))

-- the numbers between the dots
abbrev numbers : List ℕ → List (Option ℕ)
numbers text = map (decimal_up_to 255) (slice_split (λ b. b == 46) text)

numbers_none : (text : List ℕ) → length text ≤ dot text → numbers text ≡ decimal_up_to 255 text ∷ []
numbers_none text all =
    ap (map (decimal_up_to 255))
    (slice_split_none (λ b. b == 46) text (All-from_get_or (λ b. (b == 46) ≡ false) text 0 (λ i h. fails_before_first (λ b. b == 46) text i 0 (omega arith))))

numbers_some : (text : List ℕ) → dot text < length text → numbers text ≡ decimal_up_to 255 (take (dot text) text) ∷ numbers (drop (dot text + 1) text)
numbers_some text inside = ap (map (decimal_up_to 255)) (slice_split_first (λ b. b == 46) text 0 inside)

-- a text has a piece
numbers_any : (text : List ℕ) → (x : Option ℕ) × (xs : List (Option ℕ)) × (numbers text ≡ x ∷ xs)
numbers_any text =
    elim (cases_lt (dot text) (length text)) [
      | inl inside ↦ (decimal_up_to 255 (take (dot text) text), numbers (drop (dot text + 1) text), numbers_some text inside)
      | inr all ↦ (decimal_up_to 255 text, [], numbers_none text all)
    ]

-- the byte of a dot is no digit
dot_no_digit : (b : ℕ) → (b == 46) ≡ true → is_digit b ≡ false
dot_no_digit b h = grind (arith, nat_tests)

-- a text with a dot is no decimal
dotted_none : (text : List ℕ) → dot text < length text → decimal_up_to 255 text ≡ None
dotted_none text inside =
    let no : list_all is_digit text ≡ false = list_all_at is_digit text (dot text) 0 inside (dot_no_digit (get_or text (dot text) 0) (passes_at_first (λ b. b == 46) text 0 inside)) in
    let undecimal : is_decimal text ≡ false = and_left (nat_le 1 (length text) && list_all is_digit text) (not (has_leading_zero text)) (and_right (nat_le 1 (length text)) (list_all is_digit text) no) in
    cond-false (is_decimal text && nat_le (digits_number 0 text) 255) (Some (digits_number 0 text)) None (and_left (is_decimal text) _ undecimal)

-- the number before the first dot
first_none : (text : List ℕ) → length text ≤ dot text → number_before_dot text ≡ None
first_none text all = rw (dot_none text all)

first_some : (text : List ℕ) → dot text < length text → number_before_dot text ≡ option_map (λ n. (n, drop (dot text + 1) text)) (decimal_up_to 255 (take (dot text) text))
first_some text inside = rw (dot_some text inside)

-- the address of three numbers and a last one
abbrev pub with_last : ℕ → ℕ → ℕ → Option ℕ → Option AddressParts
with_last a b c d = option_map (λ d. v4_address (((a * 256 + b) * 256 + c) * 256 + d)) d

-- the address of three numbers and the text behind, of two, and of one
abbrev last_of : ℕ → ℕ → ℕ × List ℕ → Option AddressParts
last_of a b p = with_last a b p.0 (decimal_up_to 255 p.1)

abbrev two_of : ℕ → ℕ × List ℕ → Option AddressParts
two_of a p = option_and_then (last_of a p.0) (number_before_dot p.1)

abbrev three_of : ℕ × List ℕ → Option AddressParts
three_of p = option_and_then (two_of p.0) (number_before_dot p.1)

-- fewer or more than four numbers are no address
pub one_short : (x : Option ℕ) → four_numbers (x ∷ []) ≡ None
one_short None = refl
one_short (Some a) = refl

two_short : (a : ℕ) (x : Option ℕ) → four_numbers (Some a ∷ x ∷ []) ≡ None
two_short a None = refl
two_short a (Some b) = refl

three_short : (a b : ℕ) (x : Option ℕ) → four_numbers (Some a ∷ Some b ∷ x ∷ []) ≡ None
three_short a b None = refl
three_short a b (Some c) = refl

too_long : (a b c : ℕ) (x y : Option ℕ) (xs : List (Option ℕ)) → four_numbers (Some a ∷ Some b ∷ Some c ∷ x ∷ y ∷ xs) ≡ None
too_long a b c None y xs = refl
too_long a b c (Some d) y xs = refl

four : (a b c : ℕ) (x : Option ℕ) → four_numbers (Some a ∷ Some b ∷ Some c ∷ x ∷ []) ≡ with_last a b c x
four a b c None = refl
four a b c (Some d) = refl

-- F reads numbers, and K a number and the text behind its dot
module _ (F : List (Option ℕ) → Option AddressParts) (K : ℕ × List ℕ → Option AddressParts) (short : (x : Option ℕ) → F (x ∷ []) ≡ None) (none : (xs : List (Option ℕ)) → F (None ∷ xs) ≡ None)
    (some : (n : ℕ) (rest : List ℕ) → F (Some n ∷ numbers rest) ≡ K (n, rest)) where
  next : (rest : List ℕ) (x : Option ℕ) → F (x ∷ numbers rest) ≡ option_and_then K (option_map (λ n. (n, rest)) x)
  next rest None = none (numbers rest)
  next rest (Some n) = some n rest

  by_dot : (text : List ℕ) → F (numbers text) ≡ option_and_then K (number_before_dot text)
  by_dot text =
      elim (cases_lt (dot text) (length text)) [
        | inl inside ↦
            ap F (numbers_some text inside)
            ∙ next (drop (dot text + 1) text) (decimal_up_to 255 (take (dot text) text))
            ∙ sym (ap (option_and_then K) (first_some text inside))
        | inr all ↦ ap F (numbers_none text all) ∙ short (decimal_up_to 255 text) ∙ sym (ap (option_and_then K) (first_none text all))
      ]

-- what stands behind three dots is the last number
behind_three : (a b c : ℕ) (text : List ℕ) → four_numbers (Some a ∷ Some b ∷ Some c ∷ numbers text) ≡ last_of a b (c, text)
behind_three a b c text =
    let F = λ (ns : List (Option ℕ)). four_numbers (Some a ∷ Some b ∷ Some c ∷ ns) in
    elim (cases_lt (dot text) (length text)) [
      | inl inside ↦
          let x = decimal_up_to 255 (take (dot text) text) in
          let more = numbers_any (drop (dot text + 1) text) in
          ap F (numbers_some text inside)
          ∙ ap (λ ns. F (x ∷ ns)) more.2
          ∙ too_long a b c x more.0 more.1
          ∙ sym (ap (with_last a b c) (dotted_none text inside))
      | inr all ↦ ap F (numbers_none text all) ∙ four a b c (decimal_up_to 255 text)
    ]

-- behind two dots, behind one, and from the start
behind_two : (a b : ℕ) (text : List ℕ) → four_numbers (Some a ∷ Some b ∷ numbers text) ≡ two_of a (b, text)
behind_two a b = by_dot (λ ns. four_numbers (Some a ∷ Some b ∷ ns)) (last_of a b) (three_short a b) (λ xs. refl) (behind_three a b)

behind_one : (a : ℕ) (text : List ℕ) → four_numbers (Some a ∷ numbers text) ≡ three_of (a, text)
behind_one a = by_dot (λ ns. four_numbers (Some a ∷ ns)) (two_of a) (two_short a) (λ xs. refl) (behind_two a)

-- an address is read number by number
address_by_dots : (text : List ℕ) → address_of text ≡ option_and_then three_of (number_before_dot text)
address_by_dots = by_dot four_numbers three_of one_short (λ xs. refl) behind_one

-- what the numbers before the first dots say of the address
module _ (text : List ℕ) where
  pub no_number : None ≡ number_before_dot text → None ≡ address_of text
  no_number h = ap (option_and_then three_of) h ∙ sym (address_by_dots text)

  module _ (a : ℕ) (rest : List ℕ) (first : Some (a, rest) ≡ number_before_dot text) where
    from_one : three_of (a, rest) ≡ address_of text
    from_one = ap (option_and_then three_of) first ∙ sym (address_by_dots text)

    pub one_number : None ≡ number_before_dot rest → None ≡ address_of text
    one_number h = ap (option_and_then (two_of a)) h ∙ from_one

    module _ (b : ℕ) (rest' : List ℕ) (second : Some (b, rest') ≡ number_before_dot rest) where
      from_two : two_of a (b, rest') ≡ address_of text
      from_two = ap (option_and_then (two_of a)) second ∙ from_one

      pub two_numbers : None ≡ number_before_dot rest' → None ≡ address_of text
      two_numbers h = ap (option_and_then (last_of a b)) h ∙ from_two

      pub three_numbers : (c : ℕ) (rest'' : List ℕ) → Some (c, rest'') ≡ number_before_dot rest' → with_last a b c (decimal_up_to 255 rest'') ≡ address_of text
      three_numbers c rest'' third = ap (option_and_then (last_of a b)) third ∙ from_two
