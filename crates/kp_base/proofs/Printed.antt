-- What std prints of a number, and of the four numbers of an address, is read as that number and as that
-- address.
use Rattle.std.proofs.Common.{◌≡◌, ℕ, ◌+◌, ◌-◌, ◌*◌, ◌/◌, ◌%◌, ◌^◌, ◌<◌, ◌≤◌, ◌==◌, List, [], ◌∷◌, ◌++◌, length, get_or, map, true, false, ◌&&◌, nat_lt, nat_le, not, Some, None, decimal, refl, sym, ap, subst, ◌∙◌, inl, inr, arith, length-append, append_assoc, true≢false}
use Rattle.std.specs.List.{slice_split, list_all, All}
use Rattle.std.specs.Net.Text.{dotted_text}
use Rattle.std.proofs.lemmas.Bool.{and_left, and_right, and_from, cond-true, cases_lt, cases_Bool}
use Rattle.std.proofs.lemmas.Bool.Decides.{nat_tests}
use Rattle.std.proofs.lemmas.Fmt.{decimal_by_steps}
use Rattle.std.proofs.lemmas.List.{get_or_append_left}
use Rattle.std.proofs.lemmas.List.Elements.{All-from_get_or}
use Rattle.std.proofs.lemmas.List.Folds.{list_all-append, list_all_at}
use Rattle.std.proofs.lemmas.List.Splits.{slice_split_none, slice_split_at}
use Rattle.std.proofs.lemmas.List.Sums.{fold-append}
use Rattle.kp_base.specs.Net.{v4_address}
use Rattle.kp_base.specs.Dotted.{is_digit, is_decimal, digits_number, has_leading_zero, decimal_up_to, four_numbers, address_of}

-- the digits write the number, with no leading zero
record Writes (n : ℕ) (ds : List ℕ) : Type 0 where
  digits : list_all is_digit ds ≡ true
  value : digits_number 0 ds ≡ n
  some : 0 < length ds
  zero : n ≡ 0 → length ds ≡ 1
  first : 0 < n → 48 < get_or ds 0 0

digit_passes : (d : ℕ) → d < 10 → is_digit (48 + d) ≡ true
digit_passes d h = grind (arith, nat_tests)

one_digit : (n : ℕ) → n < 10 → Writes n ((48 + n) ∷ [])
one_digit n h = record {
  digits = and_from (is_digit (48 + n)) true (digit_passes n h) refl;
  value = omega arith;
  some = omega arith;
  zero = λ e. refl;
  first = λ p. omega arith;
}

one_more : (n : ℕ) (ds : List ℕ) → 10 ≤ n → Writes (n / 10) ds → Writes n (ds ++ (48 + n % 10) ∷ [])
one_more n ds h w =
    let last : n % 10 < 10 = omega arith in
    record {
      digits = list_all-append is_digit ds ((48 + n % 10) ∷ []) ∙ (λ i. w.digits i && (digit_passes (n % 10) last i && true));
      value = fold-append (λ (m d : ℕ). m * 10 + (d - 48)) 0 ds ((48 + n % 10) ∷ []) ∙ ap (λ m. m * 10 + (48 + n % 10 - 48)) w.value ∙ omega arith;
      some = omega (arith, length-append ds ((48 + n % 10) ∷ []));
      zero = λ e. absurd (omega arith);
      first = λ p. subst (λ (b : ℕ). 48 < b) (sym (get_or_append_left ds ((48 + n % 10) ∷ []) 0 0 w.some)) (w.first (omega arith));
    }

decimal_writes : (n : ℕ) → n < 2 ^ 64 → Writes n (decimal n)
decimal_writes = decimal_by_steps Writes one_digit one_more

no_leading_zero : (n : ℕ) (ds : List ℕ) → Writes n ds → has_leading_zero ds ≡ false
no_leading_zero n ds w =
    elim (cases_lt 0 n) [
      | inl more ↦ let f = w.first more in and_right (nat_lt 1 (length ds)) (get_or ds 0 0 == 48) (grind (arith, nat_tests))
      | inr none ↦ let z = w.zero (omega arith) in and_left (nat_lt 1 (length ds)) (get_or ds 0 0 == 48) (grind (arith, nat_tests))
    ]

-- digits that write a number are read
reads : (most n : ℕ) (ds : List ℕ) → n ≤ most → Writes n ds → decimal_up_to most ds ≡ Some n
reads most n ds fits w =
    let one : 1 ≤ length ds = w.some in
    let some : nat_le 1 (length ds) ≡ true = grind (arith, nat_tests) in
    let low : digits_number 0 ds ≤ most = omega (arith, w.value) in
    let within : nat_le (digits_number 0 ds) most ≡ true = grind (arith, nat_tests) in
    cond-true (is_decimal ds && nat_le (digits_number 0 ds) most) (Some (digits_number 0 ds)) None
    (λ i. (some i && w.digits i) && not (no_leading_zero n ds w i) && within i)
    ∙ ap Some w.value

-- a printed number is read
pub decimal_is_read : (most n : ℕ) → n ≤ most → n < 2 ^ 64 → decimal_up_to most (decimal n) ≡ Some n
decimal_is_read most n fits small = reads most n (decimal n) fits (decimal_writes n small)

-- no digit is a dot
no_dot : (ds : List ℕ) → list_all is_digit ds ≡ true → All (λ b. (b == 46) ≡ false) ds
no_dot ds h =
    All-from_get_or (λ b. (b == 46) ≡ false) ds 0 (λ i inside.
    elim (cases_Bool (is_digit (get_or ds i 0))) [
      | inl digit ↦ grind (arith, nat_tests)
      | inr other ↦ absurd (true≢false (sym h ∙ list_all_at is_digit ds i 0 inside other))
    ])

-- numbers with dots between them are the pieces of their text
pieces : (a b c d : List ℕ) → list_all is_digit a ≡ true → list_all is_digit b ≡ true → list_all is_digit c ≡ true → list_all is_digit d ≡ true
    → slice_split (λ b. b == 46) (a ++ 46 ∷ (b ++ 46 ∷ (c ++ 46 ∷ d))) ≡ a ∷ b ∷ c ∷ d ∷ []
pieces a b c d p q r s =
    let dot = λ (b : ℕ). b == 46 in
    slice_split_at dot a 46 (b ++ 46 ∷ (c ++ 46 ∷ d)) (no_dot a p) refl
    ∙ ap (λ l. a ∷ l) (slice_split_at dot b 46 (c ++ 46 ∷ d) (no_dot b q) refl)
    ∙ ap (λ l. a ∷ b ∷ l) (slice_split_at dot c 46 d (no_dot c r) refl)
    ∙ ap (λ l. a ∷ b ∷ c ∷ l) (slice_split_none dot d (no_dot d s))

-- a printed address is read
pub dotted_is_read : (a b c d : ℕ) → a < 256 → b < 256 → c < 256 → d < 256 → address_of (dotted_text a b c d) ≡ Some (v4_address (((a * 256 + b) * 256 + c) * 256 + d))
dotted_is_read a b c d la lb lc ld =
    let p = decimal_writes a (omega arith) in
    let q = decimal_writes b (omega arith) in
    let r = decimal_writes c (omega arith) in
    let s = decimal_writes d (omega arith) in
    let text : dotted_text a b c d ≡ decimal a ++ 46 ∷ (decimal b ++ 46 ∷ (decimal c ++ 46 ∷ decimal d)) = simp append_assoc in
    ap address_of text
    ∙ ap (λ l. four_numbers (map (decimal_up_to 255) l)) (pieces (decimal a) (decimal b) (decimal c) (decimal d) p.digits q.digits r.digits s.digits)
    ∙ (λ i. four_numbers (reads 255 a (decimal a) (omega arith) p i ∷ reads 255 b (decimal b) (omega arith) q i ∷ reads 255 c (decimal c) (omega arith) r i ∷ reads 255 d (decimal d) (omega arith) s i ∷ []))
