-- Words that stand for values: what is read has the word as its text, and the text of a value is read.
use Rattle.std.proofs.Common.{◌≡◌, ℕ, ◌^◌, ◌<◌, ◌≤◌, ◌==◌, List, Bool, true, false, cond, not, ◌&&◌, nat_le, bytes_eq, decimal, Option, Some, None, option_map, option_and_then, IfSome, refl, sym, ap, subst, ◌∙◌, arith}
use Rattle.std.specs.List.{list_all}
use Rattle.std.proofs.lemmas.Bool.{and_parts, and_from, cond-true}
use Rattle.std.proofs.lemmas.Bool.Decides.{nat_tests}
use Rattle.std.proofs.lemmas.Option.{IfSome_then, none-some}
use Rattle.std.proofs.lemmas.Slice.Eq.{bytes_eq-Decides}
use Rattle.kp_base.specs.Dotted.{is_digit, is_decimal, digits_number}
use Rattle.kp_base.proofs.Printed.{decimal_is_read}
use Rattle.kp_types.specs.Chains.{is_chain_byte, is_chain_name}
use Rattle.kp_restore_defs.specs.RuleText.{is_port_number}
use Rattle.kp_rule_text.specs.WordReading.{exact, digits_up_to, number_word, port_word, name_word}
use Rattle.kp_rule_text.proofs.Cuts.{if_kept}
use Rattle.kp_lemmas.proofs.ListFacts.{test_weaker}

-- what is read and then more of it
pub if_then : {A B : Type 0} (P : B → Type 0) (f : A → Option B) (o : Option A) → ((a : A) → o ≡ Some a → IfSome (f a) P) → IfSome (option_and_then f o) P
if_then P f None h = tt
if_then P f (Some a) h = h a refl

-- what is read and then turned into something else
pub if_map : {A B : Type 0} (P : B → Type 0) (f : A → B) (o : Option A) → ((a : A) → o ≡ Some a → P (f a)) → IfSome (option_map f o) P
if_map P f None h = tt
if_map P f (Some a) h = h a refl

-- what holds of a value that is there
pub of_some : {A : Type 0} (P : A → Type 0) (o : Option A) (a : A) → IfSome o P → o ≡ Some a → P a
of_some P o a h e = subst (λ o. IfSome o P) e h

-- a byte of a word
abbrev pub is_word_byte : ℕ → Bool
is_word_byte b = not (b == 32)

-- words of values that have a text of their own
pub record IsWord {V : Type 0} (read : List ℕ → Option V) (text_of : V → List ℕ) (is_valid : V → Bool) : Type 0 where
  pub sound : (word : List ℕ) → IfSome (read word) (λ v. (is_valid v ≡ true) × (text_of v ≡ word))
  pub complete : (v : V) → is_valid v ≡ true → read (text_of v) ≡ Some v
  pub whole : (v : V) → is_valid v ≡ true → list_all is_word_byte (text_of v) ≡ true

-- ---- values whose text is compared

pub exact_sound : {V : Type 0} (text_of : V → List ℕ) (read : List ℕ → Option V) (word : List ℕ) → IfSome (exact text_of read word) (λ v. (read word ≡ Some v) × (text_of v ≡ word))
exact_sound text_of read word =
    if_then (λ v. (read word ≡ Some v) × (text_of v ≡ word)) (λ v. cond (bytes_eq (text_of v) word) (Some v) None) (read word)
    (λ v e. if_kept (λ v. (read word ≡ Some v) × (text_of v ≡ word)) (bytes_eq (text_of v) word) (Some v) (λ h. (e, (bytes_eq-Decides (text_of v) word).0 h)))

pub exact_complete : {V : Type 0} (text_of : V → List ℕ) (read : List ℕ → Option V) (v : V) → read (text_of v) ≡ Some v → exact text_of read (text_of v) ≡ Some v
exact_complete text_of read v e =
    ap (option_and_then (λ v'. cond (bytes_eq (text_of v') (text_of v)) (Some v') None)) e
    ∙ cond-true (bytes_eq (text_of v) (text_of v)) (Some v) None ((bytes_eq-Decides (text_of v) (text_of v)).1 refl)

-- ---- numbers

digits_kept : (most : ℕ) (text : List ℕ) (n : ℕ) (b : Bool) → b ≡ (is_decimal text && nat_le (digits_number 0 text) most) → cond b (Some (digits_number 0 text)) None ≡ Some n
    → (list_all is_digit text ≡ true) × (digits_up_to most text ≡ Some n)
digits_kept most text n true e h =
    let both = and_parts _ _ (sym e) in
    let digits = (and_parts _ _ (and_parts _ _ both.0).0).1 in
    (digits, cond-true (list_all is_digit text && nat_le (digits_number 0 text) most) (Some (digits_number 0 text)) None (and_from _ _ digits both.1) ∙ h)
digits_kept most text n false e h = absurd (none-some n h)

-- a printed number has digits alone, and is read
pub printed : (most n : ℕ) → n ≤ most → most < 2 ^ 64 → (list_all is_digit (decimal n) ≡ true) × (digits_up_to most (decimal n) ≡ Some n)
printed most n fits small = digits_kept most (decimal n) n (is_decimal (decimal n) && nat_le (digits_number 0 (decimal n)) most) refl (decimal_is_read most n fits (omega (arith, fits, small)))

digits_within : (most : ℕ) (text : List ℕ) → IfSome (digits_up_to most text) (λ n. nat_le n most ≡ true)
digits_within most text =
    if_kept (λ n. nat_le n most ≡ true) (list_all is_digit text && nat_le (digits_number 0 text) most) (Some (digits_number 0 text)) (λ h. (and_parts _ _ h).1)

pub digit_is_word : (b : ℕ) → is_digit b ≡ true → is_word_byte b ≡ true
digit_is_word b h = grind (arith, nat_tests)

module _ (most : ℕ) (small : most < 2 ^ 64) where
  pub number_sound : (word : List ℕ) → IfSome (number_word most word) (λ n. (nat_le n most ≡ true) × (decimal n ≡ word))
  number_sound word =
      IfSome_then (number_word most word) (exact_sound decimal (digits_up_to most) word)
      (λ n h. (of_some (λ n. nat_le n most ≡ true) (digits_up_to most word) n (digits_within most word) h.0, h.1))

  pub number_complete : (n : ℕ) → nat_le n most ≡ true → number_word most (decimal n) ≡ Some n
  number_complete n h = exact_complete decimal (digits_up_to most) n (printed most n (grind (arith, nat_tests)) small).1

  pub number_digits : (n : ℕ) → nat_le n most ≡ true → list_all is_digit (decimal n) ≡ true
  number_digits n h = (printed most n (grind (arith, nat_tests)) small).0

  pub numbers : IsWord (number_word most) decimal (λ n. nat_le n most)
  numbers = record {
    sound = number_sound;
    complete = number_complete;
    whole = λ n h. test_weaker is_digit is_word_byte digit_is_word (decimal n) (number_digits n h);
  }

-- ---- ports

port_fits : (n : ℕ) → nat_le n 65535 ≡ true → nat_le 1 n ≡ true → is_port_number n ≡ true
port_fits n low some = grind (arith, nat_tests)

port_low : (n : ℕ) → is_port_number n ≡ true → nat_le n 65535 ≡ true
port_low n h = grind (arith, nat_tests)

port_some : (n : ℕ) → is_port_number n ≡ true → nat_le 1 n ≡ true
port_some n h = (and_parts _ _ h).0

pub port_digits : (n : ℕ) → is_port_number n ≡ true → list_all is_digit (decimal n) ≡ true
port_digits n h = number_digits 65535 (omega arith) n (port_low n h)

pub ports : IsWord port_word decimal is_port_number
ports = record {
  sound = λ word.
      if_then (λ n. (is_port_number n ≡ true) × (decimal n ≡ word)) (λ n. cond (nat_le 1 n) (Some n) None) (number_word 65535 word)
      (λ n e. let h = of_some (λ n. (nat_le n 65535 ≡ true) × (decimal n ≡ word)) (number_word 65535 word) n (number_sound 65535 (omega arith) word) e in
      if_kept (λ n. (is_port_number n ≡ true) × (decimal n ≡ word)) (nat_le 1 n) (Some n) (λ some. (port_fits n h.0 some, h.1)));
  complete = λ n h.
      ap (option_and_then (λ (n : ℕ). cond (nat_le 1 n) (Some n) None)) (number_complete 65535 (omega arith) n (port_low n h))
      ∙ cond-true (nat_le 1 n) (Some n) None (port_some n h);
  whole = λ n h. test_weaker is_digit is_word_byte digit_is_word (decimal n) (port_digits n h);
}

-- ---- names

chain_byte_is_word : (b : ℕ) → is_chain_byte b ≡ true → is_word_byte b ≡ true
chain_byte_is_word b h = grind (arith, nat_tests)

pub names : IsWord name_word (λ n. n) is_chain_name
names = record {
  sound = λ word. if_kept (λ n. (is_chain_name n ≡ true) × (n ≡ word)) (is_chain_name word) (Some word) (λ h. (h, refl));
  complete = λ n h. cond-true (is_chain_name n) (Some n) None h;
  whole = λ n h. test_weaker is_chain_byte is_word_byte chain_byte_is_word n (and_parts _ _ (and_parts _ _ h).0).1;
}
