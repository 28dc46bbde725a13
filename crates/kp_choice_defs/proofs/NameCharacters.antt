-- The characters of hashed names are characters of names.
use Rattle.std.proofs.Common.{◌≡◌, ℕ, ◌+◌, ◌*◌, ◌/◌, ◌%◌, ◌^◌, ◌<◌, true, not, List, [], ◌∷◌, refl, lit<, arith}
use Rattle.std.proofs.Math.Nat.{mod-lt}
use Rattle.std.specs.List.{list_all, list_any}
use Rattle.std.specs.Str.{bytes_eq}
use Rattle.std.proofs.lemmas.Bool.Decides.{nat_tests}
use Rattle.kp_lemmas.proofs.Members.{all_map}
use Rattle.kp_types.specs.Chains.{is_chain_byte, target_words}
use Rattle.kp_choice_defs.specs.Names.{base32_digit, quantum_text}

-- a character of base 32
digit_fits : (n : ℕ) → n < 32 → is_chain_byte (base32_digit n) ≡ true
digit_fits n h = grind (arith, nat_tests)

-- the characters of five bytes
pub quantum_fits : (a b c d e : ℕ) → list_all is_chain_byte (quantum_text a b c d e) ≡ true
quantum_fits a b c d e =
    let all : ℕ = (((a * 256 + b) * 256 + c) * 256 + d) * 256 + e in
    all_map is_chain_byte (λ place. base32_digit (all / 32 ^ place % 32))
    (7 ∷ 6 ∷ 5 ∷ 4 ∷ 3 ∷ 2 ∷ 1 ∷ 0 ∷ [])
    (λ place _. digit_fits ((all / 32 ^ place) % 32) (mod-lt (all / 32 ^ place) (lit< tt)))

-- no word of a target begins with a K
pub no_target : (bytes : List ℕ) → not (list_any (bytes_eq (75 ∷ bytes)) target_words) ≡ true
no_target bytes = refl
