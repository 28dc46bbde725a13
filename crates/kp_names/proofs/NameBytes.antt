-- A prefix and characters of base 32 are a chain's name.
use Rattle.std.proofs.Common.{◌≡◌, ℕ, ◌+◌, ◌*◌, ◌/◌, ◌^◌, ◌%◌, ◌<◌, ◌≤◌, ◌==◌, Bool, true, not, ◌&&◌, nat_le, List, [], ◌∷◌, ◌++◌, map, take, length, zero, suc, refl, ap, sym, ◌∙◌, subst, arith, length-append, append_assoc, lit<}
use Rattle.std.specs.List.{list_all, list_any, slice_index}
use Rattle.std.specs.Str.{bytes_eq}
use Rattle.std.proofs.lemmas.Bool.{and_parts}
use Rattle.std.proofs.lemmas.List.{length-take}
use Rattle.std.proofs.lemmas.Bool.Decides.{nat_tests}
use Rattle.std.proofs.lemmas.List.Folds.{list_all-append}
use Rattle.kp_types.specs.Chains.{is_chain_byte, is_chain_name, target_words}
use Rattle.kp_choice_defs.specs.Names.{quantum_text}
use Rattle.kp_choice_defs.proofs.NameCharacters.{quantum_fits, no_target}
use Rattle.kp_lemmas.proofs.ListFacts.{test_take}
use Rattle.kp_names.specs.Prefix.{is_name_prefix}
use Rattle.kp_names.specs.Quantum.{quantum_text_at}

name_fits : (prefix cs : List ℕ) → is_name_prefix prefix ≡ true → length cs ≤ 16 → list_all is_chain_byte cs ≡ true → is_chain_name (prefix ++ cs) ≡ true
name_fits [] cs h short fits = absurd (cc)
name_fits (b ∷ bs) cs h short fits =
    let parts = and_parts (b == 75) (list_all is_chain_byte (b ∷ bs) && nat_le (length bs) 11) h in
    let rest = and_parts (list_all is_chain_byte (b ∷ bs)) (nat_le (length bs) 11) parts.1 in
    let k : b ≡ 75 = let first : (b == 75) ≡ true = parts.0 in grind (arith, nat_tests, first) in
    let all : list_all is_chain_byte ((b ∷ bs) ++ cs) ≡ true =
    list_all-append is_chain_byte (b ∷ bs) cs ∙ (λ i. rest.0 i && fits i) in
    let size : length bs ≤ 11 = let test : nat_le (length bs) 11 ≡ true = rest.1 in grind (arith, nat_tests, test) in
    let long : length ((b ∷ bs) ++ cs) ≡ suc (length bs) + length cs = length-append (b ∷ bs) cs in
    let least : nat_le 1 (length ((b ∷ bs) ++ cs)) ≡ true = grind (arith, nat_tests, long) in
    let most : nat_le (length ((b ∷ bs) ++ cs)) 28 ≡ true = grind (arith, nat_tests, long, size, short) in
    let word : not (list_any (bytes_eq (b ∷ (bs ++ cs))) target_words) ≡ true = subst (λ x. not (list_any (bytes_eq (x ∷ (bs ++ cs))) target_words) ≡ true) (sym k) (no_target (bs ++ cs)) in
    λ i. least i && most i && all i && word i

-- a prefix leaves room for sixteen characters
pub prefix_short : (prefix : List ℕ) → is_name_prefix prefix ≡ true → length prefix ≤ 12
prefix_short [] h = absurd (cc)
prefix_short (b ∷ bs) h =
    let parts = and_parts (b == 75) (list_all is_chain_byte (b ∷ bs) && nat_le (length bs) 11) h in
    let rest = and_parts (list_all is_chain_byte (b ∷ bs)) (nat_le (length bs) 11) parts.1 in
    let test : nat_le (length bs) 11 ≡ true = rest.1 in
    let size : length bs ≤ 11 = grind (arith, nat_tests, test) in
    omega (arith, size)

quantum_at_fits : (bs : List ℕ) (at : ℕ) → list_all is_chain_byte (quantum_text_at bs at) ≡ true
quantum_at_fits bs at = quantum_fits (slice_index bs at) (slice_index bs (at + 1)) (slice_index bs (at + 2)) (slice_index bs (at + 3)) (slice_index bs (at + 4))

module _ (prefix bs : List ℕ) (n m : ℕ) (fit : is_name_prefix prefix ≡ true) (eight : n ≤ 8) (others : m ≤ 8) where
  abbrev pub first : List ℕ
  first = take n (quantum_text_at bs 0)

  abbrev pub second : List ℕ
  second = take m (quantum_text_at bs 5)

  pub name_of_quanta : is_chain_name ((prefix ++ first) ++ second) ≡ true
  name_of_quanta =
      let few : length first ≤ n = omega (arith, length-take n (quantum_text_at bs 0)) in
      let more : length second ≤ m = omega (arith, length-take m (quantum_text_at bs 5)) in
      let short : length (first ++ second) ≤ 16 = omega (arith, length-append first second, few, more, eight, others) in
      ap is_chain_name (append_assoc prefix first second)
      ∙ name_fits prefix (first ++ second) fit short
      (list_all-append is_chain_byte first second
      ∙ (λ i. test_take is_chain_byte n (quantum_text_at bs 0) (quantum_at_fits bs 0) i && test_take is_chain_byte m (quantum_text_at bs 5) (quantum_at_fits bs 5) i))

  pub room_for_second : length (prefix ++ first) + m ≤ 28
  room_for_second = omega (arith, length-append prefix first, length-take n (quantum_text_at bs 0), prefix_short prefix fit, eight, others)
