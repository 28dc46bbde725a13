-- The first characters of the base 32 of ten bytes or more.
use Rattle.std.proofs.Common.{◌≡◌, ℕ, zero, suc, ◌+◌, ◌-◌, ◌<◌, ◌≤◌, ◌^◌, min, List, [], ◌∷◌, ◌++◌, map, take, drop, length, refl, ap, sym, ◌∙◌, append-nil, append_assoc, lit<, arith}
use Rattle.std.proofs.Math.Nat.{pow-le-pow_right, one-le-pow}
use Rattle.std.proofs.lemmas.List.{take_min}
use Rattle.kp_choice_defs.specs.Names.{base32}
use Rattle.kp_names.specs.Quantum.{quantum_text_at}

-- ten bytes are two times five
base32_ten : (bs : List ℕ) → 10 ≤ length bs → base32 bs ≡ quantum_text_at bs 0 ++ (quantum_text_at bs 5 ++ base32 (drop 10 bs))
base32_ten [] h = absurd (omega (arith, h))
base32_ten (a ∷ []) h = absurd (omega (arith, h))
base32_ten (a ∷ b ∷ []) h = absurd (omega (arith, h))
base32_ten (a ∷ b ∷ c ∷ []) h = absurd (omega (arith, h))
base32_ten (a ∷ b ∷ c ∷ d ∷ []) h = absurd (omega (arith, h))
base32_ten (a ∷ b ∷ c ∷ d ∷ e ∷ []) h = absurd (omega (arith, h))
base32_ten (a ∷ b ∷ c ∷ d ∷ e ∷ f ∷ []) h = absurd (omega (arith, h))
base32_ten (a ∷ b ∷ c ∷ d ∷ e ∷ f ∷ g ∷ []) h = absurd (omega (arith, h))
base32_ten (a ∷ b ∷ c ∷ d ∷ e ∷ f ∷ g ∷ i ∷ []) h = absurd (omega (arith, h))
base32_ten (a ∷ b ∷ c ∷ d ∷ e ∷ f ∷ g ∷ i ∷ j ∷ []) h = absurd (omega (arith, h))
base32_ten (a ∷ b ∷ c ∷ d ∷ e ∷ f ∷ g ∷ i ∷ j ∷ k ∷ rest) h = refl

-- the front of two lists in a row
take_two : (n : ℕ) (xs ys : List ℕ) → take n (xs ++ ys) ≡ take n xs ++ take (n - length xs) ys
take_two zero xs ys = ap (λ k. take k ys) (let none : 0 ≡ 0 - length xs = omega arith in none)
take_two (suc n) [] ys = ap (λ k. take k ys) (let all : suc n ≡ suc n - 0 = omega arith in all)
take_two (suc n) (x ∷ xs) ys = ap (λ zs. x ∷ zs) (take_two n xs ys) ∙ ap (λ k. (x ∷ take n xs) ++ take k ys) (let same : n - length xs ≡ suc n - suc (length xs) = omega arith in same)

-- at most sixteen characters are those of the first five bytes and then of the next five
pub two_quanta : (bs : List ℕ) (n : ℕ) → 10 ≤ length bs → n ≤ 16 → take n (base32 bs) ≡ take (min n 8) (quantum_text_at bs 0) ++ take (n - min n 8) (quantum_text_at bs 5)
two_quanta bs n h fits =
    ap (take n) (base32_ten bs h)
    ∙ take_two n (quantum_text_at bs 0) (quantum_text_at bs 5 ++ base32 (drop 10 bs))
    ∙ ap (λ xs. xs ++ take (n - 8) (quantum_text_at bs 5 ++ base32 (drop 10 bs))) (sym (take_min n (quantum_text_at bs 0)))
    ∙ ap (λ xs. take (min n 8) (quantum_text_at bs 0) ++ xs)
    (take_two (n - 8) (quantum_text_at bs 5) (base32 (drop 10 bs))
    ∙ ap (λ k. take (n - 8) (quantum_text_at bs 5) ++ take k (base32 (drop 10 bs))) (let none : n - 8 - 8 ≡ 0 = omega (arith, fits) in none)
    ∙ append-nil (take (n - 8) (quantum_text_at bs 5))
    ∙ ap (λ k. take k (quantum_text_at bs 5)) (let same : n - 8 ≡ n - min n 8 = omega arith in same))

-- so a name is a prefix and those
pub name_is : (prefix bs : List ℕ) (n m : ℕ) → m ≡ min n 8 → 10 ≤ length bs → n ≤ 16 → (prefix ++ take m (quantum_text_at bs 0)) ++ take (n - m) (quantum_text_at bs 5) ≡ prefix ++ take n (base32 bs)
name_is prefix bs n m e h fits =
    append_assoc prefix (take m (quantum_text_at bs 0)) (take (n - m) (quantum_text_at bs 5))
    ∙ ap (λ xs. prefix ++ xs) (ap (λ k. take k (quantum_text_at bs 0) ++ take (n - k) (quantum_text_at bs 5)) e ∙ sym (two_quanta bs n h fits))

-- one character more of eight
pub next_character : (f : ℕ → ℕ) (p : ℕ) → p < 8 → take (p + 1) (map f (7 ∷ 6 ∷ 5 ∷ 4 ∷ 3 ∷ 2 ∷ 1 ∷ 0 ∷ [])) ≡ take p (map f (7 ∷ 6 ∷ 5 ∷ 4 ∷ 3 ∷ 2 ∷ 1 ∷ 0 ∷ [])) ++ f (7 - p) ∷ []
next_character f zero h = refl
next_character f (suc zero) h = refl
next_character f (suc (suc zero)) h = refl
next_character f (suc (suc (suc zero))) h = refl
next_character f (suc (suc (suc (suc zero)))) h = refl
next_character f (suc (suc (suc (suc (suc zero))))) h = refl
next_character f (suc (suc (suc (suc (suc (suc zero)))))) h = refl
next_character f (suc (suc (suc (suc (suc (suc (suc zero))))))) h = refl
next_character f (suc (suc (suc (suc (suc (suc (suc (suc p)))))))) h = absurd (omega (arith, h))

-- a character's place in five bytes
pub place_fits : (p : ℕ) → 32 ^ (7 - p) < 2 ^ 64
place_fits p =
    let most : 32 ^ (7 - p) ≤ 34359738368 = pow-le-pow_right {n = 32} (lit< tt) (let fits : 7 - p ≤ 7 = omega arith in fits) in
    omega (arith, most)

pub place_some : (p : ℕ) → 0 < 32 ^ (7 - p)
place_some p = one-le-pow (7 - p) 32 (lit< tt)
