-- Numbers and their parts.
use Rattle.std.proofs.Common.{◌≡◌, ℕ, suc, zero, ◌-◌, ◌*◌, ◌/◌, ◌%◌, ◌^◌, true, nat_lt, nat_le, List, [], ◌∷◌, map, ap, ◌∙◌, lit<, arith}
use Rattle.std.proofs.Math.Nat.{div-add-mod, mul-mod_right}
use Rattle.std.proofs.lemmas.Bool.Decides.{nat_tests}
use Rattle.std.proofs.NetLemmas.Texts.{AllSegments}

-- the groups of 16 bits of a number are segments of an address
pub groups_are_segments : (n : ℕ) (places : List ℕ)
    → AllSegments (map (λ place. n / 2 ^ (16 * place) % 2 ^ 16) places)
groups_are_segments n [] k = lit< tt
groups_are_segments n (place ∷ places) zero = omega arith
groups_are_segments n (place ∷ places) (suc k) = groups_are_segments n places k

-- a number of 32 bits is at most the greatest
pub within_32_bits : (n : ℕ) → nat_lt n (2 ^ 32) ≡ true → nat_le n 4294967295 ≡ true
within_32_bits n h = grind (arith, nat_tests)

-- what is left of a number without its rest is a multiple
pub cleared : (n s : ℕ) → (n - n % s) % s ≡ 0
cleared n s =
    let whole = div-add-mod n s in
    let left : n - n % s ≡ s * (n / s) = omega (arith, whole) in
    ap (λ k. k % s) left ∙ mul-mod_right s (n / s)
