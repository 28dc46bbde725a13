-- The choice among two or more, by what its first test does.
use Rattle.std.proofs.Common.{◌≡◌, ℕ, zero, suc, ◌+◌, ◌<◌, ◌≤◌, Bool, true, false, if◌then◌else◌, nat_lt, ap, refl, subst, arith}
use Rattle.std.proofs.lemmas.Bool.Decides.{nat_tests}
use Rattle.kp_choice_defs.specs.Draws.{draw_at, draw_matches, probability_of, threshold_of, selected_index}

-- the choice at the answer of its first test
chosen_by : (draws : ℕ → ℕ) (k m : ℕ) (b : Bool) → draw_matches (probability_of (suc (suc m))) (draw_at draws k) ≡ b → selected_index draws k (suc (suc m)) ≡ (if b then 0 else suc (selected_index draws (suc k) (suc m)))
chosen_by draws k m b h = ap (λ b. if b then 0 else suc (selected_index draws (suc k) (suc m))) h

-- a draw's test, from the draw and the threshold that the code has
tested : (p d t at : ℕ) (b : Bool) → d ≡ at → t ≡ threshold_of p → nat_lt d t ≡ b → draw_matches p at ≡ b
tested p d t at b drawn limit h =
    subst (λ x. nat_lt x (threshold_of p) ≡ b) drawn (subst (λ x. nat_lt d x ≡ b) limit h)

-- the first test matches
pub matched_first : (draws : ℕ → ℕ) (k n d t : ℕ) → d ≡ draw_at draws k → t ≡ threshold_of (probability_of n) → d < t → selected_index draws k n ≡ 0
matched_first draws k zero d t drawn limit below = refl
matched_first draws k (suc zero) d t drawn limit below = refl
matched_first draws k (suc (suc m)) d t drawn limit below =
    chosen_by draws k m true (tested _ d t _ true drawn limit (grind (arith, nat_tests)))

-- the first test does not match, so the choice goes on at the next draw
pub passed_first : (draws : ℕ → ℕ) (k n d t next rest : ℕ) → 2 ≤ n → next ≡ k + 1 → rest + 1 ≡ n → d ≡ draw_at draws k → t ≡ threshold_of (probability_of n) → t ≤ d → selected_index draws k n ≡ 1 + selected_index draws next rest
passed_first draws k zero d t next rest two further fewer drawn limit above = omega arith
passed_first draws k (suc zero) d t next rest two further fewer drawn limit above = omega arith
passed_first draws k (suc (suc m)) d t next rest two further fewer drawn limit above =
    let later : next ≡ suc k = omega arith in
    let left : rest ≡ suc m = omega arith in
    let step : selected_index draws k (suc (suc m)) ≡ suc (selected_index draws (suc k) (suc m)) =
    chosen_by draws k m false (tested _ d t _ false drawn limit (grind (arith, nat_tests))) in
    rw (later, left) (omega (arith, step))
