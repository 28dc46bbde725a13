-- The choice is the first whose test matches.
use Rattle.std.proofs.Common.{◌≡◌, ℕ, zero, suc, ◌+◌, ◌-◌, ◌<◌, ◌≤◌, Bool, true, false, if◌then◌else◌, refl, ap, ◌∙◌, arith}
use Rattle.kp_choice_defs.specs.Draws.{draw_at, draw_matches, probability_of, selected_index}
use Rattle.kp_draws.specs.Least.{matches_at, IsFirstMatch}

-- a test of the same number with the same draw answers the same
same_test : (draws : ℕ → ℕ) (m n k j : ℕ) (b : Bool) → m ≡ n → k ≡ j → draw_matches (probability_of n) (draw_at draws j) ≡ b → draw_matches (probability_of m) (draw_at draws k) ≡ b
same_test draws m n k j b e f h =
    ap (λ x. draw_matches (probability_of x) (draw_at draws k)) e
    ∙ ap (λ x. draw_matches (probability_of n) (draw_at draws x)) f ∙ h

-- what the first test does is the test at place 0
test_zero : (draws : ℕ → ℕ) (k n : ℕ) (b : Bool) → draw_matches (probability_of n) (draw_at draws k) ≡ b → matches_at draws k n 0 ≡ b
test_zero draws k n b h = same_test draws (n - 0) n (k + 0) k b (omega arith) (omega arith) h

-- a later test is one of the choice among the rest
test_suc : (draws : ℕ → ℕ) (k n i : ℕ) (b : Bool) → matches_at draws (suc k) n i ≡ b → matches_at draws k (suc n) (suc i) ≡ b
test_suc draws k n i b h =
    same_test draws (suc n - suc i) (n - i) (k + suc i) (suc k + i) b (omega arith) (omega arith) h

-- the first test matches
at_zero : (draws : ℕ → ℕ) (k n : ℕ) → 0 < n → draw_matches (probability_of n) (draw_at draws k) ≡ true → IsFirstMatch draws k n 0
at_zero draws k n some h = record {
  within = some;
  matches = λ more. test_zero draws k n true h;
  others = λ i less. absurd (let no : suc i ≤ 0 = less in omega (arith, no));
}

-- it doesn't, and the choice is among the rest
at_suc : (draws : ℕ → ℕ) (k n i : ℕ) → draw_matches (probability_of (suc n)) (draw_at draws k) ≡ false → IsFirstMatch draws (suc k) n i → IsFirstMatch draws k (suc n) (suc i)
at_suc draws k n i h rest = record {
  within = let in_rest : i < n = rest.within in omega (arith, in_rest);
  matches = λ more. test_suc draws k n i true (rest.matches (omega (arith, more)));
  others = before draws k n i h rest;
} where
  before : (draws : ℕ → ℕ) (k n i : ℕ) → draw_matches (probability_of (suc n)) (draw_at draws k) ≡ false → IsFirstMatch draws (suc k) n i → (j : ℕ) → j < suc i → matches_at draws k (suc n) j ≡ false
  before draws k n i h rest zero less = test_zero draws k (suc n) false h
  before draws k n i h rest (suc j) less = test_suc draws k n j false (rest.others j (omega (arith, less)))

-- by what the first test does
by_test : (draws : ℕ → ℕ) (k n : ℕ) (b : Bool) → draw_matches (probability_of (suc (suc n))) (draw_at draws k) ≡ b → IsFirstMatch draws (suc k) (suc n) (selected_index draws (suc k) (suc n)) → IsFirstMatch draws k (suc (suc n)) (if b then 0 else suc (selected_index draws (suc k) (suc n)))
by_test draws k n true h rest = at_zero draws k (suc (suc n)) (omega arith) h
by_test draws k n false h rest = at_suc draws k (suc n) _ h rest

pub first_match : (draws : ℕ → ℕ) (k n : ℕ) → 0 < n → IsFirstMatch draws k n (selected_index draws k n)
first_match draws k zero some = absurd (omega (arith, some))
first_match draws k (suc zero) some = record {
  within = some;
  matches = λ more. absurd (omega (arith, more));
  others = λ i less. absurd (omega (arith, less));
}
first_match draws k (suc (suc n)) some =
    by_test draws k n (draw_matches (probability_of (suc (suc n))) (draw_at draws k)) refl
    (first_match draws (suc k) (suc n) (omega arith))
