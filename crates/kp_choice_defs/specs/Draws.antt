-- Draws and the choice by them, as the statistic match of iptables-extensions makes it in its random
-- mode: a rule of probability 1/n for the first of n endpoints, 1/(n-1) for the second, and so on, and no
-- test for the last. A draw is a number below 2^31. The draws of a packet are a function from the draw's
-- place, from 0. A draw that a list lacks, and the draws of a seed, are this project's choice; the words
-- of ChaCha are those of RFC 8439, 2.3, with 8 rounds and its nonce's last 64 bits as the stream.
use Rattle.std.specs.Prelude.{ℕ, zero, suc, ◌+◌, ◌-◌, ◌*◌, ◌/◌, ◌%◌, ◌^◌, ◌==◌, ◌&&◌, ◌||◌, nat_lt, min, ◌<◌, ◌≡◌, Bool, List, [], ◌∷◌, ◌++◌, map, replicate, slice_index_or, if◌then◌else◌}
use Rattle.std.specs.Int.{w64, to_le_bytes}
use Rattle.rand_chacha.specs.ChaCha.{word_at, key_of}

-- a quotient rounded to the nearest number, and of two that are as near to the even one
abbrev pub half_even : ℕ → ℕ → ℕ
half_even a n =
    if nat_lt (2 * (a % n)) n || ((2 * (a % n) == n) && ((a / n) % 2 == 0)) then a / n else a / n + 1

-- the probability 1/n, in parts of 10^10, as it is printed with ten decimals
abbrev pub probability_of : ℕ → ℕ
probability_of n = half_even (10 ^ 10) n

-- the digit of a number at the place of this power of ten, as its ASCII code
abbrev pub digit_at : ℕ → ℕ → ℕ
digit_at p place = 48 + (p / 10 ^ place) % 10

-- a probability's text: a digit, a dot and ten digits
abbrev pub probability_text_of : ℕ → List ℕ
probability_text_of p = digit_at p 10 ∷ 46 ∷ map (digit_at p) (9 ∷ 8 ∷ 7 ∷ 6 ∷ 5 ∷ 4 ∷ 3 ∷ 2 ∷ 1 ∷ 0 ∷ [])

-- the probability in parts of 2^31, rounded, and a half up
abbrev pub threshold_of : ℕ → ℕ
threshold_of p = (2 ^ 32 * p + 10 ^ 10) / (2 * 10 ^ 10)

-- a rule of this probability matches at this draw
abbrev pub draw_matches : ℕ → ℕ → Bool
draw_matches p draw = nat_lt draw (threshold_of p)

-- the draw at a place of a list of them, or past its end the greatest draw
abbrev pub draw_of_list : List ℕ → ℕ → ℕ
draw_of_list draws k = slice_index_or draws k 2147483647

-- the draw at a place of a seed's stream: a word of ChaCha8 without its lowest bit, where the key is the
-- eight bytes of the seed, the lowest first, and then 24 zero bytes
abbrev pub draw_of_seed : ℕ → ℕ → ℕ → ℕ
draw_of_seed seed stream k = word_at 4 (key_of (to_le_bytes w64 seed ++ replicate 24 0)) stream k / 2

-- the draw of a walk's k-th test, from 0; the tests past place 2^32 - 1 all have the draw of that place
abbrev pub draw_at : (ℕ → ℕ) → ℕ → ℕ
draw_at draws k = draws (min k (2 ^ 32 - 1))

-- The place, from 0, of the chosen one of n, where the first test has the draw of place k: the least place
-- whose test of one among all that are left matches, or else the last place.
abbrev pub selected_index : (ℕ → ℕ) → ℕ → ℕ → ℕ
selected_index draws k zero = 0
selected_index draws k (suc zero) = 0
selected_index draws k (suc (suc n)) =
    if draw_matches (probability_of (suc (suc n))) (draw_at draws k)
    then 0 else suc (selected_index draws (suc k) (suc n))

-- A source of draws may be asked for every pair of a number below 2^64 and a place below 2^32, and its
-- contract allows one answer to each, below 2^31: the stated draw of the pair.
pub record IsStated (may_ask : ℕ → ℕ → Type 0) (answers : ℕ → ℕ → ℕ → Type 0) : Type 0 where
  pub callable : (number k : ℕ) → number < 2 ^ 64 → k < 2 ^ 32 → may_ask number k
  pub single : (number k draw other : ℕ) → number < 2 ^ 64 → k < 2 ^ 32 → answers number k draw → answers number k other → draw ≡ other
  pub low : (number k draw : ℕ) → number < 2 ^ 64 → k < 2 ^ 32 → answers number k draw → draw < 2 ^ 31

-- these are the stated draws of a packet of this number
abbrev pub AreDraws : (ℕ → ℕ → ℕ → Type 0) → ℕ → (ℕ → ℕ) → Type 0
AreDraws answers number draws = (k : ℕ) → k < 2 ^ 32 → answers number k (draws k)
