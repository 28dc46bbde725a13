-- The draws of a packet's line are below 2^31.
use Rattle.std.proofs.Common.{◌<◌, ◌^◌, ◌/◌, ℕ, zero, suc, List, [], ◌∷◌, lit≤, arith}
use Rattle.std.proofs.Common.{slice_index_or}
use Rattle.std.proofs.lemmas.Nat.{mod_below}
use Rattle.rand_chacha.specs.Block.{block_word}
use Rattle.kp_text_defs.specs.ListedDraws.{AreLow, listed}
use Rattle.kp_text_defs.specs.declared.draws.Draws.{Draws}
use Rattle.kp_text_defs.specs.declared.draws.Draws.TheVariants as draws
use Rattle.kp_run_defs.specs.AnswerText.{draws_at}

word_low : (n : ℕ) (key : List ℕ) (counter nonce k : ℕ) → block_word n key counter nonce k < 2 ^ 32
unfolding block_word
word_low n key counter nonce k = mod_below _ (2 ^ 32) (lit≤ tt)

half_low : (w : ℕ) → w < 2 ^ 32 → w / 2 < 2 ^ 31
half_low w h = omega (arith, h)

list_low : (ds : List ℕ) → AreLow ds → (k : ℕ) → slice_index_or ds k 2147483647 < 2 ^ 31
list_low [] low zero = lit≤ tt
list_low [] low (suc k) = lit≤ tt
list_low (d ∷ ds) low zero = low zero 0 (omega arith)
list_low (d ∷ ds) low (suc k) = list_low ds (λ j e h. low (suc j) e (omega (arith, h))) k

-- each draw is
pub draw_low : (number : ℕ) (ds : Draws) (k : ℕ) → AreLow (listed ds)
    → draws_at number ds k < 2 ^ 31
draw_low number (draws.List ds) k low = list_low ds low k
draw_low number (draws.Seed seed) k low = half_low _ (word_low 4 _ _ _ _)
