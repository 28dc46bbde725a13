-- Numbers as two words of eight bytes.
use Rattle.std.specs.Prelude.{◌≡◌, ℕ, ◌+◌, ◌*◌, ◌/◌, ◌%◌, ◌<◌, ◌^◌}
use Rattle.std.proofs.Common.{◌∙◌}
use Rattle.std.proofs.Math.Nat.{mul-add-mod_self_right, mod-eq_of_lt}
use Rattle.std.proofs.lemmas.Nat.{div-mul-add}

-- how many numbers a word of eight bytes holds
abbrev pub words : ℕ
words = 2 ^ 64

-- the words that a number was made of
pub high_is : (high low : ℕ) → low < words
    → (high * words + low) / words ≡ high
high_is high low small = div-mul-add high words low small

pub low_is : (high low : ℕ) → low < words
    → (high * words + low) % words ≡ low
low_is high low small = mul-add-mod_self_right high words low ∙ mod-eq_of_lt small
