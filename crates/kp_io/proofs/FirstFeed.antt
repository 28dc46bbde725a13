-- The first byte that passes, as a search tells it.
use Rattle.std.proofs.Common.{◌≡◌, ℕ, Bool, true, false, List, length, Option, refl, arith}
use Rattle.std.specs.Prelude.{Some, None, get_or}
use Rattle.std.specs.List.{position, position_or_len}
use Rattle.std.proofs.lemmas.List.Sums.{position_or_len_is}
use Rattle.memchr.specs.Find.{IsFirstByte}

fails : (b : Bool) → ¬ (b ≡ true) → b ≡ false
fails true never = absurd (never refl)
fails false never = refl

-- it is the first place that passes
pub first_position : (test : ℕ → Bool) (bytes : List ℕ) (found : Option ℕ)
    → IsFirstByte test bytes found → found ≡ position test bytes
first_position test bytes None none =
    let at : position_or_len test bytes ≡ length bytes =
    position_or_len_is test bytes (length bytes) 0 (omega arith)
    (λ k below. fails (test (get_or bytes k 0)) (none k (omega arith) below))
    (λ below. absurd (omega (arith, below))) in
    grind (arith, at)
first_position test bytes (Some k) first =
    let at : position_or_len test bytes ≡ k =
    position_or_len_is test bytes k 0 (omega (arith, first.0.high))
    (λ j below. fails (test (get_or bytes j 0)) (first.0.before j (omega arith) below))
    (λ below. first.1) in
    grind (arith, at, first.0.high)
