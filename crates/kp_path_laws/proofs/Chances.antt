-- Chances: they add up, and what is left stays near the exact rest.
use Rattle.std.proofs.Common.{◌≡◌, ℕ, zero, suc, ◌+◌, ◌-◌, ◌*◌, ◌/◌, ◌%◌, ◌^◌, ◌<◌, ◌≤◌, length, slice_get, sum, Some, refl, sym, ap, subst, ◌∙◌, arith}
use Rattle.std.proofs.Math.Nat.{mod-lt, mul-le-mul_left, mul-le-mul_right, mul-div_cancel}
use Rattle.std.proofs.lemmas.Nat.{div-add-mod', pow-add, pow_pos}
use Rattle.std.proofs.lemmas.List.Sums.{sum_by-cons}
use Rattle.std.proofs.lemmas.Option.{same_Some, slice_get_within}
use Rattle.kp_choice_defs.specs.Draws.{probability_of, threshold_of}
use Rattle.kp_path_defs.specs.Chances.{chances_from, chances_of, share_of, whole}
use Rattle.kp_path_laws.proofs.Draws.{share_at_most}
use Rattle.kp_path_laws.specs.ChanceLaws.{ChanceBesideExact, ChanceIsShare, ChancesAddUp, DifferByLess, LastTakesAll, LeftBesideRest, exact_chance, left_before, rest_before, threshold_at}

-- ---- Shares

-- a threshold is at most all
threshold_le : (n : ℕ) → 1 ≤ n → threshold_of (probability_of n) ≤ 2 ^ 31
threshold_le zero some = absurd (omega arith)
threshold_le (suc zero) some = omega arith
threshold_le (suc (suc n)) some =
    let most = share_at_most (suc (suc n)) (omega arith) in omega (arith, most)

pub last_takes_all : LastTakesAll
last_takes_all left = mul-div_cancel left (omega arith)

-- a share in parts, and what is left over
share_is : (left t : ℕ) → left * t / 2 ^ 31 * 2 ^ 31 + left * t % 2 ^ 31 ≡ left * t
share_is left t = div-add-mod' (left * t) (2 ^ 31)

share_le : (left t : ℕ) → t ≤ 2 ^ 31 → left * t / 2 ^ 31 ≤ left
share_le left t most =
    let is = share_is left t in
    let all = mul-le-mul_left left most in
    omega (arith, is, all)

sum_from : (left n : ℕ) → sum (chances_from left (suc n)) ≡ left
sum_from left zero = omega arith
sum_from left (suc n) =
    let share = share_of left (suc (suc n)) in
    let within = share_le left (threshold_of (probability_of (suc (suc n))))
    (threshold_le (suc (suc n)) (omega arith)) in
    sum_by-cons (λ x. x) share (chances_from (left - share) (suc n))
    ∙ ap (λ rest. share + rest) (sum_from (left - share) n) ∙ omega (arith, within)

length_from : (left n : ℕ) → length (chances_from left n) ≡ n
length_from left zero = refl
length_from left (suc zero) = refl
length_from left (suc (suc n)) = ap suc (length_from (left - share_of left (suc (suc n))) (suc n))

pub chances_add_up : ChancesAddUp
chances_add_up zero some = absurd (omega arith)
chances_add_up (suc n) some = (sum_from whole n, length_from whole (suc n))

-- ---- Places

-- the chance of a place among those behind some
behind : (n passed m place : ℕ) → n - passed ≡ m → place < m
    → slice_get (chances_from (left_before n passed) m) place
    ≡ Some (share_of (left_before n (passed + place)) (n - (passed + place)))
behind n passed zero place is below = absurd (omega arith)
behind n passed (suc zero) (suc place) is below = absurd (omega arith)
behind n passed (suc zero) zero is below =
    ap Some (sym (last_takes_all (left_before n passed))
    ∙ ap (share_of (left_before n passed)) (sym is)
    ∙ ap (λ p. share_of (left_before n p) (n - p)) (omega arith))
behind n passed (suc (suc m)) zero is below =
    ap Some (ap (share_of (left_before n passed)) (sym is)
    ∙ ap (λ p. share_of (left_before n p) (n - p)) (omega arith))
behind n passed (suc (suc m)) (suc place) is below =
    let left = left_before n passed in
    ap (λ k. slice_get (chances_from (left - share_of left k) (suc m)) place) (sym is)
    ∙ behind n (suc passed) (suc m) place (omega (arith, is)) (omega arith)
    ∙ ap (λ p. Some (share_of (left_before n p) (n - p))) (omega arith)

pub chance_is_share : ChanceIsShare
chance_is_share n place below =
    behind n 0 n place (omega arith) below
    ∙ ap (λ p. Some (share_of (left_before n p) (n - p))) (omega arith)

-- ---- One place further

-- L is left and R exactly, in parts of 1/S; a place takes t of 2^31 parts, rounded down, and u stay
module _ (L R S next share lost t u p : ℕ) (parts : t + u ≡ 2 ^ 31)
    (is : share * 2 ^ 31 + lost ≡ L * t) (part : lost < 2 ^ 31)
    (within : share ≤ L) (some : 0 < S) (scale : next ≡ S * 2 ^ 31) where
  left_is : (L - share) * 2 ^ 31 ≡ L * u + lost
  left_is = let all = ap (λ x. L * x) parts in omega (arith, all, is, within)

  left_scaled : (L - share) * next ≡ S * (L * u) + S * lost
  left_scaled =
      let scaled = ap (λ x. S * x) left_is in
      let one = ap (λ x. (L - share) * x) scale in
      omega (arith, scaled, one)

  share_scaled : share * next + S * lost ≡ S * (L * t)
  share_scaled =
      let scaled = ap (λ x. S * x) is in
      let one = ap (λ x. share * x) scale in
      omega (arith, scaled, one)

  loss : S * lost + S ≤ next
  loss = let less = mul-le-mul_left S part in omega (arith, less, scale)

  not_below : R ≤ L * S → R * u ≤ (L - share) * next
  not_below low =
      let less = mul-le-mul_right u low in
      let scaled = left_scaled in
      omega (arith, less, scaled)

  not_above : L * S ≤ R + p * S → (L - share) * next < R * u + suc p * next
  not_above high =
      let less = mul-le-mul_right u high in
      let whole_parts : u ≤ 2 ^ 31 = omega (arith, parts) in
      let most = mul-le-mul_left (p * S) whole_parts in
      let scaled = left_scaled in
      let lost_parts = loss in
      let one = ap (λ x. p * x) scale in
      omega (arith, less, most, scaled, lost_parts, one, some)

  chance_near : R ≤ L * S → L * S ≤ R + p * S → DifferByLess (suc p * next) (share * next) (R * t)
  chance_near low high =
      let scaled = share_scaled in
      let lost_parts = loss in
      let least = mul-le-mul_right t low in
      let less = mul-le-mul_right t high in
      let whole_parts : t ≤ 2 ^ 31 = omega (arith, parts) in
      let most = mul-le-mul_left (p * S) whole_parts in
      let one = ap (λ x. p * x) scale in (
        omega (arith, less, most, scaled, one, scale, some),
        omega
            (arith, least, scaled, lost_parts, one, some),
      )

-- ---- Beside the exact rest

scale_at : (place : ℕ) → 2 ^ (31 * suc place) ≡ 2 ^ (31 * place) * 2 ^ 31
scale_at place = let next : 31 * suc place ≡ 31 * place + 31 = omega arith in ap (λ k. 2 ^ k) next
    ∙ pow-add 2 (31 * place) 31

-- what is left is at least the exact rest, and at most as much above it as there are places before
record IsNear (n place : ℕ) : Type 0 where
  low : rest_before n place ≤ left_before n place * 2 ^ (31 * place)
  high : left_before n place * 2 ^ (31 * place) ≤ rest_before n place + place * 2 ^ (31 * place)
  less : 0 < place → left_before n place * 2 ^ (31 * place) < rest_before n place + place * 2 ^
      (31 * place)

near : (n place : ℕ) → place < n → IsNear n place
near n zero below = record
    { low = omega arith; high = omega arith; less = λ h. absurd (omega (arith, h)) }
near n (suc place) below =
    let before = near n place (omega (arith, below)) in
    let t = threshold_at n place in
    let L = left_before n place in
    let most = threshold_le (n - place) (omega (arith, below)) in
    let parts : t + (2 ^ 31 - t) ≡ 2 ^ 31 = omega (arith, most) in
    let lost = L * t % 2 ^ 31 in
    let low = not_below L (rest_before n place) (2 ^ (31 * place)) (2 ^ (31 * suc place))
    (L * t / 2 ^ 31) lost t (2 ^ 31 - t) place
    parts (share_is L t) (mod-lt (L * t) (omega arith)) (share_le L t most) (pow_pos (31 * place))
    (scale_at place) before.low in
    let less = not_above L (rest_before n place) (2 ^ (31 * place)) (2 ^ (31 * suc place))
    (L * t / 2 ^ 31) lost t (2 ^ 31 - t) place
    parts (share_is L t) (mod-lt (L * t) (omega arith)) (share_le L t most) (pow_pos (31 * place))
    (scale_at place) before.high in
    record { low = low; high = omega (arith, less); less = λ h. less }

pub left_beside_rest : LeftBesideRest
left_beside_rest n place below = let it = near n place below in (it.low, it.less)

share_near : (n place : ℕ) → place < n
    → DifferByLess (suc place * 2 ^ (31 * suc place))
    (share_of (left_before n place) (n - place) * 2 ^ (31 * suc place)) (exact_chance n place)
share_near n place below =
    let it = near n place below in
    let t = threshold_at n place in
    let L = left_before n place in
    let most = threshold_le (n - place) (omega (arith, below)) in
    chance_near L (rest_before n place) (2 ^ (31 * place)) (2 ^ (31 * suc place)) (L * t / 2 ^ 31)
    (L * t % 2 ^ 31) t (2 ^ 31 - t) place
    (omega (arith, most)) (share_is L t) (mod-lt (L * t) (omega arith)) (share_le L t most)
    (pow_pos (31 * place)) (scale_at place) it.low it.high

pub chance_beside_exact : ChanceBesideExact
chance_beside_exact n place chance at =
    let below : place < n = subst (λ k. place < k) (length_from whole n)
    (slice_get_within (chances_of n) place chance at) in
    let is = same_Some (share_of (left_before n place) (n - place)) chance
    (sym (chance_is_share n place below) ∙ at) in
    subst (λ c. DifferByLess (suc place * 2 ^ (31 * suc place)) (c * 2 ^ (31 * suc place))
    (exact_chance n place)) is
    (share_near n place below)
