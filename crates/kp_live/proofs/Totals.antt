-- Sums over the places of streams.
use Rattle.std.proofs.Common.{◌≡◌, ◌<◌, ◌≤◌, ◌+◌, ◌==◌, ℕ, zero, suc, Bool, true, false, cond, List, [], ◌∷◌, map, take, length, get_or, refl, ap, sym, subst, ◌∙◌, arith}
use Rattle.std.specs.List.{filter, sum, sum_by, AllByRecursion}
use Rattle.std.proofs.Math.Seq.{take-length, take-suc}
use Rattle.std.proofs.lemmas.Bool.{eqb-true, eqb-false}
use Rattle.std.proofs.lemmas.List.{map-append}
use Rattle.std.proofs.lemmas.List.Sums.{sum_by-append, sum_by-cons}

-- the sum of the first values of a function
abbrev pub total : (ℕ → ℕ) → ℕ → ℕ
total f zero = 0
total f (suc n) = total f n + f n

pub total_same : (f g : ℕ → ℕ) (n : ℕ) → ((i : ℕ) → i < n → f i ≡ g i) → total f n ≡ total g n
total_same f g zero h = refl
total_same f g (suc n) h =
    omega (arith, total_same f g n (λ i lt. h i (omega (arith, lt))), h n (omega arith))

pub total_le : (f g : ℕ → ℕ) (n : ℕ) → ((i : ℕ) → i < n → f i ≤ g i) → total f n ≤ total g n
total_le f g zero h = omega arith
total_le f g (suc n) h =
    omega (arith, total_le f g n (λ i lt. h i (omega (arith, lt))), h n (omega arith))

-- a fact of all places, from that of the last and of those before
at_place : (P : ℕ → Type 0) (i n : ℕ) → i < suc n → (i < n → P i) → P n → (b : Bool)
    → (i == n) ≡ b → P i
at_place P i n lt below last true is = subst P (sym (eqb-true i n is)) last
at_place P i n lt below last false is = below (omega (arith, lt, eqb-false i n is))

-- where the sum is as large, so is each value
pub total_each : (f g : ℕ → ℕ) (n : ℕ) → ((i : ℕ) → i < n → f i ≤ g i) → total g n ≤ total f n
    → (i : ℕ) → i < n → g i ≤ f i
total_each f g zero h le i lt = absurd (omega (arith, lt))
total_each f g (suc n) h le i lt =
    let below = total_le f g n (λ k less. h k (omega (arith, less))) in
    let last = h n (omega arith) in
    at_place (λ k. g k ≤ f k) i n lt
    (total_each f g n (λ k less. h k (omega (arith, less))) (omega (arith, le, below, last)) i)
    (omega (arith, le, below, last)) (i == n) refl

pub total_zero : (n : ℕ) → total (λ i. 0) n ≡ 0
total_zero zero = refl
total_zero (suc n) = omega (arith, total_zero n)

-- as much more at one place
abbrev one_more : (ℕ → ℕ) → ℕ → ℕ → ℕ → ℕ
one_more g j w i = g i + cond (i == j) w 0

not_there : (i j w k : ℕ) → (b : Bool) → (i == j) ≡ b → i < j → k + cond b w 0 ≡ k
not_there i j w k true is lt = absurd (omega (arith, lt, eqb-true i j is))
not_there i j w k false is lt = omega arith

last_there : (g : ℕ → ℕ) (j w n : ℕ) → j < suc n → (j < n → total (one_more g j w) n ≡ total g n + w)
    → (b : Bool) → (n == j) ≡ b
    → total (one_more g j w) n + (g n + cond b w 0) ≡ total g n + g n + w
last_there g j w n lt below true is =
    let same = total_same (one_more g j w) g n
    (λ i less. not_there i j w (g i) (i == j) refl (omega (arith, less, eqb-true n j is))) in
    omega (arith, same)
last_there g j w n lt below false is =
    omega (arith, below (omega (arith, lt, eqb-false n j is)))

total_more : (g : ℕ → ℕ) (j w n : ℕ) → j < n → total (one_more g j w) n ≡ total g n + w
total_more g j w zero lt = absurd (omega (arith, lt))
total_more g j w (suc n) lt = last_there g j w n lt (total_more g j w n) (n == j) refl

-- ---- Elements by the places that they belong to

module _ {A : Type 0} (key w : A → ℕ) where
  abbrev pub at_key : ℕ → A → Bool
  at_key i x = i == key x

  one_by : (x : A) (xs : List A) (i : ℕ) (b : Bool)
      → sum_by w (cond b (x ∷ filter (at_key i) xs) (filter (at_key i) xs))
      ≡ sum_by w (filter (at_key i) xs) + cond b (w x) 0
  one_by x xs i true = omega (arith, sum_by-cons w x (filter (at_key i) xs))
  one_by x xs i false = omega arith

  -- a sum over all is the sum of those at each place
  pub sum_by_key : (n : ℕ) (xs : List A) → AllByRecursion (λ x. key x < n) xs
      → sum_by w xs ≡ total (λ i. sum_by w (filter (at_key i) xs)) n
  sum_by_key n [] all = sym (total_zero n)
  sum_by_key n (x ∷ xs) all =
      let here = total_same (λ i. sum_by w (filter (at_key i) (x ∷ xs)))
      (one_more (λ i. sum_by w (filter (at_key i) xs)) (key x) (w x)) n
      (λ i lt. one_by x xs i (i == key x)) in
      let more = total_more (λ i. sum_by w (filter (at_key i) xs)) (key x) (w x) n all.0 in
      omega (arith, sum_by-cons w x xs, sum_by_key n xs all.1, here, more)

-- ---- Lists by their places

first_sums : {A : Type 0} (g : A → ℕ) (d : A) (xs : List A) (n : ℕ) → n ≤ length xs
    → total (λ i. g (get_or xs i d)) n ≡ sum (map g (take n xs))
first_sums g d xs zero le = refl
first_sums g d xs (suc n) le =
    let more : sum (map g (take (suc n) xs)) ≡ sum (map g (take n xs)) + (0 + g (get_or xs n d)) =
    ap (λ l. sum (map g l)) (take-suc xs n d (omega (arith, le)))
    ∙ ap sum (map-append g (take n xs) (get_or xs n d ∷ []))
    ∙ sum_by-append (λ x. x) (map g (take n xs)) (g (get_or xs n d) ∷ []) in
    omega (arith, first_sums g d xs n (omega (arith, le)), more)

-- the sum of a list is that of its places
pub list_total : {A : Type 0} (g : A → ℕ) (d : A) (xs : List A)
    → total (λ i. g (get_or xs i d)) (length xs) ≡ sum (map g xs)
list_total g d xs =
    first_sums g d xs (length xs) (omega arith) ∙ ap (λ l. sum (map g l)) (take-length xs)
