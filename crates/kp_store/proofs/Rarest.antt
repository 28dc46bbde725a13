-- The place of the least count so far.
use Rattle.std.proofs.Common.{◌≡◌, ℕ, ◌+◌, ◌-◌, ◌≤◌, ◌<◌, List, get_or, map, length, arith, ap, sym, subst, ◌∙◌, inl, inr}
use Rattle.std.proofs.lemmas.Bool.{cases_lt}
use Rattle.std.proofs.lemmas.List.{get_or-map}

-- no count so far is less than this
abbrev pub IsLeast : List ℕ → ℕ → ℕ → Type 0
IsLeast counts place fewest = (other : ℕ) → other < place → fewest ≤ get_or counts other 0

-- and the count of this place, if there was any yet, is no more
abbrev pub IsLeastAt : List ℕ → ℕ → ℕ → ℕ → Type 0
IsLeastAt counts place rarest fewest =
    (0 < place → get_or counts rarest 0 ≤ fewest) × IsLeast counts place fewest

last : (place other : ℕ) → place ≤ other → other < place + 1 → place ≡ other
last place other later before = omega arith

through : (a b c : ℕ) → a ≤ b → b ≤ c → a ≤ c
through a b c less least = omega arith

lesser : (size fewest : ℕ) → size < fewest → size ≤ fewest
lesser size fewest less = omega arith

at_most : (size count : ℕ) → size ≡ count → count ≤ size
at_most size count is = omega arith

at_least : (size count : ℕ) → size ≡ count → size ≤ count
at_least size count is = omega arith

some_before : (place : ℕ) → (place ≡ 0 → ⊥) → 0 < place
some_before place later = omega arith

module _ (counts : List ℕ) (place fewest : ℕ) where
  -- nor is the next one
  least_more : fewest ≤ get_or counts place 0 → IsLeast counts place fewest
      → IsLeast counts (place + 1) fewest
  least_more here least other before =
      elim (cases_lt other place) [
        | inl earlier ↦ least other earlier
        | inr later ↦ subst (λ n. fewest ≤ get_or counts n 0) (last place other later before) here
      ]

module _ (counts : List ℕ) (place rarest fewest size : ℕ) (is : size ≡ get_or counts place 0) where
  -- the next place has the least
  next : IsLeast counts place size → IsLeastAt counts (place + 1) place size
  next least = (
    (λ some. at_most size (get_or counts place 0) is),
    least_more counts place size (at_least size (get_or counts place 0) is) least,
  )

  -- as the first one has
  pub next_is_first : place ≡ 0 → IsLeastAt counts (place + 1) place size
  next_is_first first = next (λ other before. none place other first before)
    where
      none : (place other : ℕ) → place ≡ 0 → other < place → size ≤ get_or counts other 0
      none place other first before = absurd (omega arith)

  module _ (before : IsLeastAt counts place rarest fewest) where
    -- and one with a lesser count
    pub next_is_less : size < fewest → IsLeastAt counts (place + 1) place size
    next_is_less less =
        next (λ other earlier.
        through size fewest (get_or counts other 0) (lesser size fewest less) (before.1 other earlier))

    -- the place stays
    pub next_is_more : (place ≡ 0 → ⊥) → fewest ≤ size → IsLeastAt counts (place + 1) rarest fewest
    next_is_more later more = (
      (λ some. before.0 (some_before place later)),
      least_more counts place fewest (subst (λ n. fewest ≤ n) is more) before.1,
    )

-- a place among so many
pub within : (place i n : ℕ) → place ≡ i → i < n → place ≤ n - 1
within place i n is less = omega arith

-- the count of the next element
pub count_next : {X : Type 0} (f : X → ℕ) (xs : List X) (i : ℕ) (x : X) → i < length xs
    → x ≡ get_or xs i x → f x ≡ get_or (map f xs) i 0
count_next f xs i x within is = ap f is ∙ sym (get_or-map f xs i x 0 within)
