-- Placing what is left: new slices that are full first, and then one more or a slice that has room.
use Rattle.std.proofs.Common.{◌≡◌, ℕ, zero, suc, ◌+◌, ◌<◌, ◌≤◌, Bool, true, false, cond, not, ◌&&◌, ◌||◌, nat_lt, max, List, [], ◌∷◌, ◌++◌, map, take, drop, length, get_or, fold, filter, slice_set, Option, Some, None, unwrap_or, refl, sym, ap, subst, ◌∙◌, arith, append_assoc}
use Rattle.std.specs.List.{list_any, position, position_or_len}
use Rattle.std.proofs.lemmas.Bool.{or_parts}
use Rattle.std.proofs.Math.Bool.{or-true, or-false}
use Rattle.std.proofs.lemmas.Bool.Decides.{nat_tests}
use Rattle.std.proofs.lemmas.List.{length-drop, take_all, append-nil}
use Rattle.std.proofs.Math.ListN.{drop_of_length-le}
use Rattle.std.proofs.lemmas.List.Folds.{list_any-append}
use Rattle.std.proofs.lemmas.List.Elements.{filter-append}
use Rattle.std.proofs.lemmas.List.Sums.{fold_push}
use Rattle.std.proofs.lemmas.List.Quantifiers.{position-Some}
use Rattle.kp_types.specs.declared.slice.Wanted.{Wanted}
use Rattle.kp_object_defs.specs.Packing.{Filling, Placed, place_left, placed_if, fits_in_one, has_room, with_more, give_first, fill_fullest}
use Rattle.kp_packer.specs.Views.{with_made}

-- ---- full slices

-- no bound on the number of new slices matters that is as great as what is left
enough : (n m most : ℕ) → 1 ≤ most → (fs : List Filling) (left : List Wanted) → length left ≤ n → length left ≤ m → place_left n most fs left ≡ place_left m most fs left
enough zero zero most some fs left below under = refl
enough zero (suc m) most some fs [] below under = refl
enough zero (suc m) most some fs (w ∷ ws) below under = absurd (omega (arith, below))
enough (suc n) zero most some fs [] below under = refl
enough (suc n) zero most some fs (w ∷ ws) below under = absurd (omega (arith, under))
enough (suc n) (suc m) most some fs [] below under = refl
enough (suc n) (suc m) most some fs (w ∷ ws) below under =
    let less = length-drop most (w ∷ ws) in
    ap (placed_if (fits_in_one most (w ∷ ws) fs) most (w ∷ ws) fs)
    (enough n m most some fs (drop most (w ∷ ws)) (omega (arith, less, some, below)) (omega (arith, less, some, under)))

none_left : (n most : ℕ) (fs : List Filling) → place_left n most fs [] ≡ record { fillings = fs; made = [] }
none_left zero most fs = refl
none_left (suc n) most fs = refl

-- as many endpoints as a slice may have make a new one
one_full : (most : ℕ) → 1 ≤ most → (fs : List Filling) (left : List Wanted) → most ≤ length left → place_left (length left) most fs left ≡ with_made (take most left ∷ []) (place_left (length (drop most left)) most fs (drop most left))
one_full most some fs [] many = absurd (omega (arith, some, many))
one_full most some fs (w ∷ ws) many =
    let less = length-drop most (w ∷ ws) in
    let full : nat_lt (length (w ∷ ws)) most ≡ false = grind (arith, nat_tests, many) in
    λ i. placed_if (full i && list_any (has_room most (length (w ∷ ws))) fs) most (w ∷ ws) fs
    (enough (length ws) (length (drop most (w ∷ ws))) most some fs (drop most (w ∷ ws)) (omega (arith, less, some)) (omega arith) i)

-- and the rest is placed behind it
pub chunked : (most : ℕ) → 1 ≤ most → (fs : List Filling) (whole : Placed) (made : List (List Wanted)) (left : List Wanted) → most ≤ length left → whole ≡ with_made made (place_left (length left) most fs left) → whole ≡ with_made (made ++ take most left ∷ []) (place_left (length (drop most left)) most fs (drop most left))
chunked most some fs whole made left many before =
    let rest = place_left (length (drop most left)) most fs (drop most left) in
    before ∙ ap (with_made made) (one_full most some fs left many)
    ∙ (λ i. record { fillings = rest.fillings; made = sym (append_assoc made (take most left ∷ []) rest.made) i })

-- what fills no new slice
last_by : (most : ℕ) (fs : List Filling) (left : List Wanted) (b : Bool) → 1 ≤ length left → length left < most → list_any (has_room most (length left)) fs ≡ b → place_left (length left) most fs left ≡ placed_if b most left fs (record { fillings = fs; made = [] })
last_by most fs [] b some few room = absurd (omega (arith, some))
last_by most fs (w ∷ ws) b some few room =
    let short : nat_lt (length (w ∷ ws)) most ≡ true = grind (arith, nat_tests, few) in
    let gone : drop most (w ∷ ws) ≡ [] = drop_of_length-le (w ∷ ws) (omega (arith, few)) in
    (λ i. placed_if (short i && room i) most (w ∷ ws) fs (place_left (length ws) most fs (gone i)))
    ∙ ap (placed_if b most (w ∷ ws) fs) (none_left (length ws) most fs)

pub last_in_one : (most : ℕ) (fs : List Filling) (left : List Wanted) → 1 ≤ length left → length left < most → list_any (has_room most (length left)) fs ≡ true → (given : List Filling) → given ≡ fill_fullest most left fs → (made : List (List Wanted)) → with_made made (place_left (length left) most fs left) ≡ record { fillings = given; made = made }
last_in_one most fs left some few room given is made =
    ap (with_made made) (last_by most fs left true some few room) ∙ (λ i. record { fillings = sym is i; made = append-nil made i })

pub last_alone : (most : ℕ) (fs : List Filling) (left : List Wanted) → 1 ≤ length left → length left < most → list_any (has_room most (length left)) fs ≡ false → (made : List (List Wanted)) → with_made made (place_left (length left) most fs left) ≡ record { fillings = fs; made = made ++ left ∷ [] }
last_alone most fs left some few room made =
    ap (with_made made) (last_by most fs left false some few room)
    ∙ (λ i. record { fillings = fs; made = made ++ take_all most left (omega (arith, few)) i ∷ [] })

-- ---- the first slice that passes

past_by : (b : Bool) (k n : ℕ) → nat_lt k n ≡ b → cond b (Some k) None ≡ None → n ≤ k
past_by true k n e h = absurd (cc)
past_by false k n e h = grind (arith, nat_tests)

-- without a place that passes, the first one would be past the end
pub position_past : {X : Type 0} (p : X → Bool) (xs : List X) → position p xs ≡ None → length xs ≤ position_or_len p xs
position_past p xs none = past_by (nat_lt (position_or_len p xs) (length xs)) (position_or_len p xs) (length xs) refl none

module _ {X : Type 0} (view : X → Filling) (test : Filling → Bool) (more : List Wanted) where
  -- the slice at the first place takes the endpoints
  given_at : (xs : List X) (i : ℕ) (y d : X) → i < length xs → test (view (get_or xs i d)) ≡ true → ((k : ℕ) → k < i → test (view (get_or xs k d)) ≡ false) → view y ≡ with_more (view (get_or xs i d)) more → map view (slice_set xs i y) ≡ give_first test more (map view xs)
  given_at [] i y d within fits none is = absurd (omega (arith, within))
  given_at (x ∷ xs) zero y d within fits none is =
      (λ j. is j ∷ map view xs) ∙ sym (ap (λ b. cond b (with_more (view x) more ∷ map view xs) (view x ∷ give_first test more (map view xs))) fits)
  given_at (x ∷ xs) (suc i) y d within fits none is =
      ap (λ l. view x ∷ l) (given_at xs i y d (omega (arith, within)) fits (λ k below. none (suc k) (omega (arith, below))) is)
      ∙ sym (ap (λ b. cond b (with_more (view x) more ∷ map view xs) (view x ∷ give_first test more (map view xs))) (none 0 (omega arith)))

  pub given_first : (xs : List X) (i : ℕ) (y d : X) → position (λ x. test (view x)) xs ≡ Some i → view y ≡ with_more (view (get_or xs i d)) more → map view (slice_set xs i y) ≡ give_first test more (map view xs)
  given_first xs i y d at is =
      let first = position-Some (λ x. test (view x)) xs i d at in given_at xs i y d first.0 first.1 first.2 is

  not_given : (xs : List X) → length xs ≤ position_or_len (λ x. test (view x)) xs → map view xs ≡ give_first test more (map view xs)
  not_given [] past = refl
  not_given (x ∷ xs) past = by (test (view x)) refl (not_given xs)
    where
      by : (b : Bool) → test (view x) ≡ b → (length xs ≤ position_or_len (λ x. test (view x)) xs → map view xs ≡ give_first test more (map view xs)) → map view (x ∷ xs) ≡ cond (test (view x)) (with_more (view x) more ∷ map view xs) (view x ∷ give_first test more (map view xs))
      by true e rest = absurd (let past = subst (λ b. length (x ∷ xs) ≤ cond (not b) (1 + position_or_len (λ x. test (view x)) xs) 0) e past in omega (arith, past))
      by false e rest =
          let past = subst (λ b. length (x ∷ xs) ≤ cond (not b) (1 + position_or_len (λ x. test (view x)) xs) 0) e past in
          ap (λ l. view x ∷ l) (rest (omega (arith, past)))
          ∙ sym (ap (λ b. cond b (with_more (view x) more ∷ map view xs) (view x ∷ give_first test more (map view xs))) e)

  pub given_none : (xs : List X) → position (λ x. test (view x)) xs ≡ None → map view xs ≡ give_first test more (map view xs)
  given_none xs none =
      not_given xs (position_past (λ x. test (view x)) xs none)

-- ---- the fullest slice with room

module _ {X : Type 0} (p : X → Bool) (n : X → ℕ) where
  -- how great n is at most among those that pass, if any does
  abbrev pub greatest : List X → Option ℕ
  greatest xs = cond (list_any p xs) (Some (fold (λ size x. max size (n x)) 0 (filter p xs))) None

  none_pass : (xs : List X) → list_any p xs ≡ false → filter p xs ≡ []
  none_pass [] none = refl
  none_pass (x ∷ xs) none =
      let parts = or_parts (p x) (list_any p xs) none in ap (λ b. cond b (x ∷ filter p xs) (filter p xs)) parts.0 ∙ none_pass xs parts.1

  known : (b : Bool) (xs : List X) → list_any p xs ≡ b → unwrap_or (cond b (Some (fold (λ size x. max size (n x)) 0 (filter p xs))) None) 0 ≡ fold (λ size x. max size (n x)) 0 (filter p xs)
  known true xs e = refl
  known false xs e = sym (ap (fold (λ size x. max size (n x)) 0) (none_pass xs e))

  -- one more element
  pub greatest_more : (xs : List X) (x : X) → greatest (xs ++ x ∷ []) ≡ cond (p x) (Some (max (unwrap_or (greatest xs) 0) (n x))) (greatest xs)
  greatest_more xs x =
      (λ i. cond (list_any-append p xs (x ∷ []) i) (Some (fold (λ size x. max size (n x)) 0 (filter-append p xs (x ∷ []) i))) None)
      ∙ by (p x) refl
    where
      by : (b : Bool) → p x ≡ b → cond (list_any p xs || list_any p (x ∷ [])) (Some (fold (λ size x. max size (n x)) 0 (filter p xs ++ filter p (x ∷ [])))) None ≡ cond b (Some (max (unwrap_or (greatest xs) 0) (n x))) (greatest xs)
      by true e =
          (λ i. cond (list_any p xs || (e i || false)) (Some (fold (λ size x. max size (n x)) 0 (filter p xs ++ cond (e i) (x ∷ []) []))) None)
          ∙ (λ i. cond (or-true (list_any p xs) i) (Some (fold_push (λ size x. max size (n x)) 0 (filter p xs) x i)) None)
          ∙ ap (λ m. Some (max m (n x))) (sym (known (list_any p xs) xs refl))
      by false e =
          (λ i. cond (list_any p xs || (e i || false)) (Some (fold (λ size x. max size (n x)) 0 (filter p xs ++ cond (e i) (x ∷ []) []))) None)
          ∙ (λ i. cond (or-false (list_any p xs) i) (Some (fold (λ size x. max size (n x)) 0 (append-nil (filter p xs) i))) None)

-- what an option that depends on a test tells of the test
pub when_none : {X : Type 0} (b : Bool) (x : X) → cond b (Some x) None ≡ None → b ≡ false
when_none true x h = absurd (cc)
when_none false x h = refl
