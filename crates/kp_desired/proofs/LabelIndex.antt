-- The index of an element, which is looked for from a place on and then before it.
use Rattle.std.proofs.Common.{◌≡◌, ℕ, ◌+◌, Bool, true, false, cond, not, nat_lt, ◌||◌, List, [], ◌∷◌, take, drop, length, is_some, Some, None, refl, sym, ap, ◌∙◌, arith, suc}
use Rattle.std.specs.List.{list_any, position, position_or_len}
use Rattle.std.proofs.Math.Bool.{or-false, or-true}
use Rattle.std.proofs.lemmas.Bool.Decides.{nat_tests}
use Rattle.std.proofs.lemmas.List.{take-append-drop}
use Rattle.std.proofs.lemmas.List.Folds.{list_any-append}

is_some-cond : (b : Bool) (n : ℕ) → is_some (cond b (Some n) None) ≡ b
is_some-cond true n = refl
is_some-cond false n = refl

-- one more on both sides
next_lt : (m n : ℕ) → nat_lt (1 + m) (suc n) ≡ nat_lt m n
next_lt m n = grind (arith, nat_tests)

module _ {X : Type 0} (p : X → Bool) where
  is_inside : (xs : List X) → nat_lt (position_or_len p xs) (length xs) ≡ list_any p xs
  is_inside [] = refl
  is_inside (x ∷ xs) =
      elim (p x) as (λ b. nat_lt (cond (not b) (1 + position_or_len p xs) 0) (length (x ∷ xs)) ≡ (b || list_any p xs)) [
        | true ↦ grind (arith, nat_tests)
        | false ↦ next_lt (position_or_len p xs) (length xs) ∙ is_inside xs
      ]

  -- there is an index where an element passes
  is_some-position : (xs : List X) → is_some (position p xs) ≡ list_any p xs
  is_some-position xs =
      is_some-cond (nat_lt (position_or_len p xs) (length xs)) (position_or_len p xs) ∙ is_inside xs

  -- an element passes where one passes from a place on or before it
  in_parts : (s : ℕ) (xs : List X) → (list_any p (take s xs) || list_any p (drop s xs)) ≡ list_any p xs
  in_parts s xs = sym (list_any-append p (take s xs) (drop s xs)) ∙ ap (list_any p) (take-append-drop s xs)

  -- it is found from the place on
  pub found-after : (s : ℕ) (xs after : List X) → after ≡ drop s xs → is_some (position p after) ≡ true → true ≡ list_any p xs
  found-after s xs after same is =
      sym (or-true (list_any p (take s xs)))
      ∙ ap (λ b. list_any p (take s xs) || b) (sym is ∙ is_some-position after ∙ ap (list_any p) same)
      ∙ in_parts s xs

  -- it isn't found there, and is looked for before the place
  pub found-before : (s : ℕ) (xs before after : List X) → before ≡ take s xs → after ≡ drop s xs → is_some (position p after) ≡ false → is_some (position p before) ≡ list_any p xs
  found-before s xs before after same_before same_after is =
      is_some-position before ∙ ap (list_any p) same_before
      ∙ sym (or-false (list_any p (take s xs)))
      ∙ ap (λ b. list_any p (take s xs) || b) (sym is ∙ is_some-position after ∙ ap (list_any p) same_after)
      ∙ in_parts s xs
