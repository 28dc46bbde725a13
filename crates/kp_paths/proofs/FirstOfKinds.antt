-- The first of each kind, element by element.
use Rattle.std.proofs.Common.{◌≡◌, ◌+◌, ◌<◌, ℕ, ◌||◌, Bool, true, false, cond, List, [], ◌∷◌, ◌++◌, drop, get_or, length, reverse, refl, sym, ap, ◌∙◌, append_assoc}
use Rattle.std.specs.List.{list_any}
use Rattle.std.proofs.Math.Bool.{or_comm}
use Rattle.std.proofs.lemmas.List.{drop_more, reverse-append}
use Rattle.std.proofs.lemmas.List.Folds.{list_any-append}
use Rattle.kp_path_defs.specs.Sources.{first_of_kinds}
use Rattle.kp_paths.specs.SourceWords.{with_new}

-- what is behind a place
behind : {X : Type 0} (xs : List X) (i : ℕ) (x : X) → i < length xs → x ≡ get_or xs i x
    → drop i xs ≡ x ∷ drop (i + 1) xs
behind xs i x fits is = drop_more xs i x fits ∙ ap (λ y. y ∷ drop (i + 1) xs) (sym is)

module _ {A : Type 0} where
  -- the last of a list is the first of the reversed one
  reversed : (xs : List A) (x : A) → reverse (xs ++ x ∷ []) ≡ x ∷ reverse xs
  reversed xs x = reverse-append xs (x ∷ [])

  any_reversed : (p : A → Bool) (xs : List A) → list_any p (reverse xs) ≡ list_any p xs
  any_reversed p [] = refl
  any_reversed p (x ∷ xs) =
      ap (list_any p) (reverse-append (x ∷ []) xs)
      ∙ list_any-append p (reverse xs) (x ∷ [])
      ∙ or_comm (list_any p (reverse xs)) (list_any p (x ∷ []))
      ∙ alone (p x) (list_any p (reverse xs))
      ∙ ap (λ b. p x || b) (any_reversed p xs)
    where
      alone : (a b : Bool) → ((a || false) || b) ≡ (a || b)
      alone true b = refl
      alone false b = refl

module _ {A : Type 0} (same : A → A → Bool) where
  -- one more element
  step : (b : Bool) (seen : List A) (x : A) (rest : List A)
      → seen ++ cond b (first_of_kinds same (reverse seen) rest) (x ∷ first_of_kinds same (x ∷ reverse seen) rest)
      ≡ cond b seen (seen ++ x ∷ []) ++ first_of_kinds same (reverse (cond b seen (seen ++ x ∷ []))) rest
  step true seen x rest = refl
  step false seen x rest =
      sym (append_assoc seen (x ∷ []) (first_of_kinds same (x ∷ reverse seen) rest))
      ∙ ap (λ l. (seen ++ x ∷ []) ++ first_of_kinds same l rest) (sym (reversed seen x))

  pub one_seen : (seen more all : List A) (i : ℕ) (x : A) → i < length all
      → x ≡ get_or all i x
      → more ≡ with_new same x seen
      → first_of_kinds same [] all ≡ seen ++ first_of_kinds same (reverse seen) (drop i all)
      → first_of_kinds same [] all ≡ more ++ first_of_kinds same (reverse more) (drop (i + 1) all)
  one_seen seen more all i x fits is adds so_far =
      so_far
      ∙ ap (λ l. seen ++ first_of_kinds same (reverse seen) l) (behind all i x fits is)
      ∙ ap (λ b. seen ++ cond b (first_of_kinds same (reverse seen) (drop (i + 1) all)) (x ∷ first_of_kinds same (x ∷ reverse seen) (drop (i + 1) all))) (any_reversed (same x) seen)
      ∙ step (list_any (same x) seen) seen x (drop (i + 1) all)
      ∙ ap (λ l. l ++ first_of_kinds same (reverse l) (drop (i + 1) all)) (sym adds)
