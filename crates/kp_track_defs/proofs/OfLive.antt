-- The entries of those elements that pass a test, and what is found and changed among them.
use Rattle.std.proofs.Common.{◌≡◌, Bool, true, false, ◌&&◌, ◌||◌, List, [], ◌∷◌, map, filter, cond, Option, Some, option_map, not, refl, sym, ap, ◌∙◌}
use Rattle.std.specs.List.{find, list_any}
use Rattle.kp_track_defs.specs.Entries.{change_first}

module _ {A B : Type 0} (e : A → B) where
  -- of those that passed, the ones within are those that pass still
  one_within : (w : B → Bool) (a b : Bool) (x : A) (bs ls : List A) → (b ≡ false → a ≡ false)
      → (b ≡ true → w (e x) ≡ a) → filter w (map e bs) ≡ map e ls
      → filter w (map e (cond b (x ∷ bs) bs)) ≡ map e (cond a (x ∷ ls) ls)
  one_within w true true x bs ls dead live more =
      λ i. cond (live refl i) (e x ∷ more i) (more i)
  one_within w false true x bs ls dead live more =
      λ i. cond (live refl i) (e x ∷ more i) (more i)
  one_within w true false x bs ls dead live more = cc (dead refl)
  one_within w false false x bs ls dead live more = more

  pub within_passed : (w : B → Bool) (before after : A → Bool)
      → ((x : A) → before x ≡ false → after x ≡ false)
      → ((x : A) → before x ≡ true → w (e x) ≡ after x) → (xs : List A)
      → filter w (map e (filter before xs)) ≡ map e (filter after xs)
  within_passed w before after dead live [] = refl
  within_passed w before after dead live (x ∷ xs) =
      one_within w (after x) (before x) x _ _ (dead x) (live x)
      (within_passed w before after dead live xs)

  module _ (p : A → Bool) (q : B → Bool) where
    some_found : (b : Bool) (x : A) (f : Option A) (g : Option B) → option_map e f ≡ g
        → option_map e (cond b (Some x) f) ≡ cond b (Some (e x)) g
    some_found true x f g more = refl
    some_found false x f g more = more

    one_found : (a : Bool) (x : A) (f : Option A) (ps : List A)
        → option_map e f ≡ find q (map e ps)
        → option_map e (cond (a && q (e x)) (Some x) f) ≡ find q (map e (cond a (x ∷ ps) ps))
    one_found true x f ps more = some_found (q (e x)) x f _ more
    one_found false x f ps more = more

    -- what is found among them
    pub found_passed : (xs : List A)
        → option_map e (find (λ x. p x && q (e x)) xs) ≡ find q (map e (filter p xs))
    found_passed [] = refl
    found_passed (x ∷ xs) = one_found (p x) x _ _ (found_passed xs)

    one_any : (a : Bool) (x : A) (r : Bool) (ps : List A) → r ≡ list_any q (map e ps)
        → ((a && q (e x)) || r) ≡ list_any q (map e (cond a (x ∷ ps) ps))
    one_any true x r ps more = ap (λ s. q (e x) || s) more
    one_any false x r ps more = more

    -- whether any passes
    pub any_passed : (xs : List A)
        → list_any (λ x. p x && q (e x)) xs ≡ list_any q (map e (filter p xs))
    any_passed [] = refl
    any_passed (x ∷ xs) = one_any (p x) x _ _ (any_passed xs)

    module _ (f : A → A) (g : B → B) (keeps : (x : A) → p x ≡ true → p (f x) ≡ true) (same : (x : A) → e (f x) ≡ g (e x)) where
      one_changed : (x : A) (xs cs : List A) (a b : Bool) → p x ≡ a → q (e x) ≡ b
          → map e (filter p cs) ≡ change_first q g (map e (filter p xs))
          → map e (filter p (cond (a && b) (f x ∷ xs) (x ∷ cs)))
          ≡ change_first q g (map e (cond a (x ∷ filter p xs) (filter p xs)))
      one_changed x xs cs true true at found more =
          (λ i. map e (cond (keeps x at i) (f x ∷ filter p xs) (filter p xs)))
          ∙ (λ i. same x i ∷ map e (filter p xs))
          ∙ sym (λ i. cond (found i) (g (e x) ∷ map e (filter p xs)) (e x ∷ change_first q g (map e (filter p xs))))
      one_changed x xs cs true false at found more =
          (λ i. map e (cond (at i) (x ∷ filter p cs) (filter p cs)))
          ∙ (λ i. e x ∷ more i)
          ∙ sym (λ i. cond (found i) (g (e x) ∷ map e (filter p xs)) (e x ∷ change_first q g (map e (filter p xs))))
      one_changed x xs cs false b at found more =
          (λ i. map e (cond (at i) (x ∷ filter p cs) (filter p cs))) ∙ more

      -- what is changed among them
      pub changed_passed : (xs : List A)
          → map e (filter p (change_first (λ x. p x && q (e x)) f xs))
          ≡ change_first q g (map e (filter p xs))
      changed_passed [] = refl
      changed_passed (x ∷ xs) =
          one_changed x xs _ (p x) (q (e x)) refl refl (changed_passed xs)

  -- those that lose pass no more
  one_left : (l : B → Bool) (p : A → Bool) (c : A → A) (x : A) (a : Bool) (ys xs : List A)
      → p x ≡ a → p (c x) ≡ (a && not (l (e x))) → e (c x) ≡ e x
      → map e (filter p ys) ≡ filter (λ y. not (l y)) (map e xs)
      → map e (cond (p (c x)) (c x ∷ filter p ys) (filter p ys))
      ≡ filter (λ y. not (l y)) (map e (cond a (x ∷ xs) xs))
  one_left l p c x true ys xs at then_at same more =
      (λ i. map e (cond (then_at i) (c x ∷ filter p ys) (filter p ys)))
      ∙ by_test (not (l (e x)))
    where
      by_test : (b : Bool) → map e (cond b (c x ∷ filter p ys) (filter p ys)) ≡ cond b (e x ∷ filter (λ y. not (l y)) (map e xs)) (filter (λ y. not (l y)) (map e xs))
      by_test true = λ i. same i ∷ more i
      by_test false = more
  one_left l p c x false ys xs at then_at same more =
      (λ i. map e (cond (then_at i) (c x ∷ filter p ys) (filter p ys))) ∙ more

  pub left_passed : (l : B → Bool) (p : A → Bool) (c : A → A)
      → ((x : A) → p (c x) ≡ (p x && not (l (e x)))) → ((x : A) → e (c x) ≡ e x) → (xs : List A)
      → map e (filter p (map c xs)) ≡ filter (λ y. not (l y)) (map e (filter p xs))
  left_passed l p c then_at same [] = refl
  left_passed l p c then_at same (x ∷ xs) =
      one_left l p c x (p x) _ _ refl (then_at x) (same x) (left_passed l p c then_at same xs)
