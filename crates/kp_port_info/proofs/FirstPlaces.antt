-- Elements that stand once, one more at a time.
use Rattle.std.proofs.Common.{◌≡◌, ℕ, ◌+◌, ◌<◌, take, length, get_or, Bool, true, false, cond, not, ◌||◌, List, [], ◌∷◌, ◌++◌, refl, sym, ap, ◌∙◌}
use Rattle.std.specs.Cmp.{IsEquivalence}
use Rattle.std.specs.List.{filter, list_any}
use Rattle.std.proofs.lemmas.List.{append-nil, take_more}
use Rattle.std.proofs.lemmas.List.Elements.{filter-append}
use Rattle.std.proofs.lemmas.List.Folds.{list_any-append}
use Rattle.std.proofs.Math.Bool.{or-false}
use Rattle.kp_object_defs.specs.Order.{first_places}

module _ {A : Type 0} {same : A → A → Bool} (equal : IsEquivalence same) where
  -- an element that is the same as y is missing among those that aren't
  any_other : (x y : A) → same y x ≡ false → (xs : List A) → list_any (λ z. same z x) (filter (λ z. not (same y z)) xs) ≡ list_any (λ z. same z x) xs
  any_other x y apart [] = refl
  any_other x y apart (z ∷ xs) =
      elim (same y z) as (λ b. same y z ≡ b → list_any (λ w. same w x) (cond (not b) (z ∷ filter (λ w. not (same y w)) xs) (filter (λ w. not (same y w)) xs)) ≡ (same z x || list_any (λ w. same w x) xs)) [
        | true ↦ λ tied. any_other x y apart xs ∙ ap (λ b. b || list_any (λ w. same w x) xs) (sym (sym (equal.congr y z x tied) ∙ apart))
        | false ↦ λ _. ap (λ rest. same z x || rest) (any_other x y apart xs)
      ] refl

  -- an element that stands nowhere yet is added
  abbrev pub with_new : List A → A → List A
  with_new seen x = cond (list_any (λ z. same z x) seen) seen (seen ++ x ∷ [])

  filtered_new : (y x : A) (seen : List A) (s : Bool) → same y x ≡ s → filter (λ z. not (same y z)) (seen ++ x ∷ []) ≡ filter (λ z. not (same y z)) seen ++ cond (not s) (x ∷ []) []
  filtered_new y x seen s is =
      filter-append (λ z. not (same y z)) seen (x ∷ [])
      ∙ ap (λ b. filter (λ z. not (same y z)) seen ++ cond (not b) (x ∷ []) []) is

  pushed : (y x : A) (seen : List A) (s a : Bool) → same y x ≡ s → list_any (λ z. same z x) seen ≡ a →
      y ∷ filter (λ z. not (same y z)) (cond a seen (seen ++ x ∷ []))
      ≡ cond (s || list_any (λ z. same z x) (filter (λ z. not (same y z)) seen)) (y ∷ filter (λ z. not (same y z)) seen) (y ∷ (filter (λ z. not (same y z)) seen ++ x ∷ []))
  pushed y x seen true true is any = refl
  pushed y x seen true false is any =
      ap (λ rest. y ∷ rest) (filtered_new y x seen true is ∙ append-nil (filter (λ z. not (same y z)) seen))
  pushed y x seen false true is any =
      sym (ap (λ b. cond b (y ∷ filter (λ z. not (same y z)) seen) (y ∷ (filter (λ z. not (same y z)) seen ++ x ∷ []))) (any_other x y is seen ∙ any))
  pushed y x seen false false is any =
      ap (λ rest. y ∷ rest) (filtered_new y x seen false is)
      ∙ sym (ap (λ b. cond b (y ∷ filter (λ z. not (same y z)) seen) (y ∷ (filter (λ z. not (same y z)) seen ++ x ∷ []))) (any_other x y is seen ∙ any))

  pub first_places-push : (xs : List A) (x : A) → first_places same (xs ++ x ∷ []) ≡ with_new (first_places same xs) x
  first_places-push [] x = refl
  first_places-push (y ∷ xs) x =
      ap (λ seen. y ∷ filter (λ z. not (same y z)) seen) (first_places-push xs x)
      ∙ pushed y x (first_places same xs) (same y x) (list_any (λ z. same z x) (first_places same xs)) refl refl

  -- one more element was found, unless it was among those before
  pub next_found : (items : List A) (i : ℕ) (x : A) (found new : List A) (b : Bool)
      → b ≡ list_any (λ z. same z x) found → new ≡ cond b found (found ++ x ∷ [])
      → found ≡ first_places same (take i items) → i < length items → x ≡ get_or items i x
      → new ≡ first_places same (take (i + 1) items)
  next_found items i x found new b known added so_far lt at =
      added
      ∙ ap (λ c. cond c found (found ++ x ∷ [])) known
      ∙ ap (λ fs. with_new fs x) so_far
      ∙ sym (first_places-push (take i items) x)
      ∙ ap (first_places same) (sym (take_more items i x lt ∙ ap (λ y. take i items ++ y ∷ []) (sym at)))

  any_same : (x y : A) → same x y ≡ true → (found : List A) → list_any (λ z. same z x) found ≡ list_any (λ z. same z y) found
  any_same x y tied [] = refl
  any_same x y tied (z ∷ found) =
      (λ k. (equal.symm z x ∙ equal.congr x y z tied ∙ equal.symm y z) k || any_same x y tied found k)

  seen_by : (x item : A) (found : List A) (b t : Bool) → list_any (λ z. same z item) found ≡ b → same item x ≡ t
      → cond t true (list_any (λ z. same z x) found) ≡ list_any (λ z. same z x) (cond b found (found ++ item ∷ []))
  seen_by x item found true true known tied = sym (sym (any_same item x tied found) ∙ known)
  seen_by x item found true false known tied = refl
  seen_by x item found false t known tied =
      either t (list_any (λ z. same z x) found)
      ∙ ap (λ c. list_any (λ z. same z x) found || c) (sym tied ∙ sym (or-false (same item x)))
      ∙ sym (list_any-append (λ z. same z x) found (item ∷ []))
    where
      either : (t c : Bool) → cond t true c ≡ (c || t)
      either true true = refl
      either true false = refl
      either false true = refl
      either false false = refl

  -- the set has what was found
  pub next_seen : (x item : A) (found new : List A) (b c d : Bool)
      → b ≡ list_any (λ z. same z item) found → new ≡ cond b found (found ++ item ∷ [])
      → c ≡ list_any (λ z. same z x) found → d ≡ cond (same item x) true c
      → d ≡ list_any (λ z. same z x) new
  next_seen x item found new b c d known added had has =
      has
      ∙ ap (λ s. cond (same item x) true s) had
      ∙ seen_by x item found b (same item x) (sym known) refl
      ∙ ap (list_any (λ z. same z x)) (sym added)
