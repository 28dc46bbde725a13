-- Lists of elements that stand once, when one more element comes.
use Rattle.std.proofs.Common.{◌≡◌, Bool, true, false, cond, not, ◌||◌, List, [], ◌∷◌, ◌++◌, filter, refl, sym, ap, ◌∙◌}
use Rattle.std.specs.List.{list_any}
use Rattle.std.specs.Cmp.{IsEquivalence}
use Rattle.std.proofs.lemmas.List.{append-nil}
use Rattle.std.proofs.lemmas.List.Elements.{filter-append}
use Rattle.std.proofs.lemmas.Map.Views.{any-filter_same}
use Rattle.kp_lemmas.specs.Lists.{first_places}

module _ {A : Type 0} (same : A → A → Bool) where
  -- an element that is as x is not as y, where x isn't
  other_than : IsEquivalence same → (y x : A) → same y x ≡ false → (k : A) → same x k ≡ true → not (same y k) ≡ true
  other_than laws y x apart k here = ap not (laws.symm y k ∙ sym (laws.congr x k y here) ∙ laws.symm x y ∙ apart)

  -- by whether x stands behind y, and whether it is as y
  push_by : IsEquivalence same → (y x : A) (fs : List A) (there here : Bool) → list_any (same x) fs ≡ there → same y x ≡ here
      → y ∷ filter (λ z. not (same y z)) (cond (list_any (same x) fs) fs (fs ++ x ∷ []))
      ≡ cond (same x y || list_any (same x) (filter (λ z. not (same y z)) fs)) (y ∷ filter (λ z. not (same y z)) fs) (y ∷ filter (λ z. not (same y z)) fs ++ x ∷ [])
  push_by laws y x fs true true there here =
      ap (λ b. y ∷ filter (λ z. not (same y z)) (cond b fs (fs ++ x ∷ []))) there
      ∙ sym (ap (λ b. cond (b || list_any (same x) (filter (λ z. not (same y z)) fs)) (y ∷ filter (λ z. not (same y z)) fs) (y ∷ filter (λ z. not (same y z)) fs ++ x ∷ [])) (laws.symm x y ∙ here))
  push_by laws y x fs false true there here =
      ap (λ b. y ∷ filter (λ z. not (same y z)) (cond b fs (fs ++ x ∷ []))) there
      ∙ ap (λ l. y ∷ l) (filter-append (λ z. not (same y z)) fs (x ∷ []))
      ∙ ap (λ b. y ∷ filter (λ z. not (same y z)) fs ++ cond (not b) (x ∷ []) []) here
      ∙ ap (λ l. y ∷ l) (append-nil (filter (λ z. not (same y z)) fs))
      ∙ sym (ap (λ b. cond (b || list_any (same x) (filter (λ z. not (same y z)) fs)) (y ∷ filter (λ z. not (same y z)) fs) (y ∷ filter (λ z. not (same y z)) fs ++ x ∷ [])) (laws.symm x y ∙ here))
  push_by laws y x fs true false there here =
      let kept = any-filter_same (same x) (λ z. not (same y z)) true (other_than laws y x here) fs ∙ there in
      ap (λ b. y ∷ filter (λ z. not (same y z)) (cond b fs (fs ++ x ∷ []))) there
      ∙ sym (λ i. cond ((laws.symm x y ∙ here) i || kept i) (y ∷ filter (λ z. not (same y z)) fs) (y ∷ filter (λ z. not (same y z)) fs ++ x ∷ []))
  push_by laws y x fs false false there here =
      let kept = any-filter_same (same x) (λ z. not (same y z)) true (other_than laws y x here) fs ∙ there in
      ap (λ b. y ∷ filter (λ z. not (same y z)) (cond b fs (fs ++ x ∷ []))) there
      ∙ ap (λ l. y ∷ l) (filter-append (λ z. not (same y z)) fs (x ∷ []))
      ∙ ap (λ b. y ∷ filter (λ z. not (same y z)) fs ++ cond (not b) (x ∷ []) []) here
      ∙ sym (λ i. cond ((laws.symm x y ∙ here) i || kept i) (y ∷ filter (λ z. not (same y z)) fs) (y ∷ filter (λ z. not (same y z)) fs ++ x ∷ []))

  -- one more element goes behind, unless it is there
  pub first_places-push : IsEquivalence same → (xs : List A) (x : A) → first_places same (xs ++ x ∷ []) ≡ cond (list_any (same x) (first_places same xs)) (first_places same xs) (first_places same xs ++ x ∷ [])
  first_places-push laws [] x = refl
  first_places-push laws (y ∷ xs) x =
      ap (λ l. y ∷ filter (λ z. not (same y z)) l) (first_places-push laws xs x)
      ∙ push_by laws y x (first_places same xs) (list_any (same x) (first_places same xs)) (same y x) refl refl
