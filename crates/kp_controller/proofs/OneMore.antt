-- A fold over the elements so far that pass, and one more.
use Rattle.std.proofs.Common.{◌≡◌, ◌<◌, ◌+◌, ℕ, Bool, true, false, cond, List, [], ◌∷◌, ◌++◌, map, take, filter, length, get_or, refl, sym, ap, ◌∙◌}
use Rattle.std.specs.List.{fold}
use Rattle.std.proofs.lemmas.List.{take_more, map-append}
use Rattle.std.proofs.lemmas.List.Elements.{filter-append}
use Rattle.std.proofs.lemmas.List.Sums.{fold-append}

module _ {R A : Type 0} (shown : R → A) (xs : List R) (i : ℕ) (r : R) (within : i < length xs) (is : r ≡ get_or xs i r) where
  pub one_more : {B : Type 0} (f : B → A → B) (p : A → Bool) (start before after : B)
      → before ≡ fold f start (filter p (map shown (take i xs)))
      → after ≡ cond (p (shown r)) (f before (shown r)) before
      → after ≡ fold f start (filter p (map shown (take (i + 1) xs)))
  one_more f p start before after so_far step =
      let x = shown r in
      let ys = map shown (take i xs) in
      step ∙ by (p x) refl
      ∙ ap (λ b. fold f b (filter p (x ∷ []))) so_far
      ∙ sym (fold-append f start (filter p ys) (filter p (x ∷ [])))
      ∙ ap (fold f start) (sym (filter-append p ys (x ∷ [])))
      ∙ ap (λ zs. fold f start (filter p zs)) (sym (map-append shown (take i xs) (r ∷ [])))
      ∙ ap (λ q. fold f start (filter p (map shown (take i xs ++ q ∷ [])))) is
      ∙ ap (λ zs. fold f start (filter p (map shown zs))) (sym (take_more xs i r within))
    where
      by : (b : Bool) → p (shown r) ≡ b → cond (p (shown r)) (f before (shown r)) before ≡ fold f before (filter p (shown r ∷ []))
      by true e = ap (λ t. cond t (f before (shown r)) before) e ∙ ap (λ t. fold f before (cond t (shown r ∷ []) [])) (sym e)
      by false e = ap (λ t. cond t (f before (shown r)) before) e ∙ ap (λ t. fold f before (cond t (shown r ∷ []) [])) (sym e)
