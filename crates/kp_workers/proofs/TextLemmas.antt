-- Texts in a row.
use Rattle.std.proofs.Common.{◌≡◌, ◌-◌, ℕ, List, [], ◌∷◌, ◌++◌, map, length, ap, sym, ◌∙◌, arith, append-nil}
use Rattle.std.specs.List.{concat}
use Rattle.std.proofs.lemmas.List.{length-append, map-append}
use Rattle.std.proofs.lemmas.List.Folds.{concat-append}
use Rattle.kp_workers.specs.Texts.{Keeps, Kept}

-- one more
pub keeps_more : (kept on : Kept) (said : List ℕ) (told : List (List ℕ)) (n : ℕ)
    → on.0 ≡ kept.0 ++ said → on.1 ≡ kept.1 ++ n ∷ [] → n ≡ length on.0 - length kept.0
    → Keeps kept told → Keeps on (told ++ said ∷ [])
keeps_more kept on said told n grown more long keeps =
    let sum = ap length grown ∙ length-append kept.0 said in
    let size : n ≡ length said = omega (arith, long, sum) in
    record {
      text_is =
          grown ∙ ap (λ t. t ++ said) keeps.text_is
          ∙ ap (λ s. concat told ++ s) (sym (append-nil said))
          ∙ sym (concat-append told (said ∷ []));
      lengths_are =
          more ∙ ap (λ l. l ++ n ∷ []) keeps.lengths_are
          ∙ ap (λ k. map length told ++ k ∷ []) size ∙ sym (map-append length told (said ∷ []));
    }
