-- One reader more.
use Rattle.std.proofs.Common.{◌≡◌, ℕ, ◌+◌, zero, suc, [], ◌∷◌, ◌++◌, refl, ap, ◌∙◌, replicate, arith}

pub replicate_snoc : {A : Type 0} (n : ℕ) (x : A) → replicate n x ++ x ∷ [] ≡ replicate (n + 1) x
replicate_snoc zero x = refl
replicate_snoc (suc n) x =
    let more : suc (n + 1) ≡ suc n + 1 = omega arith in
    ap (λ xs. x ∷ xs) (replicate_snoc n x) ∙ ap (λ k. replicate k x) more
