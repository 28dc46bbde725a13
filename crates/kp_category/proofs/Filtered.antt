-- Tests of filtered lists, as tests of all elements.
use Rattle.std.proofs.Common.{◌≡◌, ℕ, Bool, true, false, cond, not, ◌&&◌, ◌||◌, List, [], ◌∷◌, Some, refl, ap, ◌∙◌}
use Rattle.std.specs.List.{list_any, list_all, filter}
use Rattle.kp_types.specs.declared.lists.Candidate.{Candidate}
use Rattle.kp_object_defs.specs.Lists.{is_ready, has_hint, hints_zone, hints_apply}

any-filter : {A : Type 0} (p q : A → Bool) (xs : List A) → list_any (λ x. p x && q x) xs ≡ list_any q (filter p xs)
any-filter p q [] = refl
any-filter p q (x ∷ xs) =
    elim (p x) as (λ b. ((b && q x) || list_any (λ y. p y && q y) xs) ≡ list_any q (cond b (x ∷ filter p xs) (filter p xs))) [
      | true ↦ ap (λ rest. q x || rest) (any-filter p q xs)
      | false ↦ any-filter p q xs
    ]

all-filter : {A : Type 0} (p q : A → Bool) (xs : List A) → list_all (λ x. not (p x) || q x) xs ≡ list_all q (filter p xs)
all-filter p q [] = refl
all-filter p q (x ∷ xs) =
    elim (p x) as (λ b. ((not b || q x) && list_all (λ y. not (p y) || q y) xs) ≡ list_all q (cond b (x ∷ filter p xs) (filter p xs))) [
      | true ↦ ap (λ rest. q x && rest) (all-filter p q xs)
      | false ↦ all-filter p q xs
    ]

-- hints apply, by tests of all endpoints
pub hints : (zone : List ℕ) (cs : List Candidate) → (list_all (λ c. not (is_ready c) || has_hint c) cs && list_any (λ c. is_ready c && hints_zone zone c) cs) ≡ hints_apply (Some zone) (filter is_ready cs)
hints zone cs =
    ap (λ b. b && list_any (λ (c : Candidate). is_ready c && hints_zone zone c) cs) (all-filter is_ready has_hint cs)
    ∙ ap (λ b. list_all has_hint (filter is_ready cs) && b) (any-filter is_ready (hints_zone zone) cs)
