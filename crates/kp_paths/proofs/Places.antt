-- The lines of places, one after the other.
use Rattle.std.proofs.Common.{◌≡◌, ℕ, suc, ◌+◌, ◌-◌, ◌<◌, List, ◌∷◌, ◌++◌, length, get_or, drop, sym, ap, ◌∙◌, arith, append_assoc, length-drop}
use Rattle.std.proofs.Math.Seq.{drop-cons}
use Rattle.kp_base.specs.declared.key.Endpoint.{Endpoint}
use Rattle.kp_paths.specs.Places.{chance_at, places_from}

module _ (line : ℕ → ℕ → Endpoint → List ℕ) (all : List Endpoint) where
  -- what stands here, and then the others
  cut : (place : ℕ) (e : Endpoint) → place < length all → e ≡ get_or all place e
      → drop place all ≡ e ∷ drop (suc place) all
  cut place e inside is =
      drop-cons all place e inside ∙ (λ k. sym is k ∷ drop (suc place) all)

  -- a place more
  pub one_place : (old new total : List ℕ) (left chance next place : ℕ) (e : Endpoint)
      → place < length all → e ≡ get_or all place e
      → chance ≡ chance_at left (length all - place) → next ≡ left - chance
      → new ≡ old ++ line chance place e
      → old ++ places_from line left place (drop place all) ≡ total
      → new ++ places_from line next (place + 1) (drop (place + 1) all) ≡ total
  one_place old new total left chance next place e inside is has after added so_far =
      let one : place + 1 ≡ suc place = omega arith in
      let others : List Endpoint = drop (suc place) all in
      let many : length all - place ≡ suc (length others) =
      omega (arith, length-drop (suc place) all, inside) in
      let chosen : chance ≡ chance_at left (suc (length others)) =
      has ∙ ap (chance_at left) many in
      ap (λ p. new ++ places_from line next p (drop p all)) one
      ∙ ap (λ l. l ++ places_from line next (suc place) others) added
      ∙ append_assoc old (line chance place e) (places_from line next (suc place) others)
      ∙ ap (λ left. old ++ (line chance place e ++ places_from line left (suc place) others)) after
      ∙ ap (λ chance. old ++ (line chance place e
      ++ places_from line (left - chance) (suc place) others)) chosen
      ∙ ap (λ l. old ++ places_from line left place l) (sym (cut place e inside is))
      ∙ so_far
