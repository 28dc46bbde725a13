-- The trail of an answer, as its line is printed.
use Rattle.std.proofs.Common.{◌≡◌, ℕ, List, [], ◌∷◌, ◌++◌, ap, refl, ◌∙◌}
use Rattle.std.specs.Prelude.{map, codes, decimal}
use Rattle.std.specs.List.{flat_map}
use Rattle.kp_types.specs.declared.verdict.Pass.{Pass}
use Rattle.kp_types.specs.declared.verdict.Trail.{Trail}
use Rattle.kp_text_defs.specs.Answers.{passes_text, pass_text, next_pass_text, trail_text}
use Rattle.kp_run_defs.specs.AnswerText.{next_way_text, ways_text}

-- the names on a way
abbrev way_of : Pass → List (List ℕ)
way_of pass = pass.chains.items

more_ways : (passes : List Pass)
    → flat_map next_pass_text passes ≡ flat_map next_way_text (map way_of passes)
more_ways [] = refl
more_ways (pass ∷ passes) = ap (λ x. next_pass_text pass ++ x) (more_ways passes)

-- the ways of passes
pub same_ways : (passes : List Pass) → passes_text passes ≡ ways_text (map way_of passes)
same_ways [] = refl
same_ways (pass ∷ passes) = ap (λ x. pass_text pass ++ x) (more_ways passes)

-- the trail of ways
pub same_trail : (number : ℕ) (trail : Trail) (ways : List (List (List ℕ)))
    → map way_of trail.passes.items ≡ ways
    → trail_text number trail
    ≡ codes "trail " ++ decimal number ++ codes ": " ++ ways_text ways ++ codes "\n"
same_trail number trail ways h =
    ap (λ t. codes "trail " ++ decimal number ++ codes ": " ++ t ++ codes "\n")
    (same_ways trail.passes.items ∙ ap ways_text h)
