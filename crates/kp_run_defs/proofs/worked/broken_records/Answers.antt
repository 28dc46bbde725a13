use Rattle.std.proofs.Common.{◌≡◌, ◌==◌, ◌≤◌, ℕ, true, false, [], ◌∷◌, codes, is_some, ap, subst, arith}
use Rattle.kp_object_defs.specs.PackingLaws.{are_distinct}
use Rattle.kp_run_defs.specs.LiveLines.{settings_read, reading_of_said}
use Rattle.kp_run_defs.specs.LegalRuns.{last_shown}
use Rattle.kp_run_defs.specs.WorkedLive.{two_streams}
use Rattle.kp_run_defs.proofs.PodRuns.{no_clash_at_end}
use Rattle.kp_run_defs.proofs.worked.broken_records.Goals as goal

pub returns-clause-too_much : goal.returns-clause-too_much
returns-clause-too_much c legal = let h : 4 ≤ 3 = legal.covered.within in omega (arith, h)

pub returns-clause-too_little : goal.returns-clause-too_little
returns-clause-too_little c legal =
    let none = no_clash_at_end (settings_read (reading_of_said two_streams))
    (codes "x" ∷ codes "z" ∷ codes "y" ∷ []) in
    let h : ◌≡◌ {A = ℕ} 2 3 = legal.covered.all (ap is_some none) in omega (arith, h)

pub returns-clause-no_last : goal.returns-clause-no_last
returns-clause-no_last c legal =
    let none = no_clash_at_end (settings_read (reading_of_said two_streams))
    (codes "x" ∷ codes "z" ∷ codes "y" ∷ []) in
    let h : false ≡ true =
    subst (λ clash. are_distinct (λ n m. n == m) (1 ∷ 2 ∷ last_shown 2 clash) ≡ true) none
    legal.apart.numbers in cc

pub returns-clause-one_for_two : goal.returns-clause-one_for_two
returns-clause-one_for_two c legal =
    let none = no_clash_at_end (settings_read (reading_of_said [])) [] in
    let h : false ≡ true =
    subst (λ clash. are_distinct (λ n m. n == m) (1 ∷ 1 ∷ last_shown 1 clash) ≡ true) none
    legal.apart.numbers in cc
