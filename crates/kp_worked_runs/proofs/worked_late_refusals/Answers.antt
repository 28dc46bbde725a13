use Rattle.std.proofs.Common.{◌≡◌, ◌≤◌, ℕ, zero, suc, take, Some, None, refl, sym, subst, lit≤, arith, ◌∙◌}
use Rattle.kp_table_defs.specs.Rebuild.{clash_of}
use Rattle.kp_object_defs.specs.Objects.{objects_after}
use Rattle.kp_run_defs.specs.LegalRuns.{HasTable, IsClashBehind, Shows, events_in, nothing_seen, settings_in}
use Rattle.kp_run_defs.proofs.Apart.{apart_by}
use Rattle.kp_worked_runs.specs.Clashes.{clash, refused_behind}
use Rattle.kp_worked_runs.proofs.ByLists.{clash_after, clash_is, final_is}
use Rattle.kp_worked_runs.proofs.worked_late_refusals.Goals as goal

-- its records have tables
tables : (n : ℕ) → n ≤ 2 → HasTable (refused_behind (Shows 0)) n
tables zero h = clash_is (refused_behind (Shows 0)) 0
tables (suc zero) h = clash_is (refused_behind (Shows 0)) 1
tables (suc (suc zero)) h = clash_is (refused_behind (Shows 0)) 2
tables (suc (suc (suc n))) h = absurd (omega (arith, h))

pub returns-clause-first : goal.returns-clause-first
returns-clause-first c =
    let run = refused_behind (Shows 0) in
    let behind : IsClashBehind run 1 nothing_seen clash = record {
      events = 2;
      within = lit≤ tt;
      is_clash = clash_after run 2;
      newest = lit≤ tt;
      stops = refl;
    } in
    record {
      journal = record { owned = refl; each = (refl, (refl, tt)) };
      tables = tables;
      covered = record { within = lit≤ tt; all = λ h. refl };
      seen = refl;
      refusals = ((λ h. tt, (λ h. tt, (λ h. tt, tt))), ((λ h. tt, (λ h. behind, tt)), tt));
      apart = apart_by run None (final_is run) (lit≤ tt) refl;
    }

pub returns-clause-fewer : goal.returns-clause-fewer
returns-clause-fewer c legal =
    let run = refused_behind (Shows 1) in
    let named = legal.refusals.1.0.1.0 refl in
    let events : named.events ≡ 3 = omega (arith, named.newest, named.within) in
    let is_clash : clash_of (settings_in run) (objects_after (take 3 (events_in run))) ≡ Some clash =
    subst (λ n. clash_of (settings_in run) (objects_after (take n (events_in run))) ≡ Some clash)
    events named.is_clash in
    let none : None ≡ Some clash = sym (clash_after run 3) ∙ is_clash in cc
