use Rattle.std.proofs.Common.{◌≡◌, ◌≤◌, ℕ, zero, suc, true, false, [], ◌∷◌, ◌++◌, codes, is_some, refl, ap, sym, lit≤, arith, ◌∙◌, None, Some}
use Rattle.std.specs.Fmt.{digits}
use Rattle.kp_run_defs.specs.LegalRuns.{HasTable, IsClashBehind, Refuses, nothing_seen}
use Rattle.kp_run_defs.specs.WorkedLive.{run_of}
use Rattle.kp_worked.specs.Setting.{first}
use Rattle.kp_worked_runs.specs.Clashes.{clash, passing, refused_before, sync_shows}
use Rattle.kp_worked_runs.specs.Printed.{nat_of_one, filter_with}
use Rattle.kp_worked_runs.specs.Runs.{apply_slice, clashing, feeds}
use Rattle.kp_run_defs.proofs.Apart.{apart_by}
use Rattle.kp_worked_runs.proofs.ByLists.{clash_after, clash_is, final_is, prints}
use Rattle.kp_worked_runs.proofs.ClashAfter.{never_turned}
use Rattle.kp_worked_runs.proofs.worked_refused_syncs.Goals as goal

-- ---- At the end

-- the table of no objects is one
tables : (n : ℕ) → n ≤ 0 → HasTable (sync_shows (Refuses clash)) n
tables zero h = clash_is (sync_shows (Refuses clash)) 0
tables (suc n) h = absurd (omega (arith, h))

pub returns-clause-at_end : goal.returns-clause-at_end
returns-clause-at_end c =
    let run = sync_shows (Refuses clash) in
    let behind : IsClashBehind run 0 (record nothing_seen { fed = 2 }) clash = record {
      events = 2;
      within = lit≤ tt;
      is_clash = clash_after run 2;
      newest = lit≤ tt;
      stops = refl;
    } in
    record {
      journal = record { owned = refl; each = (refl, tt) };
      tables = tables;
      covered = record {
        within = lit≤ tt;
        all = λ h. let some : true ≡ false = sym (ap is_some (final_is run)) ∙ h in absurd (cc);
      };
      seen = refl;
      refusals = ((λ h. tt, (λ h. tt, (λ h. behind, tt))), tt);
      apart = apart_by run (Some clash) (final_is run) (lit≤ tt) refl;
    }

pub returns-clause-turned : goal.returns-clause-turned
returns-clause-turned c legal =
    let named = legal.refusals.0.1.1.0 refl in never_turned named.events named.is_clash

-- ---- Before the clash has passed

-- its records have tables
tables_before : (n : ℕ) → n ≤ 2 → HasTable refused_before n
tables_before zero h = clash_is refused_before 0
tables_before (suc zero) h = clash_is refused_before 1
tables_before (suc (suc zero)) h = clash_is refused_before 2
tables_before (suc (suc (suc n))) h = absurd (omega (arith, h))

pub returns-clause-before : goal.returns-clause-before
returns-clause-before c =
    let behind : IsClashBehind refused_before 0 (record nothing_seen { fed = 2 }) clash = record {
      events = 2;
      within = lit≤ tt;
      is_clash = clash_after refused_before 2;
      newest = lit≤ tt;
      stops = refl;
    } in record {
      journal = record { owned = refl; each = (refl, tt) };
      tables = tables_before;
      covered = record { within = lit≤ tt; all = λ h. refl };
      seen = refl;
      refusals = ((λ h. tt, (λ h. tt, (λ h. behind, (λ h. tt, (λ h. tt, tt))))), tt);
      apart = apart_by refused_before None (final_is refused_before) (lit≤ tt) refl;
    }

pub returns-clause-prints : goal.returns-clause-prints
unfolding digits
returns-clause-prints c =
    prints refused_before
    (codes "event 1: main 1 apply Service default/web"
    ∷ codes "event 2: main 2 apply EndpointSlice default/web-x"
    ∷ codes "event 3: main 3 apply EndpointSlice default/web-x"
    ∷ codes "record 1: events 3, written 3, removed 0"
    ∷ codes "record 2: events 0, written 0, removed 0"
    ∷ (codes "line 4: refused: chain name KUBE-SEP- of default/web/TCP 10.244.1.2:8080"
    ++ codes " and of default/web/TCP 10.244.2.3:8080")
    ∷ codes "sync 6: record 1" ∷ codes "final: record 2" ∷ [])
    (nat_of_one (codes "10.244.1.2") ++ filter_with []) refl refl

pub returns-clause-broken : goal.returns-clause-broken
returns-clause-broken c legal =
    let run = run_of (clashing ++ feeds (apply_slice (first ∷ [])) ∷ []) passing (2 ∷ 1 ∷ []) [] in
    let some : true ≡ false =
    sym (ap is_some (clash_is run 1)) ∙ ap is_some (legal.tables 1 (lit≤ tt)) in cc
