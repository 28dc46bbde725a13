use Rattle.std.proofs.Common.{◌≡◌, ◌≤◌, ℕ, zero, suc, true, false, [], ◌∷◌, ◌++◌, codes, is_some, refl, ap, sym, lit≤, arith, ◌∙◌, Some}
use Rattle.std.specs.Fmt.{digits}
use Rattle.kp_run_defs.specs.LegalRuns.{HasTable}
use Rattle.kp_run_defs.specs.WorkedLive.{run_of, fed}
use Rattle.kp_worked.specs.Setting.{first, second}
use Rattle.kp_worked.specs.Events.{apply_web}
use Rattle.kp_worked_runs.specs.Clashes.{clash}
use Rattle.kp_worked_runs.specs.Printed.{nat_of_none, filter_with}
use Rattle.kp_worked_runs.specs.Runs.{apply_slice, clashing, refused_at_end}
use Rattle.kp_run_defs.proofs.Apart.{apart_by}
use Rattle.kp_worked_runs.proofs.ByLists.{clash_is, final_is, prints}
use Rattle.kp_worked_runs.proofs.worked_clash_at_end.Goals as goal

-- the table of no objects is one
tables : (n : ℕ) → n ≤ 0 → HasTable refused_at_end n
tables zero h = clash_is refused_at_end 0
tables (suc n) h = absurd (omega (arith, h))

pub returns-clause-legal : goal.returns-clause-legal
returns-clause-legal c = record {
  journal = record { owned = refl; each = (refl, tt) };
  tables = tables;
  covered = record {
    within = lit≤ tt;
    all = λ h.
        let clash : true ≡ false = sym (ap is_some (final_is refused_at_end)) ∙ h in absurd (cc);
  };
  seen = refl;
  refusals = ((λ h. tt, (λ h. tt, tt)), tt);
  apart = apart_by refused_at_end (Some clash) (final_is refused_at_end) (lit≤ tt) refl;
}

pub returns-clause-prints : goal.returns-clause-prints
unfolding digits
returns-clause-prints c =
    prints refused_at_end
    (codes "event 1: main 1 apply Service default/web"
    ∷ codes "event 2: main 2 apply EndpointSlice default/web-x"
    ∷ (codes "final: refused: chain name KUBE-SEP- of default/web/TCP 10.244.1.2:8080"
    ++ codes " and of default/web/TCP 10.244.2.3:8080")
    ∷ [])
    (nat_of_none ++ filter_with []) refl refl

pub returns-clause-broken : goal.returns-clause-broken
returns-clause-broken c legal =
    let run = run_of clashing
    (fed 0 1 apply_web ∷ fed 0 2 (apply_slice (first ∷ second ∷ [])) ∷ []) (2 ∷ []) [] in
    let clash : true ≡ false =
    sym (ap is_some (clash_is run 1)) ∙ ap is_some (legal.tables 1 (lit≤ tt)) in cc
