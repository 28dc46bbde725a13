use Rattle.std.proofs.Common.{◌≤◌, ℕ, zero, suc, [], ◌∷◌, ◌++◌, codes, refl, lit≤, arith, None}
use Rattle.std.specs.Fmt.{digits}
use Rattle.json.specs.Print.{escape_byte}
use Rattle.kp_run_defs.specs.LegalRuns.{HasTable}
use Rattle.kp_worked_runs.specs.Printed.{nat_of_none, filter_with}
use Rattle.kp_worked_runs.specs.Runs.{showing}
use Rattle.kp_run_defs.proofs.Apart.{apart_by}
use Rattle.kp_worked_runs.proofs.ByLists.{clash_is, final_is, prints}
use Rattle.kp_worked_runs.proofs.worked_not_for_live.Goals as goal

-- its records have tables
tables : (n : ℕ) → n ≤ 1 → HasTable showing n
tables zero h = clash_is showing 0
tables (suc zero) h = clash_is showing 1
tables (suc (suc n)) h = absurd (omega (arith, h))

pub returns-clause-legal : goal.returns-clause-legal
returns-clause-legal c = record {
  journal = record { owned = refl; each = (refl, tt) };
  tables = tables;
  covered = record { within = lit≤ tt; all = λ h. refl };
  seen = refl;
  refusals = ((λ h. tt, tt), tt);
  apart = apart_by showing None (final_is showing) (lit≤ tt) refl;
}

pub returns-clause-prints : goal.returns-clause-prints
unfolding digits escape_byte
returns-clause-prints c =
    prints showing
    (codes "line 2: refused: op \"show\" is not for live"
    ∷ codes "event 1: main 1 apply Service default/web"
    ∷ codes "record 1: events 1, written 1, removed 0" ∷ codes "final: record 1" ∷ [])
    (nat_of_none
    ++ filter_with
    (codes "-A KUBE-SERVICES -d 10.96.0.10/32 -p tcp -m tcp --dport 80 -j REJECT" ∷ []))
    refl refl
