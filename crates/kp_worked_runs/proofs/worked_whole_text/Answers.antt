use Rattle.std.proofs.Common.{◌≤◌, ℕ, zero, suc, [], ◌∷◌, ◌++◌, codes, refl, lit≤, arith, None}
use Rattle.std.specs.Fmt.{digits}
use Rattle.json.specs.Print.{escape_byte}
use Rattle.kp_run_defs.specs.LegalRuns.{HasTable}
use Rattle.kp_worked_runs.specs.Printed.{nat_of_one, filter_with}
use Rattle.kp_worked_runs.specs.Runs.{whole}
use Rattle.kp_run_defs.proofs.Apart.{apart_by}
use Rattle.kp_worked_runs.proofs.ByLists.{clash_is, final_is, prints}
use Rattle.kp_worked_runs.proofs.worked_whole_text.Goals as goal

-- its records have tables
tables : (n : ℕ) → n ≤ 2 → HasTable whole n
tables zero h = clash_is whole 0
tables (suc zero) h = clash_is whole 1
tables (suc (suc zero)) h = clash_is whole 2
tables (suc (suc (suc n))) h = absurd (omega (arith, h))

pub returns-clause-legal : goal.returns-clause-legal
returns-clause-legal c = record {
  journal = record { owned = refl; each = (refl, (refl, tt)) };
  tables = tables;
  covered = record { within = lit≤ tt; all = λ h. refl };
  seen = refl;
  refusals = ((λ h. tt, (λ h. tt, tt)), ((λ h. tt, (λ h. tt, tt)), tt));
  apart = apart_by whole None (final_is whole) (lit≤ tt) refl;
}

pub returns-clause-prints : goal.returns-clause-prints
unfolding digits escape_byte
returns-clause-prints c =
    prints whole
    (codes "line 2: refused: op \"show\" is not for live"
    ∷ codes "event 1: b 1 apply EndpointSlice default/web-x"
    ∷ codes "event 2: a 1 apply Service default/web"
    ∷ codes "record 1: events 2, written 3, removed 0"
    ∷ codes "record 2: events 0, written 0, removed 0"
    ∷ codes "sync 5: record 1" ∷ codes "packet 6 at 1: to 10.244.1.2:8080"
    ∷ codes "final: record 2" ∷ [])
    (nat_of_one (codes "10.244.1.2") ++ filter_with []) refl refl
