use Rattle.std.proofs.Common.{◌≤◌, ℕ, zero, suc, [], ◌∷◌, ◌++◌, codes, refl, lit≤, arith, None}
use Rattle.std.specs.Fmt.{digits}
use Rattle.kp_run_defs.specs.LegalRuns.{HasTable}
use Rattle.kp_worked_runs.specs.Printed.{nat_of_none, filter_with}
use Rattle.kp_worked_runs.specs.Runs.{empty}
use Rattle.kp_run_defs.proofs.Apart.{apart_by}
use Rattle.kp_worked_runs.proofs.ByLists.{clash_is, final_is, prints}
use Rattle.kp_worked_runs.proofs.worked_empty_input.Goals as goal

-- its records have tables
tables : (n : ℕ) → n ≤ 1 → HasTable empty n
tables zero h = clash_is empty 0
tables (suc zero) h = clash_is empty 1
tables (suc (suc n)) h = absurd (omega (arith, h))

pub returns-clause-legal : goal.returns-clause-legal
returns-clause-legal c = record {
  journal = record { owned = refl; each = tt };
  tables = tables;
  covered = record { within = lit≤ tt; all = λ h. refl };
  seen = refl;
  refusals = tt;
  apart = apart_by empty None (final_is empty) (lit≤ tt) refl;
}

pub returns-clause-prints : goal.returns-clause-prints
unfolding digits
returns-clause-prints c =
    prints empty
    (codes "record 1: events 0, written 0, removed 0" ∷ codes "final: record 1" ∷ [])
    (nat_of_none ++ filter_with []) refl refl
