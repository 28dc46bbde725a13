-- The table that a live run ends with.
use Rattle.std.proofs.Common.{◌≡◌, ◌||◌, Bool, true, false, sym, subst}
use Rattle.std.specs.Prelude.{nat_lt, length, IfSome, is_some}
use Rattle.std.specs.List.{list_any}
use Rattle.kp_run_defs.specs.LegalRuns.{final_clash}
use Rattle.kp_run_defs.specs.LiveText.{is_refused_sync}
use Rattle.kp_run_defs.proofs.LastTables.{covered_table_is_full}
use Rattle.kp_live.specs.Written as live
use Rattle.kp_run.specs.LastTables.{LastLiveTable}

-- the last of three, of which none is so
last_is_not : (a b c : Bool) → false ≡ (a || (b || c)) → c ≡ false
last_is_not true b c is = absurd (cc is)
last_is_not false true c is = absurd (cc is)
last_is_not false false c is = sym is

pub last_live_table : LastLiveTable
last_live_table from to input output text left ends =
    let writes =
    (subst (λ o. IfSome o (λ t. live.WritesInput false t to output))
    left ends.0).writes in
    let run = writes.run in (
      run,
      writes.runs.reads,
      writes.grown,
      covered_table_is_full run writes.runs.counted.covered
          (last_is_not (nat_lt 0 (length run.reading.refused))
          (list_any (is_refused_sync run) run.reading.lines) (is_some (final_clash run))
          writes.told),
    )
