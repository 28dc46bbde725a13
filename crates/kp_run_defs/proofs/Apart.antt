-- Records of accepted syncs, where the clash of a run is known.
use Rattle.std.proofs.Common.{◌≡◌, ◌==◌, ◌≤◌, true, ◌++◌, ap, sym, subst, ◌∙◌}
use Rattle.std.specs.Prelude.{Option}
use Rattle.kp_types.specs.declared.chain.Clash.{Clash}
use Rattle.kp_object_defs.specs.PackingLaws.{are_distinct}
use Rattle.kp_run_defs.specs.LegalRuns.{LiveRun, AreApart, final_clash, last_shown, last_syncs, records_in, syncs_shown}

pub apart_by : (run : LiveRun) (clash : Option Clash) → final_clash run ≡ clash
    → last_syncs clash ≤ records_in run
    → are_distinct (λ n m. n == m) (syncs_shown run ++ last_shown (records_in run) clash) ≡ true
    → AreApart run
apart_by run clash is last numbers = record {
  last = subst (λ c. last_syncs c ≤ records_in run) (sym is) last;
  numbers =
      ap (λ c. are_distinct (λ n m. n == m) (syncs_shown run ++ last_shown (records_in run) c)) is
      ∙ numbers;
}
