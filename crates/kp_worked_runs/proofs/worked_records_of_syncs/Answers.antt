use Rattle.std.proofs.Common.{◌≡◌, ◌==◌, true, false, [], ◌∷◌, codes, None, sum, take, refl, ap, sym, ◌∙◌, lit≤}
use Rattle.kp_object_defs.specs.PackingLaws.{are_distinct}
use Rattle.kp_run_defs.specs.LegalRuns.{Shows, last_shown}
use Rattle.kp_run_defs.specs.LiveLines.{settings_read}
use Rattle.kp_run_defs.proofs.Apart.{apart_by}
use Rattle.kp_run_defs.proofs.PodRuns.{no_clash_after, no_clash_at_end}
use Rattle.kp_worked_runs.specs.Faults.{covers_first, two_syncs}
use Rattle.kp_worked_runs.proofs.worked_records_of_syncs.Goals as goal

pub returns-clause-has : goal.returns-clause-has
returns-clause-has c =
    let run = covers_first (1 ∷ 0 ∷ []) in
    let settings = settings_read run.reading in
    record {
      journal = record { owned = refl; each = (refl, tt) };
      tables = λ n h. no_clash_after settings (sum (take n run.counts)) (codes "x" ∷ []);
      covered = record { within = lit≤ tt; all = λ h. refl };
      seen = refl;
      refusals = ((λ h. tt, (λ h. tt, tt)), tt);
      apart = apart_by run None (no_clash_at_end settings (codes "x" ∷ [])) (lit≤ tt) refl;
    }

pub returns-clause-lacks : goal.returns-clause-lacks
returns-clause-lacks c legal = let h : false ≡ true = legal.seen in cc

pub returns-clause-apart : goal.returns-clause-apart
returns-clause-apart c =
    let run = two_syncs (Shows 2) (Shows 1) in
    let settings = settings_read run.reading in
    record {
      journal = record { owned = refl; each = (refl, (refl, tt)) };
      tables = λ n h. no_clash_after settings (sum (take n run.counts)) [];
      covered = record { within = lit≤ tt; all = λ h. refl };
      seen = refl;
      refusals = ((λ h. tt, tt), ((λ h. tt, tt), tt));
      apart = apart_by run None (no_clash_at_end settings []) (lit≤ tt) refl;
    }

pub returns-clause-shared : goal.returns-clause-shared
returns-clause-shared c legal =
    let run = two_syncs (Shows 1) (Shows 1) in
    let none = no_clash_at_end (settings_read run.reading) [] in
    let h : false ≡ true =
    sym (ap (λ clash. are_distinct (λ n m. n == m) (1 ∷ 1 ∷ last_shown 3 clash)) none)
    ∙ legal.apart.numbers in cc
