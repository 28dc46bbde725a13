use Rattle.std.proofs.Common.{None, [], ◌∷◌, codes, sum, take, refl, lit≤}
use Rattle.kp_run_defs.specs.LiveLines.{settings_read}
use Rattle.kp_run_defs.specs.WorkedLive.{run_of, two_streams, mixed, whole_counts, fitting}
use Rattle.kp_run_defs.proofs.Apart.{apart_by}
use Rattle.kp_run_defs.proofs.PodRuns.{no_clash_after, no_clash_at_end}
use Rattle.kp_run_defs.proofs.worked.a_legal_run.Goals as goal

pub returns : goal.returns
returns c =
    let names = codes "x" ∷ codes "z" ∷ codes "y" ∷ [] in
    let run = run_of two_streams mixed whole_counts fitting in
    let settings = settings_read run.reading in
    record {
      journal = record { owned = refl; each = (refl, (refl, tt)) };
      tables = λ n h. no_clash_after settings (sum (take n whole_counts)) names;
      covered = record { within = lit≤ tt; all = λ h. refl };
      seen = refl;
      refusals =
          ((λ h. tt, (λ h. tt, (λ h. tt, (λ h. tt, tt)))), ((λ h. tt, (λ h. tt, (λ h. tt, tt))), tt));
      apart = apart_by run None (no_clash_at_end settings names) (lit≤ tt) refl;
    }
