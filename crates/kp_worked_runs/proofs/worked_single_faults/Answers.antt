use Rattle.std.proofs.Common.{◌≡◌, ◌≤◌, ℕ, true, false, List, [], map, flat_map, sum, take, ap, refl, lit≤, arith, None}
use Rattle.kp_types.specs.declared.event.Event.{Event}
use Rattle.kp_types.specs.declared.event.Event.TheVariants.{Apply, Delete}
use Rattle.kp_history_defs.specs.declared.fed.Fed.{Fed}
use Rattle.kp_run_defs.specs.LegalRuns.{Shows}
use Rattle.kp_run_defs.specs.LiveLines.{settings_read}
use Rattle.kp_run_defs.proofs.Apart.{apart_by}
use Rattle.kp_run_defs.proofs.PodRuns.{no_clash_after, no_clash_at_end}
use Rattle.kp_worked_runs.specs.Faults.{shows_packets}
use Rattle.kp_worked_runs.proofs.worked_single_faults.Goals as goal

-- the numbers of events, together
abbrev numbers : List Fed → ℕ
numbers fed = sum (map (λ f. f.number) fed)

-- the name of the object that an event deletes
abbrev deleted : Event → List ℕ
deleted (Apply object) = []
deleted (Delete kind key) = key.name

-- the bytes of these names, together
abbrev names : List Fed → ℕ
names fed = sum (flat_map (λ f. deleted f.event) fed)

pub returns-clause-number : goal.returns-clause-number
returns-clause-number c legal =
    let h : ◌≡◌ {A = ℕ} 8 3 = ap numbers legal.journal.each.0 in omega (arith, h)

pub returns-clause-event : goal.returns-clause-event
returns-clause-event c legal =
    let h : ◌≡◌ {A = ℕ} 239 241 = ap names legal.journal.each.0 in omega (arith, h)

pub returns-clause-legal : goal.returns-clause-legal
returns-clause-legal c =
    let run = shows_packets (Shows 1) (Shows 3) in
    let settings = settings_read run.reading in
    record {
      journal = record { owned = refl; each = (refl, (refl, tt)) };
      tables = λ n h. no_clash_after settings (sum (take n run.counts)) [];
      covered = record { within = lit≤ tt; all = λ h. refl };
      seen = refl;
      refusals = ((λ h. tt, (λ h. tt, (λ h. tt, tt))), ((λ h. tt, tt), tt));
      apart = apart_by run None (no_clash_at_end settings []) (lit≤ tt) refl;
    }

pub returns-clause-packet : goal.returns-clause-packet
returns-clause-packet c legal = let h : false ≡ true = legal.seen in cc

pub returns-clause-sync : goal.returns-clause-sync
returns-clause-sync c legal = let h : false ≡ true = legal.seen in cc

pub returns-clause-ahead : goal.returns-clause-ahead
returns-clause-ahead c legal = let h : false ≡ true = legal.seen in cc
