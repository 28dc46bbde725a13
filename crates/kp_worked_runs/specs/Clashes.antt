-- Runs with syncs that are refused: the Service's slice has two endpoints, whose chains have one
-- name. The lines are given as they were read.
use Rattle.std.specs.Prelude.{◌≡◌, true, false, List, [], ◌∷◌, ◌++◌, codes}
use Rattle.kp_types.specs.declared.chain.ChainKey.TheVariants.{Sep}
use Rattle.kp_types.specs.declared.chain.Clash.{Clash}
use Rattle.kp_types.specs.declared.event.Event.{Event}
use Rattle.kp_history_defs.specs.declared.fed.Fed.{Fed}
use Rattle.kp_text_defs.specs.declared.script.Op.TheVariants as op
use Rattle.kp_run_defs.specs.LegalRuns.{IsLegalRun, LiveRun, Mark, Refuses, Shows}
use Rattle.kp_run_defs.specs.LiveText.{is_refused_run}
use Rattle.kp_run_defs.specs.WorkedLive.{IsBroken, by, fed, run_of}
use Rattle.kp_worked.specs.Setting.{ep1, ep2, first, second, web_port}
use Rattle.kp_worked.specs.Events.{apply_web}
use Rattle.kp_worked_runs.specs.Printed.{filter_with, nat_of_one}
use Rattle.kp_worked_runs.specs.Runs.{Prints, apply_slice, clashing, feeds, main}
use Rattle.kp_worked_runs.specs.Runs.{refused_at_end, sent, showing, synced}

-- the two chains
abbrev pub clash : Clash
clash = record { name = codes "KUBE-SEP-"; first = Sep web_port ep1; second = Sep web_port ep2 }

-- the other way round
abbrev pub turned : Clash
turned = record { name = codes "KUBE-SEP-"; first = Sep web_port ep2; second = Sep web_port ep1 }

-- the slice with both endpoints is applied
abbrev pub apply_both : Event
apply_both = apply_slice (first ∷ second ∷ [])

-- ---- A refused sync

-- the sync behind the clash shows this
abbrev pub sync_shows : Mark → LiveRun
sync_shows mark =
    run_of (clashing ++ main op.Sync ∷ []) (fed 0 1 apply_web ∷ fed 0 2 apply_both ∷ []) []
    (Shows 0 ∷ Shows 0 ∷ Shows 0 ∷ mark ∷ [])

-- it may be refused by the two chains, also where the run ends so: then no record is made
abbrev pub RefusedAtEnd : Type 0
RefusedAtEnd = IsLegalRun (sync_shows (Refuses clash))

-- but not by the two the other way round
abbrev pub TurnedIsBroken : Type 0
TurnedIsBroken = IsBroken (sync_shows (Refuses turned))

-- ---- A clash that passes

-- behind the clash the slice has one endpoint again
abbrev pub passing : List Fed
passing = fed 0 1 apply_web ∷ fed 0 2 apply_both ∷ fed 0 3 (apply_slice (first ∷ [])) ∷ []

-- the first sync is refused, and the second isn't
abbrev pub refused_before : LiveRun
refused_before =
    run_of (clashing ++ main op.Sync ∷ feeds (apply_slice (first ∷ [])) ∷ main op.Sync ∷ []) passing
    (3 ∷ 0 ∷ []) (Shows 0 ∷ Shows 0 ∷ Shows 0 ∷ Refuses clash ∷ Shows 0 ∷ Shows 1 ∷ [])

-- it is legal
abbrev pub RefusedBefore : Type 0
RefusedBefore = IsLegalRun refused_before

-- it prints the refusal in its line's place
abbrev pub RefusedBeforePrints : Type 0
RefusedBeforePrints =
    Prints refused_before
    ((codes "event 1: main 1 apply Service default/web"
    ∷ codes "event 2: main 2 apply EndpointSlice default/web-x"
    ∷ codes "event 3: main 3 apply EndpointSlice default/web-x"
    ∷ codes "record 1: events 3, written 3, removed 0"
    ∷ codes "record 2: events 0, written 0, removed 0"
    ∷ (codes "line 4: refused: chain name KUBE-SEP- of default/web/TCP 10.244.1.2:8080"
    ++ codes " and of default/web/TCP 10.244.2.3:8080")
    ∷ codes "sync 6: record 1" ∷ codes "final: record 2" ∷ [])
    ++ nat_of_one (codes "10.244.1.2") ++ filter_with [])

-- ---- A clash that passed before a stream looked

-- another stream sends a packet, which shows this, and its sync is refused by the clash
abbrev pub refused_behind : Mark → LiveRun
refused_behind mark =
    run_of
    (clashing ++ feeds (apply_slice (first ∷ [])) ∷ by (codes "b") (op.Packet sent)
    ∷ by (codes "b") op.Sync ∷ [])
    passing (3 ∷ 0 ∷ [])
    (Shows 0 ∷ Shows 0 ∷ Shows 0 ∷ Shows 0 ∷ mark ∷ Refuses clash ∷ [])

-- it may be where no record was shown
abbrev pub RefusedByFirst : Type 0
RefusedByFirst = IsLegalRun (refused_behind (Shows 0))

-- but not by fewer events than the packet showed
abbrev pub RefusedByFewer : Type 0
RefusedByFewer = IsBroken (refused_behind (Shows 1))

-- a run isn't legal whose first record has the clash, though its last one has none
abbrev pub FirstRecordHasClash : Type 0
FirstRecordHasClash =
    IsBroken (run_of (clashing ++ feeds (apply_slice (first ∷ [])) ∷ []) passing (2 ∷ 1 ∷ []) [])

-- ---- Whether a run refused anything

-- a line that isn't for live,
abbrev pub LineIsRefused : Type 0
LineIsRefused = is_refused_run showing ≡ true

-- a sync,
abbrev pub SyncIsRefused : Type 0
SyncIsRefused = is_refused_run refused_before ≡ true

-- the sync at the end,
abbrev pub EndIsRefused : Type 0
EndIsRefused = is_refused_run refused_at_end ≡ true

-- or nothing
abbrev pub NothingIsRefused : Type 0
NothingIsRefused = is_refused_run synced ≡ false
