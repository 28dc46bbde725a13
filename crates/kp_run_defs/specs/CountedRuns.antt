-- Looser rules of live runs, by counts: an accepted sync shows at least as many records as its stream
-- has accepted syncs, a refused one names a clash of some first events, and there are as many
-- records as accepted syncs. They follow from those of legal runs.
use Rattle.std.specs.Prelude.{◌≡◌, ◌≤◌, ◌+◌, ◌&&◌, nat_le, ℕ, suc, max, Bool, true, false, List, take, count_by, Some}
use Rattle.std.specs.List.{AllByRecursion, fold, list_all}
use Rattle.kp_types.specs.declared.chain.Clash.{Clash}
use Rattle.kp_object_defs.specs.Objects.{objects_after}
use Rattle.kp_table_defs.specs.Rebuild.{clash_of}
use Rattle.kp_run_defs.specs.LegalRuns.{LiveRun, Mark, Shows, Refuses, IsLegalRun, IsWholeJournal, HasTable, CoverJournal, settings_in, events_in, records_in, final_clash, is_sync, is_shown, last_syncs}
use Rattle.kp_run_defs.specs.LiveLines.{lines_of_stream, places_of, reading_of}
use Rattle.kp_run_defs.specs.declared.live.StreamLine.{StreamLine}
use Rattle.kp_run_defs.specs.declared.live.Work.{Work}
use Rattle.kp_run_defs.specs.declared.live.Work.TheVariants.{Feeds, Syncs, Sends}

-- a line is a sync that is accepted
abbrev pub is_accepted_sync : LiveRun → StreamLine → Bool
is_accepted_sync run line = is_sync line.work && is_shown (run.marks line.number)

-- What a stream has seen: how many of its syncs were accepted, the greatest number that its lines
-- showed, and whether each line could show what it does.
pub record Seen : Type 0 where
  pub syncs : ℕ
  pub most : ℕ
  pub fits : Bool

-- before its first line
abbrev pub nothing_seen : Seen
nothing_seen = record { syncs = 0; most = 0; fits = true }

-- An accepted sync shows a record that exists, of a number that is at least the count of the
-- stream's accepted syncs.
abbrev pub seen_sync : ℕ → Mark → Seen → Seen
seen_sync records (Shows n) s = record {
  syncs = suc s.syncs;
  most = max s.most n;
  fits = s.fits && (nat_le (suc s.syncs) n && nat_le n records);
}
seen_sync records (Refuses clash) s = s

-- A packet shows a record that exists, or 0, of a number that is at least all that its stream's
-- lines showed before.
abbrev pub seen_packet : ℕ → Mark → Seen → Seen
seen_packet records (Shows n) s = record s {
  most = max s.most n;
  fits = s.fits && (nat_le s.most n && nat_le n records);
}
seen_packet records (Refuses clash) s = record s { fits = false }

-- what a stream's work shows
abbrev pub seen_work : ℕ → Mark → Work → Seen → Seen
seen_work records mark (Feeds events) s = s
seen_work records mark Syncs s = seen_sync records mark s
seen_work records mark (Sends p) s = seen_packet records mark s

-- one more line of the stream
abbrev pub seen_line : LiveRun → Seen → StreamLine → Seen
seen_line run s line = seen_work (records_in run) (run.marks line.number) line.work s

-- what a stream has seen at its end
abbrev pub seen_by : LiveRun → ℕ → Seen
seen_by run stream = fold (seen_line run) nothing_seen (lines_of_stream run.reading stream)

-- two chains that have one name among the objects after some first events
abbrev pub IsClash : LiveRun → Clash → Type 0
IsClash run clash =
    (n : ℕ) × (clash_of (settings_in run) (objects_after (take n (events_in run))) ≡ Some clash)

-- a line may be refused only by a clash
abbrev pub IsRefusal : LiveRun → Mark → Type 0
IsRefusal run (Shows n) = Unit {0}
IsRefusal run (Refuses clash) = IsClash run clash

-- each line of the list that syncs and is refused names a clash
abbrev pub HasRefusal : LiveRun → StreamLine → Type 0
HasRefusal run line = is_sync line.work ≡ true → IsRefusal run (run.marks line.number)

-- how many syncs are accepted by their lines
abbrev pub accepted_syncs : LiveRun → ℕ
accepted_syncs run = count_by (is_accepted_sync run) run.reading.lines

-- ---- Runs by counts

-- a run that these rules allow
pub record IsCountedRun (run : LiveRun) : Type 0 where
  pub journal : IsWholeJournal run
  pub tables : (n : ℕ) → n ≤ records_in run → HasTable run n
  pub covered : CoverJournal run
  pub seen : list_all (λ stream. (seen_by run stream).fits) (places_of run.reading) ≡ true
  pub refusals : AllByRecursion (HasRefusal run) run.reading.lines
  pub enough : accepted_syncs run + last_syncs (final_clash run) ≤ records_in run

-- each legal run of an input is one
abbrev pub LegalRunsAreCounted : Type 0
LegalRunsAreCounted =
    (run : LiveRun) (input : List (List ℕ)) → run.reading ≡ reading_of input
    → IsLegalRun run → IsCountedRun run
