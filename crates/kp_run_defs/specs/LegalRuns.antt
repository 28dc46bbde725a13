-- Live runs, as far as they can be read off their text (this project's choice): what was read, the
-- journal, how many events each record covers more than the one before it, and what each line that
-- syncs or sends a packet shows. A run is legal where the journal is what the streams feed, each
-- record has a table, a sync covers what its stream fed before and is newer than all that it was
-- shown, and no line shows what its stream couldn't have seen. How streams, syncs and packets came
-- about in threads is no part of it.
use Rattle.std.specs.Prelude.{◌≡◌, ◌==◌, ◌≤◌, ◌+◌, ◌-◌, ◌&&◌, ◌||◌, nat_lt, nat_le, ℕ, max, Bool, true, false, List, [], ◌∷◌, ◌++◌, length, take, sum, filter_map, Option, Some, None, is_some}
use Rattle.std.specs.List.{AllByRecursion, filter, fold, list_all}
use Rattle.kp_types.specs.Setting.{Settings}
use Rattle.kp_types.specs.declared.chain.Clash.{Clash}
use Rattle.kp_types.specs.declared.event.Event.{Event}
use Rattle.kp_object_defs.specs.Objects.{objects_after}
use Rattle.kp_object_defs.specs.PackingLaws.{are_distinct}
use Rattle.kp_table_defs.specs.Rebuild.{Chains, clash_of, full_table}
use Rattle.kp_history_defs.specs.History.{chains_covered, objects_covered}
use Rattle.kp_history_defs.specs.Runs.{events_of, is_of_stream, numbered}
use Rattle.kp_history_defs.specs.declared.fed.Fed.{Fed}
use Rattle.kp_run_defs.specs.LiveLines.{Reading, settings_read, lines_of_stream, events_of_stream, places_of}
use Rattle.kp_run_defs.specs.declared.live.StreamLine.{StreamLine}
use Rattle.kp_run_defs.specs.declared.live.Work.{Work}
use Rattle.kp_run_defs.specs.declared.live.Work.TheVariants.{Feeds, Syncs, Sends}

-- ---- Runs

-- what a line that syncs or sends a packet shows: the number of a record, or two chains of one name
pub data Mark : Type 0 where
  Shows : ℕ → Mark
  Refuses : Clash → Mark

-- A run: what was read; the journal, each event with its stream and its number in it; how many
-- events each record covers more than the one before it; and what lines show, by their numbers.
pub record LiveRun : Type 0 where
  pub reading : Reading
  pub journal : List Fed
  pub counts : List ℕ
  pub marks : ℕ → Mark

-- the settings of a run
abbrev pub settings_in : LiveRun → Settings
settings_in run = settings_read run.reading

-- the events of its journal
abbrev pub events_in : LiveRun → List Event
events_in run = events_of run.journal

-- how many records there are
abbrev pub records_in : LiveRun → ℕ
records_in run = length run.counts

-- the clash of the objects after all its events
abbrev pub final_clash : LiveRun → Option Clash
final_clash run = clash_of (settings_in run) (objects_after (events_in run))

-- the chains of the table of a record
abbrev pub chains_at : LiveRun → ℕ → Chains
chains_at run n = chains_covered (settings_in run) (events_in run) run.counts n

-- ---- The journal and the records

-- the events of a stream in the journal are all that it feeds, in order, numbered from 1
abbrev pub HasWholeStream : LiveRun → ℕ → Type 0
HasWholeStream run stream =
    filter (is_of_stream stream) run.journal
    ≡ numbered stream 0 (events_of_stream run.reading stream)

-- an event is of a stream that there is
abbrev pub is_of_some_stream : LiveRun → Fed → Bool
is_of_some_stream run f = nat_lt f.feeder (length run.reading.streams)

-- the journal has the events of the streams, all of them, and no others
pub record IsWholeJournal (run : LiveRun) : Type 0 where
  pub owned : list_all (is_of_some_stream run) run.journal ≡ true
  pub each : AllByRecursion (HasWholeStream run) (places_of run.reading)

-- the objects of a record have no clash
abbrev pub HasTable : LiveRun → ℕ → Type 0
HasTable run n =
    clash_of (settings_in run) (objects_covered (events_in run) run.counts n) ≡ None

-- The records cover events that there are. They cover all of them, or the objects after all events
-- have a clash.
pub record CoverJournal (run : LiveRun) : Type 0 where
  pub within : sum run.counts ≤ length run.journal
  pub all : is_some (final_clash run) ≡ false → sum run.counts ≡ length run.journal

-- ---- What lines show

-- a line that syncs
abbrev pub is_sync : Work → Bool
is_sync (Feeds events) = false
is_sync Syncs = true
is_sync (Sends p) = false

-- the number of a record, for a sync that is accepted
abbrev pub is_shown : Mark → Bool
is_shown (Shows n) = true
is_shown (Refuses clash) = false

-- the most events that one sync takes
abbrev pub most_taken : ℕ
most_taken = 65536

-- how many events the first n records cover
abbrev pub covered_by : LiveRun → ℕ → ℕ
covered_by run n = sum (take n run.counts)

-- how many of the first m events are of a stream
abbrev pub own_events : LiveRun → ℕ → ℕ → ℕ
own_events run stream m = length (filter (is_of_stream stream) (take m run.journal))

-- A sync that finds the first n records, and takes the events up to m, may stop there: these have
-- all that its stream had fed, or it took as many as one sync takes.
abbrev pub may_stop : LiveRun → ℕ → ℕ → ℕ → ℕ → Bool
may_stop run stream fed n m =
    nat_le fed (own_events run stream m) || nat_le (covered_by run n + most_taken) m

-- What a stream has seen: the greatest number that its lines showed, how many events it fed, and
-- whether each line could show what it does.
pub record Seen : Type 0 where
  pub most : ℕ
  pub fed : ℕ
  pub fits : Bool

-- before its first line
abbrev pub nothing_seen : Seen
nothing_seen = record { most = 0; fed = 0; fits = true }

-- An accepted sync shows a record that exists, is newer than all that its stream's lines showed, and
-- covers what the stream fed, or as many events as one sync takes.
abbrev pub seen_sync : LiveRun → ℕ → Mark → Seen → Seen
seen_sync run stream (Shows n) s = record s {
  most = max s.most n;
  fits = s.fits
      && (nat_lt s.most n
      && (nat_le n (records_in run) && may_stop run stream s.fed (n - 1) (covered_by run n)));
}
seen_sync run stream (Refuses clash) s = s

-- A packet shows a record that exists, or 0, of a number that is at least all that its stream's
-- lines showed before.
abbrev pub seen_packet : LiveRun → Mark → Seen → Seen
seen_packet run (Shows n) s = record s {
  most = max s.most n;
  fits = s.fits && (nat_le s.most n && nat_le n (records_in run));
}
seen_packet run (Refuses clash) s = record s { fits = false }

-- what a stream's work shows
abbrev pub seen_work : LiveRun → ℕ → Mark → Work → Seen → Seen
seen_work run stream mark (Feeds events) s = record s { fed = s.fed + length events }
seen_work run stream mark Syncs s = seen_sync run stream mark s
seen_work run stream mark (Sends p) s = seen_packet run mark s

-- one more line of the stream
abbrev pub seen_line : LiveRun → Seen → StreamLine → Seen
seen_line run s line = seen_work run line.stream (run.marks line.number) line.work s

-- what a stream has seen at its end
abbrev pub seen_by : LiveRun → ℕ → Seen
seen_by run stream = fold (seen_line run) nothing_seen (lines_of_stream run.reading stream)

-- ---- What refused lines name

-- Two chains have one name among the objects after some first events. These are no fewer than what
-- was covered by all that the stream was shown, and a sync that found so many records may stop there.
pub record IsClashBehind (run : LiveRun) (stream : ℕ) (s : Seen) (clash : Clash) : Type 0 where
  pub events : ℕ
  pub within : events ≤ length run.journal
  pub is_clash : clash_of (settings_in run) (objects_after (take events (events_in run)))
      ≡ Some clash
  pub newest : covered_by run s.most ≤ events
  pub stops : may_stop run stream s.fed s.most events ≡ true

-- a line may be refused only by a clash
abbrev pub IsRefusal : LiveRun → ℕ → Seen → Mark → Type 0
IsRefusal run stream s (Shows n) = Unit {0}
IsRefusal run stream s (Refuses clash) = IsClashBehind run stream s clash

-- a line that syncs and is refused names a clash, where its stream has seen this before
abbrev pub HasRefusal : LiveRun → Seen → StreamLine → Type 0
HasRefusal run s line =
    is_sync line.work ≡ true → IsRefusal run line.stream s (run.marks line.number)

-- so does each of a stream's lines
abbrev pub HaveRefusals : LiveRun → Seen → List StreamLine → Type 0
HaveRefusals run s [] = Unit {0}
HaveRefusals run s (line ∷ lines) =
    HasRefusal run s line × HaveRefusals run (seen_line run s line) lines

-- from its first line on
abbrev pub RefusesByClashes : LiveRun → ℕ → Type 0
RefusesByClashes run stream =
    HaveRefusals run nothing_seen (lines_of_stream run.reading stream)

-- ---- Records of syncs

-- the number that an accepted sync shows
abbrev pub sync_shown : Work → Mark → Option ℕ
sync_shown (Feeds events) mark = None
sync_shown Syncs (Shows n) = Some n
sync_shown Syncs (Refuses clash) = None
sync_shown (Sends p) mark = None

-- the numbers that accepted syncs show
abbrev pub syncs_shown : LiveRun → List ℕ
syncs_shown run =
    filter_map (λ line. sync_shown line.work (run.marks line.number)) run.reading.lines

-- how many records the sync behind the last line adds
abbrev pub last_syncs : Option Clash → ℕ
last_syncs None = 1
last_syncs (Some clash) = 0

-- the number of that record, which is the last one
abbrev pub last_shown : ℕ → Option Clash → List ℕ
last_shown records None = records ∷ []
last_shown records (Some clash) = []

-- No two accepted syncs show one record. The sync that ends the run has a record that none of them
-- shows, unless a clash refuses it.
pub record AreApart (run : LiveRun) : Type 0 where
  pub last : last_syncs (final_clash run) ≤ records_in run
  pub numbers : are_distinct (λ n m. n == m)
      (syncs_shown run ++ last_shown (records_in run) (final_clash run)) ≡ true

-- ---- Legal runs

-- A run that the rules allow: the journal is what each stream feeds; each record has a table, and
-- the records cover the journal, or it ends in a clash; each stream's lines show what it may have
-- seen; each refused sync names a clash that its stream may have met; and each accepted sync, also
-- the one that ends the run, has a record of its own.
pub record IsLegalRun (run : LiveRun) : Type 0 where
  pub journal : IsWholeJournal run
  pub tables : (n : ℕ) → n ≤ records_in run → HasTable run n
  pub covered : CoverJournal run
  pub seen : list_all (λ stream. (seen_by run stream).fits) (places_of run.reading) ≡ true
  pub refusals : AllByRecursion (RefusesByClashes run) (places_of run.reading)
  pub apart : AreApart run

-- ---- The last table

-- Where a legal run ends without a clash, its last table is the full table of the objects after
-- every event of the journal, which has all events of each stream.
abbrev pub LastTableIsFull : Type 0
LastTableIsFull =
    (run : LiveRun) → IsLegalRun run → is_some (final_clash run) ≡ false
    → chains_at run (records_in run)
    ≡ (full_table (settings_in run) (objects_after (events_in run))).chains
