-- What one stream does with its lines. Its lines are answered from the tables of records, of which
-- it knows some first ones. That is said of each list of records which goes on from all that it
-- knows, and so of those that there are at the end, without a list of what it knew before.
use Rattle.std.specs.Prelude.{◌≡◌, ◌≤◌, ◌+◌, ℕ, max, Bool, true, List, [], ◌∷◌, ◌++◌, map, length, take, count_by, not, ◌&&◌, ◌⊎◌}
use Rattle.std.specs.List.{flat_map, fold}
use Rattle.std.specs.FinMap.{get}
use mathlib.Core.List.{IsPrefix}
use Rattle.kp_base.specs.declared.config.Config.{Config}
use Rattle.kp_types.specs.declared.chain.Clash.{Clash}
use Rattle.kp_types.specs.declared.event.Event.{Event}
use Rattle.kp_types.specs.declared.sync.SyncRecord.{SyncRecord}
use Rattle.kp_choice_defs.specs.Recent.{RecentParts}
use Rattle.kp_table_defs.specs.Rebuild.{TableParts}
use Rattle.kp_table_defs.specs.Walk.{Walked}
use Rattle.kp_history_defs.specs.History.{table_from}
use Rattle.kp_text_defs.specs.Live.{live_sync_text}
use Rattle.kp_text_defs.specs.declared.packet.PacketLine.{PacketLine}
use Rattle.kp_run_defs.specs.AnswerText.{walk_at}
use Rattle.kp_run_defs.specs.CountedRuns.{Seen, nothing_seen, seen_work}
use Rattle.kp_run_defs.specs.LegalRuns.{Mark, Shows, Refuses, is_sync, is_shown}
use Rattle.kp_run_defs.specs.LiveLines.{events_fed}
use Rattle.kp_run_defs.specs.ReplayText.{no_sources}
use Rattle.kp_run_defs.specs.declared.live.StreamLine.{StreamLine}
use Rattle.kp_run_defs.specs.declared.live.Work.{Work}
use Rattle.kp_run_defs.specs.declared.live.Work.TheVariants.{Feeds, Syncs, Sends}
use Rattle.kp_publish.specs.Entries.{records_of}
use Rattle.kp_hub.specs.Known.{Worker, new_worker}
use Rattle.kp_hub.specs.Reading.{Reads, walk_after}
use Rattle.kp_hub.specs.Syncs.{IsTold}
use Rattle.kp_live.specs.Told.{Told, Says, Denies, Holds, packet_told}
use Rattle.kp_live.specs.Stands.{Stand}

-- ---- Lines and what they show

-- a line of a stream, and what it shows
abbrev pub Shown : Type 0
Shown = StreamLine × Mark

-- it is a sync that is accepted
abbrev pub is_accepted : Shown → Bool
is_accepted s = is_sync s.0.work && is_shown s.1

-- it is a sync that is refused
abbrev pub is_denied : Shown → Bool
is_denied s = is_sync s.0.work && not (is_shown s.1)

-- what the lines of a stream were answered, and its recent lists after them
pub record Answering : Type 0 where
  pub told : List Told
  pub lists : RecentParts

-- before the first line
abbrev pub nothing_told : Config → Answering
nothing_told config = record { told = []; lists = no_sources config.recent_size }

module _ (start : TableParts) (config : Config) (records : List SyncRecord) where
  -- the walk of a line's packet through the table after the first n records
  abbrev pub walk_from : ℕ → ℕ → PacketLine → RecentParts → Walked
  walk_from n number p lists =
      walk_at (get (table_from start (take n records)).chains) config.addresses number p lists

  -- a packet is answered from the table after the first n records
  abbrev pub with_packet_from : ℕ → ℕ → PacketLine → Answering → Answering
  with_packet_from n number p a =
      let w = walk_from n number p a.lists in record {
        told = a.told ++ packet_told number n p w ∷ [];
        lists = w.lists;
      }

  -- what a line's work is answered, by what it shows
  abbrev pub with_shown : ℕ → Mark → Work → Answering → Answering
  with_shown number mark (Feeds events) a = a
  with_shown number (Shows n) Syncs a =
      record a { told = a.told ++ Says (live_sync_text number n) ∷ [] }
  with_shown number (Refuses clash) Syncs a = record a { told = a.told ++ Denies clash ∷ [] }
  with_shown number (Shows n) (Sends p) a = with_packet_from n number p a
  with_shown number (Refuses clash) (Sends p) a = a

  -- one more line
  abbrev pub after_shown : Answering → Shown → Answering
  after_shown a s = with_shown s.0.number s.1 s.0.work a

  -- what lines are answered, by what they show
  abbrev pub answering : List Shown → Answering
  answering shown = fold after_shown (nothing_told config) shown

-- one more line that shows what it does, where there are so many records
abbrev pub see_shown : ℕ → Seen → Shown → Seen
see_shown records s shown = seen_work records shown.1 shown.0.work s

-- what a stream has seen by what its lines show
abbrev pub seen_from : ℕ → List Shown → Seen
seen_from records shown = fold (see_shown records) nothing_seen shown

-- ---- What a stream knows

-- the records go on from all that a worker saw and was told of
abbrev pub GoesOnFromAll : List SyncRecord → Worker → Type 0
GoesOnFromAll records w =
    IsPrefix (records_of w.seen) records × IsPrefix (records_of w.told) records

-- how many records a worker knows at least
abbrev pub known : Worker → ℕ
known w = max (length (records_of w.seen)) (length (records_of w.told))

-- Where there are these records, lines of a stream that show this are answered so, and each could
-- show what it does. What they show is at most what the stream knows, and its accepted syncs count.
pub record FitsRecords
    (start : TableParts) (config : Config) (records : List SyncRecord) (shown : List Shown)
    (now : Answering) (w : Worker) : Type 0 where
  pub answers : now ≡ answering start config records shown
  pub fits : (seen_from (length records) shown).fits ≡ true
  pub most : (seen_from (length records) shown).most ≤ known w
  pub syncs : (seen_from (length records) shown).syncs ≡ w.accepted

-- What the lines of a stream came to: what each shows, so that they fit all records which go on
-- from what the stream knows. Its accepted and refused syncs count.
pub record HasRun
    (start : TableParts) (config : Config) (lines : List StreamLine) (now : Answering)
    (w : Worker) : Type 0 where
  pub shown : List Shown
  pub lines_are : map (λ s. s.0) shown ≡ lines
  pub accepted : count_by is_accepted shown ≡ w.accepted
  pub refused : count_by is_denied shown ≡ w.refused
  pub fits : (records : List SyncRecord) → GoesOnFromAll records w
      → FitsRecords start config records shown now w

-- a stream has fed the events of its lines
abbrev pub HasFed : List StreamLine → List Event → Type 0
HasFed lines fed = fed ≡ flat_map (λ line. events_fed line.work) lines

-- Where a stream stands behind these lines: what it was answered, and what it has fed.
pub record StandsBehind
    (start : TableParts) (config : Config) (lines : List StreamLine) (s : Stand) : Type 0 where
  pub told : List Told
  pub holds : Holds s.answers told
  pub ran : HasRun start config lines (record { told = told; lists = s.lists }) s.worker
  pub fed : HasFed lines s.feeder.fed

-- where a stream stands before its first line
pub record IsAtStart (config : Config) (s : Stand) : Type 0 where
  pub worker : s.worker ≡ new_worker
  pub lists : s.lists ≡ no_sources config.recent_size
  pub answers : Holds s.answers []

-- A stream ran these lines behind others: it stands behind all of them, and its feeder is the same.
pub record RunsOn
    (start : TableParts) (config : Config) (lines : List StreamLine) (before after : Stand)
    : Type 0 where
  pub queue : after.feeder.queue ≡ before.feeder.queue
  pub feeder : after.feeder.feeder ≡ before.feeder.feeder
  pub behind : (first : List StreamLine) → StandsBehind start config first before
      → StandsBehind start config (first ++ lines) after

-- ---- One line

-- what a sync was answered, and what its worker was told
abbrev pub SyncTold : ℕ → Worker → Worker → Told → Type 0
SyncTold number before after told =
    ((n : ℕ) × IsTold n before after × (told ≡ Says (live_sync_text number n)))
    ⊎ ((clash : Clash) × (after ≡ record before { refused = before.refused + 1 })
    × (told ≡ Denies clash))

-- A packet was answered from all that its worker saw by then, which goes on from what it knew.
pub record PacketTold
    (start : TableParts) (config : Config) (number : ℕ) (p : PacketLine)
    (before after : Worker) (lists left : RecentParts) (told : Told) : Type 0 where
  pub reads : Reads before after
  pub told_is : told
      ≡ packet_told number (length (records_of after.seen)) p
      (walk_after start config after.seen number p lists)
  pub lists_are : left ≡ (walk_after start config after.seen number p lists).lists
