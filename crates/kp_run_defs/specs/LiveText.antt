-- The text of a live run (this project's choice): the lines refused while reading, the journal,
-- the records, what each sync and each packet is answered in the order of their lines, how the run
-- ended, and the tables of the last record, IPv4 before IPv6. A packet is answered by the decision
-- on the objects that the record covers which its line shows, with the recent lists of its stream.
use Rattle.std.specs.Prelude.{ℕ, suc, Bool, not, ◌||◌, ◌&&◌, nat_lt, List, [], ◌∷◌, ◌++◌, length, get_or, count_by, is_some}
use Rattle.std.specs.List.{list_any, flat_map, fold, range_with_len}
use Rattle.std.specs.FinMap as finite
use Rattle.kp_types.specs.Setting.{table_families}
use Rattle.kp_types.specs.declared.rule.Edit.{Edit}
use Rattle.kp_choice_defs.specs.Recent.{RecentParts}
use Rattle.kp_door_defs.specs.Decision.{Decided, decision_of}
use Rattle.kp_table_defs.specs.Edits.{changes_between, is_write}
use Rattle.kp_table_defs.specs.Walk.{Walked}
use Rattle.kp_history_defs.specs.History.{objects_covered}
use Rattle.kp_history_defs.specs.Runs.{at_number}
use Rattle.kp_history_defs.specs.declared.fed.Fed.{Fed}
use Rattle.kp_restore_defs.specs.TableText.{table_text_of}
use Rattle.kp_text_defs.specs.declared.line_refusal.LineRefusal.TheVariants.{ChainClash}
use Rattle.kp_text_defs.specs.declared.packet.PacketLine.{PacketLine}
use Rattle.kp_text_defs.specs.Live.{event_text, record_text, live_sync_text, final_text}
use Rattle.kp_text_defs.specs.Refusals.{refusal_text}
use Rattle.kp_run_defs.specs.AnswerText.{draws_at, walk_at, answer_text}
use Rattle.kp_run_defs.specs.ReplayText.{no_sources}
use Rattle.kp_run_defs.specs.declared.live.StreamLine.{StreamLine}
use Rattle.kp_run_defs.specs.declared.live.Work.{Work}
use Rattle.kp_run_defs.specs.declared.live.Work.TheVariants.{Feeds, Syncs, Sends}
use Rattle.kp_run_defs.specs.declared.live.RefusedLine.{RefusedLine}
use Rattle.kp_run_defs.specs.LegalRuns.{Mark, Shows, Refuses, LiveRun, settings_in, events_in, records_in, final_clash, chains_at, is_sync, is_shown}

-- ---- Lines

-- a line that was refused while reading
abbrev pub refused_text : RefusedLine → List ℕ
refused_text line = refusal_text line.number line.why

-- the events of the journal, the first of which has this place
abbrev pub journal_text : List (List ℕ) → ℕ → List Fed → List ℕ
journal_text streams place [] = []
journal_text streams place (f ∷ fed) =
    event_text place (get_or streams f.feeder []) f.number f.event
    ++ journal_text streams (suc place) fed

-- the edits of the record at place n, from 0
abbrev pub edits_at : LiveRun → ℕ → List Edit
edits_at run n = changes_between (chains_at run n) (chains_at run (suc n))

-- the line of a record, by its place from 0, its events and its edits
abbrev pub record_line : ℕ → ℕ → List Edit → List ℕ
record_line n events edits =
    record_text (suc n) events (count_by is_write edits) (count_by (λ e. not (is_write e)) edits)

-- the line of the record at place n, from 0
abbrev pub record_text_at : LiveRun → ℕ → List ℕ
record_text_at run n = record_line n (get_or run.counts n 0) (edits_at run n)

-- the records
abbrev pub records_text : LiveRun → List ℕ
records_text run = flat_map (record_text_at run) (range_with_len 0 (records_in run))

-- ---- Answers

-- the decision on a packet by the objects that a record covers
abbrev pub decided_at : LiveRun → ℕ → ℕ → PacketLine → RecentParts → Decided
decided_at run record_number number p lists =
    decision_of (settings_in run) (objects_covered (events_in run) run.counts record_number)
    p.packet (draws_at number p.draws) lists

-- its walk through the table of the record
abbrev pub walked_at : LiveRun → ℕ → ℕ → PacketLine → RecentParts → Walked
walked_at run record_number number p lists =
    walk_at (λ at. finite.get (chains_at run record_number) at) run.reading.config.addresses
    number p lists

-- what a packet is answered
abbrev pub packet_answer : LiveRun → ℕ → ℕ → PacketLine → RecentParts → List ℕ
packet_answer run record_number number p lists =
    answer_text number record_number p (decided_at run record_number number p lists).verdict
    (walked_at run record_number number p lists).trail

-- how far the answers have come: their text, and the recent lists of each stream
pub record Answered : Type 0 where
  pub text : List ℕ
  pub lists : ℕ → RecentParts

-- before the first answer
abbrev pub nothing_answered : LiveRun → Answered
nothing_answered run = record {
  text = [];
  lists = λ stream. no_sources run.reading.config.recent_size;
}

-- one more text
abbrev pub with_answer : List ℕ → Answered → Answered
with_answer text a = record a { text = a.text ++ text }

-- a sync's record, or its refusal
abbrev pub sync_answer : ℕ → Mark → List ℕ
sync_answer number (Shows n) = live_sync_text number n
sync_answer number (Refuses clash) = refusal_text number (ChainClash clash)

-- a packet of a stream is answered, and may be remembered in the stream's recent lists
abbrev pub with_packet_at : LiveRun → ℕ → StreamLine → PacketLine → Answered → Answered
with_packet_at run record_number line p a = record {
  text = a.text ++ packet_answer run record_number line.number p (a.lists line.stream);
  lists = at_number a.lists line.stream
      (decided_at run record_number line.number p (a.lists line.stream)).lists;
}

-- a packet is answered from the record that its line shows
abbrev pub with_packet : LiveRun → Mark → StreamLine → PacketLine → Answered → Answered
with_packet run (Shows n) line p a = with_packet_at run n line p a
with_packet run (Refuses clash) line p a = a

-- what a line's work is answered
abbrev pub with_work : LiveRun → StreamLine → Work → Answered → Answered
with_work run line (Feeds events) a = a
with_work run line Syncs a = with_answer (sync_answer line.number (run.marks line.number)) a
with_work run line (Sends p) a = with_packet run (run.marks line.number) line p a

-- one more line
abbrev pub after_answer : LiveRun → Answered → StreamLine → Answered
after_answer run a line = with_work run line line.work a

-- what the lines are answered
abbrev pub answers_of : LiveRun → Answered
answers_of run = fold (after_answer run) (nothing_answered run) run.reading.lines

-- ---- The whole text

-- what stands before the tables
abbrev pub live_lines_text : LiveRun → List ℕ
live_lines_text run =
    flat_map refused_text run.reading.refused ++ journal_text run.reading.streams 1 run.journal
    ++ records_text run ++ (answers_of run).text ++ final_text (records_in run) (final_clash run)

-- the text of a run
abbrev pub live_text : LiveRun → List ℕ
live_text run =
    live_lines_text run
    ++ flat_map (λ family. table_text_of family (chains_at run (records_in run)))
    (table_families run.reading.config)

-- a line is a sync that is refused
abbrev pub is_refused_sync : LiveRun → StreamLine → Bool
is_refused_sync run line = is_sync line.work && not (is_shown (run.marks line.number))

-- a line was refused, or the sync that ends the run
abbrev pub is_refused_run : LiveRun → Bool
is_refused_run run =
    nat_lt 0 (length run.reading.refused)
    || (list_any (is_refused_sync run) run.reading.lines || is_some (final_clash run))
