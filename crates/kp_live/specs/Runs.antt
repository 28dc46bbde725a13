-- What a run prints of its lines, by what each stream was answered; and the run that it is, by what
-- its hub handed out.
use Rattle.std.specs.Prelude.{◌≡◌, ◌≤◌, ◌+◌, ◌&&◌, ◌||◌, ℕ, suc, nat_lt, Bool, true, false, cond, List, [], ◌∷◌, ◌++◌, map, length, Option, Some, is_some, IfSome, slice_get, bytes_eq}
use Rattle.std.specs.List.{flat_map, fold, list_any}
use Rattle.kp_base.specs.declared.config.Config.{Config}
use Rattle.kp_types.specs.Setting.{table_families}
use Rattle.kp_types.specs.declared.chain.Clash.{Clash}
use Rattle.kp_choice_defs.specs.Names.{same_chain_key}
use Rattle.kp_text_defs.specs.declared.line_refusal.LineRefusal.TheVariants.{ChainClash}
use Rattle.kp_text_defs.specs.Live.{record_text, final_text}
use Rattle.kp_text_defs.specs.Printed.{packet_text}
use Rattle.kp_text_defs.specs.Refusals.{refusal_text}
use Rattle.kp_table_defs.specs.Rebuild.{TableParts}
use Rattle.kp_history_defs.specs.Runs.{at_number}
use Rattle.kp_history_defs.specs.declared.fed.Fed.{Fed}
use Rattle.kp_restore_defs.specs.TableText.{table_text_of}
use Rattle.kp_run_defs.specs.LiveLines.{Reading, lines_of_stream}
use Rattle.kp_run_defs.specs.LiveText.{refused_text, journal_text}
use Rattle.kp_run_defs.specs.declared.live.StreamLine.{StreamLine}
use Rattle.kp_run_defs.specs.declared.live.Work.{Work}
use Rattle.kp_run_defs.specs.declared.live.Work.TheVariants.{Feeds, Syncs, Sends}
use Rattle.kp_feed.specs.Passes.{Feeder, QueueId}
use Rattle.kp_hub.specs.Known.{Worker}
use Rattle.kp_hub.specs.declared.notes.RecordNote.{RecordNote}
use Rattle.kp_hub.specs.declared.notes.Refusal.{Refusal}
use Rattle.kp_live.specs.Stands.{Stand}
use Rattle.kp_live.specs.Streams.{StandsBehind}
use Rattle.kp_live.specs.Told.{Told, Says, Decides, Denies, Holds, HoldsOn}
use Rattle.kp_live.specs.declared.answers.Answers.{Answers}
use Rattle.kp_live.specs.declared.answers.ToldOn.{ToldOn}

-- ---- What lines print

-- two chains of one name are the same two
abbrev pub same_clash : Clash → Clash → Bool
same_clash a b =
    bytes_eq a.name b.name
    && (same_chain_key a.first b.first && same_chain_key a.second b.second)

-- the first refusal's clash, if there is one
abbrev pub clash_of_first : Clash → List Refusal → Clash
clash_of_first clash [] = clash
clash_of_first clash (r ∷ refusals) = r.clash

-- What a refused sync prints: its clash, where a refusal that was kept has it, else the first one's.
abbrev pub kept_clash : List Refusal → Clash → Clash
kept_clash refusals clash =
    cond (list_any (λ r. same_clash r.clash clash) refusals) clash (clash_of_first clash refusals)

-- what a line prints
abbrev pub told_text : List Refusal → ℕ → Told → List ℕ
told_text refusals number (Says bytes) = bytes
told_text refusals number (Decides sync verdict) = packet_text number sync verdict
told_text refusals number (Denies clash) =
    refusal_text number (ChainClash (kept_clash refusals clash))

-- a line prints a refusal
abbrev pub is_denial : Told → Bool
is_denial (Says bytes) = false
is_denial (Decides sync verdict) = false
is_denial (Denies clash) = true

-- how far the telling has come: the text, whether a sync was refused, and what of each stream's
-- answers is left
pub record Telling : Type 0 where
  pub text : List ℕ
  pub denied : Bool
  pub left : ℕ → List Told

-- before the first line
abbrev pub nothing_printed : (ℕ → List Told) → Telling
nothing_printed told = record { text = []; denied = false; left = told }

-- a line prints the next answer of its stream
abbrev pub with_next : List Refusal → StreamLine → List Told → Telling → Telling
with_next refusals line [] t = t
with_next refusals line (next ∷ rest) t = record {
  text = t.text ++ told_text refusals line.number next;
  denied = t.denied || is_denial next;
  left = at_number t.left line.stream rest;
}

-- what a line's work prints
abbrev pub with_line : List Refusal → StreamLine → Work → Telling → Telling
with_line refusals line (Feeds events) t = t
with_line refusals line Syncs t = with_next refusals line (t.left line.stream) t
with_line refusals line (Sends p) t = with_next refusals line (t.left line.stream) t

-- a line is answered that syncs or sends a packet
abbrev pub is_answered : Work → Bool
is_answered (Feeds events) = false
is_answered Syncs = true
is_answered (Sends p) = true

-- one more line
abbrev pub after_line : List Refusal → Telling → StreamLine → Telling
after_line refusals t line = with_line refusals line line.work t

-- what lines print, by the answers of each stream
abbrev pub telling : List Refusal → (ℕ → List Told) → List StreamLine → Telling
telling refusals told lines = fold (after_line refusals) (nothing_printed told) lines

-- these are the answers of each stream, by its place; beyond them there are none
pub record AreOf (told : ℕ → List Told) (answers : List Answers) : Type 0 where
  pub each : (i : ℕ) → IfSome (slice_get answers i) (λ a. Holds a (told i))
  pub none : (i : ℕ) → length answers ≤ i → told i ≡ []

-- and these are left of them
pub record AreLeft (told : ℕ → List Told) (left : List ToldOn) : Type 0 where
  pub each : (i : ℕ) → IfSome (slice_get left i) (λ t. HoldsOn t (told i))
  pub none : (i : ℕ) → length left ≤ i → told i ≡ []

-- the line of a record, by its place from 0 and its note
abbrev pub note_text : ℕ → RecordNote → List ℕ
note_text n note = record_text (suc n) note.events note.written note.removed

-- the lines of records, the first of which has this place
abbrev pub notes_text : ℕ → List RecordNote → List ℕ
notes_text n [] = []
notes_text n (note ∷ notes) = note_text n note ++ notes_text (n + 1) notes

-- What a run prints before what lines were answered: the lines that were refused while they were
-- read, the journal and the records.
abbrev pub head_text : Reading → List Fed → List RecordNote → List ℕ
head_text reading journal notes =
    flat_map refused_text reading.refused ++ journal_text reading.streams 1 journal
    ++ notes_text 0 notes

-- and what it prints after that: how it ended, and the tables of each family of the node
abbrev pub end_text : Config → ℕ → Option Clash → TableParts → List ℕ
end_text config records clash table =
    final_text records clash
    ++ flat_map (λ family. table_text_of family table.chains) (table_families config)

-- whether something that a run prints is a refusal
abbrev pub prints_refusal : Reading → Bool → Option Clash → Bool
prints_refusal reading denied clash =
    nat_lt 0 (length reading.refused) || (denied || is_some clash)

-- ---- Streams that have ended

-- Where the stream at a place stands at its end.
pub record StandsAtEnd
    (start : TableParts) (reading : Reading) (queue : QueueId) (place : ℕ) (s : Stand)
    : Type 0 where
  pub behind : StandsBehind start reading.config (lines_of_stream reading place) s
  pub queue_is : s.feeder.queue ≡ queue
  pub feeder_is : s.feeder.feeder ≡ place

-- What is left of the streams of a reading that have ended: their feeders, workers and answers, of
-- each in the order of their places.
pub record HaveEnded
    (start : TableParts) (reading : Reading) (queue : QueueId) (streams : ℕ)
    (feeders : List Feeder) (workers : List Worker) (answers : List Answers) : Type 0 where
  pub stands : List Stand
  pub count : length stands ≡ streams
  pub feeders_are : feeders ≡ map (λ s. s.feeder) stands
  pub workers_are : workers ≡ map (λ s. s.worker) stands
  pub answers_are : answers ≡ map (λ s. s.answers) stands
  pub each : (place : ℕ) (s : Stand) → slice_get stands place ≡ Some s
      → StandsAtEnd start reading queue place s
