-- The records that a hub handed out, and what is answered from them.
use Rattle.std.proofs.Common.{◌≡◌, ◌<◌, ◌≤◌, ◌+◌, ℕ, zero, suc, List, ◌++◌, map, length, take, get_or, refl, ap, sym, ◌∙◌, arith}
use Rattle.std.specs.Prelude.{Option, None, sum}
use Rattle.std.specs.List.{flat_map, range_with_len}
use Rattle.std.specs.FinMap.{get}
use Rattle.std.proofs.lemmas.List.{length-map}
use Rattle.std.proofs.lemmas.List.FromFn.{length-map-range_with_len}
use Rattle.std.proofs.lemmas.Option.{slice_get-get_or}
use Rattle.std.proofs.lemmas.Simd.{map-map}
use Rattle.kp_lemmas.proofs.Options.{none_of}
use Rattle.kp_types.specs.Setting.{Settings}
use Rattle.kp_types.specs.declared.chain.Clash.{Clash}
use Rattle.kp_types.specs.declared.event.Event.{Event}
use Rattle.kp_types.specs.declared.sync.SyncRecord.{SyncRecord}
use Rattle.kp_choice_defs.specs.Recent.{RecentParts}
use Rattle.kp_choice_defs.specs.Settings.{settings_of}
use Rattle.kp_table_defs.specs.Rebuild.{Chains, TableParts, clash_of}
use Rattle.kp_history_defs.specs.declared.fed.Fed.{Fed}
use Rattle.kp_history_defs.specs.History.{chains_covered, objects_covered, record_at, table_from}
use Rattle.kp_history_defs.specs.Runs.{events_of}
use Rattle.kp_history.specs.Parts.{HasExactHistory}
use Rattle.kp_history_laws.proofs.Histories.{first_no_clash}
use Rattle.kp_history_laws.specs.HistoryLaws.{ExactTables}
use Rattle.kp_walk_laws.specs.Laws.{Agree, ProductDecides}
use Rattle.kp_text_defs.specs.declared.packet.PacketLine.{PacketLine}
use Rattle.kp_run_defs.specs.AnswerText.{draws_at, walk_at}
use Rattle.kp_run_defs.specs.LegalRuns.{LiveRun, Mark, HasTable, CoverJournal, final_clash, records_in}
use Rattle.kp_run_defs.specs.LiveLines.{Reading}
use Rattle.kp_run_defs.specs.LiveText.{decided_at, walked_at, record_text_at, records_text}
use Rattle.kp_hub.specs.Finishing.{plane_told, records_told}
use Rattle.kp_hub.specs.State.{first_table}
use Rattle.kp_hub.specs.Taken.{note_of}
use Rattle.kp_hub.specs.declared.notes.RecordNote.{RecordNote}
use Rattle.kp_live.specs.Runs.{note_text, notes_text}
use Rattle.kp_live.specs.Streams.{walk_from}
use Rattle.kp_live.proofs.Telling.{Walks}

-- notes of records in a row
noted_by : (note : ℕ → RecordNote) (text : ℕ → List ℕ) → ((n : ℕ) → note_text n (note n) ≡ text n)
    → (from n : ℕ)
    → notes_text from (map note (range_with_len from n)) ≡ flat_map text (range_with_len from n)
noted_by note text is from zero = refl
noted_by note text is from (suc n) =
    λ i. is from i ++ noted_by note text is (from + 1) n i

-- the run of what a hub handed out, where lines show this
abbrev pub run_of : Reading → List Fed → List RecordNote → (ℕ → Mark) → LiveRun
run_of reading journal notes marks = record {
  reading = reading;
  journal = journal;
  counts = map (λ n. n.events) notes;
  marks = marks;
}

module _ (reading : Reading) (journal : List Fed) (notes : List RecordNote)
    (exact : HasExactHistory (plane_told reading.config journal notes)) where
  abbrev settings : Settings
  settings = settings_of reading.config

  abbrev events : List Event
  events = events_of journal

  abbrev counts : List ℕ
  counts = map (λ (n : RecordNote). n.events) notes

  abbrev records : List SyncRecord
  records = records_told reading.config journal notes

  -- there are as many records as notes
  pub records_count : length records ≡ length notes
  records_count =
      length-map-range_with_len (record_at settings events counts) 0 (length counts)
      ∙ length-map notes (λ (n : RecordNote). n.events)

  -- ---- Tables

  later_table : (n : ℕ) → n < length notes
      → clash_of settings (objects_covered events counts (suc n)) ≡ None
  later_table n lt =
      let r = record_at settings events counts 0 in
      let there = slice_get-get_or records n r (omega (arith, lt, records_count)) in
      ap (λ cs. clash_of settings (objects_covered events cs (suc n))) (sym exact.counted)
      ∙ (exact.exact.each n (get_or records n r) there).has_no_clash

  no_clash_at : (n : ℕ) → n ≤ length notes
      → clash_of settings (objects_covered events counts n) ≡ None
  no_clash_at zero le =
      first_no_clash settings
  no_clash_at (suc n) le = later_table n (omega (arith, le))

  pub have_tables : (marks : ℕ → Mark) (n : ℕ) → n ≤ records_in (run_of reading journal notes marks)
      → HasTable (run_of reading journal notes marks) n
  have_tables marks n le =
      no_clash_at n (omega (arith, le, length-map notes (λ (x : RecordNote). x.events)))

  pub cover_journal : (marks : ℕ → Mark) (clash : Option Clash)
      → clash ≡ final_clash (run_of reading journal notes marks)
      → (clash ≡ None → sum counts ≡ length journal)
      → CoverJournal (run_of reading journal notes marks)
  cover_journal marks clash is covers =
      let long = length-map journal (λ (f : Fed). f.event) in record {
        within =
            omega (arith, ap sum (sym exact.counted), exact.exact.within, long);
        all = λ none. covers (is ∙ none_of (final_clash (run_of reading journal notes marks)) none);
      }

  -- ---- Walks

  pub walks_decide : ExactTables → ProductDecides → (start : TableParts)
      → start ≡ first_table reading.config → (marks : ℕ → Mark)
      → Walks start reading.config records (run_of reading journal notes marks)
  walks_decide tables decides start is marks =
      let chains_are : (n : ℕ) → n ≤ length records
      → (table_from start (take n records)).chains ≡ chains_covered settings events counts n =
      λ n le. ap (λ t. (table_from t (take n records)).chains) is
      ∙ tables settings events records n exact.exact le
      ∙ ap (λ cs. chains_covered settings events cs n) exact.counted in
      let walks : (n number : ℕ) (p : PacketLine) (lists : RecentParts) → n ≤ length records
      → walk_from start reading.config records n number p lists
      ≡ walked_at (run_of reading journal notes marks) n number p lists =
      λ n number p lists le.
      ap (λ (c : Chains). walk_at (get c) reading.config.addresses number p lists)
      (chains_are n le) in
      let agree : (n number : ℕ) (p : PacketLine) (lists : RecentParts) → n ≤ length records
      → Agree (walked_at (run_of reading journal notes marks) n number p lists)
      (decided_at (run_of reading journal notes marks) n number p lists) =
      λ n number p lists le.
      decides reading.config (objects_covered events counts n) p.packet
      (draws_at number p.draws) lists (no_clash_at n (omega (arith, le, records_count))) in
      record {
        verdict = λ n number p lists le.
            ap (λ w. w.verdict) (walks n number p lists le)
            ∙ (agree n number p lists le).verdict;
        trail = λ n number p lists le. ap (λ w. w.trail) (walks n number p lists le);
        lists = λ n number p lists le.
            ap (λ w. w.lists) (walks n number p lists le) ∙ (agree n number p lists le).lists;
      }

  -- ---- The records' text

  pub notes_print : (marks : ℕ → Mark) → notes ≡ map note_of records
      → notes_text 0 notes ≡ records_text (run_of reading journal notes marks)
  notes_print marks are =
      ap (notes_text 0)
      (are ∙ map-map note_of (record_at settings events counts) (range_with_len 0 (length counts)))
      ∙ noted_by (λ n. note_of (record_at settings events counts n))
      (record_text_at (run_of reading journal notes marks)) (λ n. refl) 0 (length counts)
