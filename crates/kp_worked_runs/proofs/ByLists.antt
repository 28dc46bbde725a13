-- What a live run prints, where the maps of objects and of chains are given as lists: in this form
-- it can be worked out.
use Rattle.std.proofs.Common.{◌≡◌, ℕ, suc, List, [], ◌∷◌, ◌++◌, take, map, filter, filter_map, not, option_map, get_or, slice_get, Option, ◌==◌, refl, sym, ap, ◌∙◌}
use Rattle.std.specs.List.{flat_map, fold, range_with_len}
use Rattle.std.specs.FinMap.{find, from_entries}
use Rattle.std.proofs.lemmas.Grind.{flat_map-append}
use Rattle.kp_base.specs.declared.address.Family.{Family}
use Rattle.kp_types.proofs.ChainOrder.{chain_total}
use Rattle.kp_types.specs.Places.{chain_cmp, table_place, nat_of, filter_of}
use Rattle.kp_types.specs.Setting.{config_of_family, table_families}
use Rattle.kp_types.specs.declared.chain.ChainAt.{ChainAt}
use Rattle.kp_types.specs.declared.chain.Clash.{Clash}
use Rattle.kp_types.specs.declared.chain.TableName.{TableName}
use Rattle.kp_types.specs.declared.event.Event.{Event}
use Rattle.kp_types.specs.declared.rule.Rule.{Rule}
use Rattle.kp_choice_defs.specs.Recent.{RecentParts}
use Rattle.kp_object_defs.specs.Objects.{objects_after}
use Rattle.kp_object_defs.specs.Order.{in_order}
use Rattle.kp_object_defs.specs.PortInfo.{PortInfo, infos_by_family}
use Rattle.kp_object_defs.proofs.InOrder.{entries_in_order}
use Rattle.kp_door_defs.specs.Decision.{Decided, decision_among}
use Rattle.kp_table_defs.specs.Edits.{changes_between}
use Rattle.kp_table_defs.specs.Ranks.{built_in_chains, is_built_in}
use Rattle.kp_table_defs.specs.Rebuild.{clash_of, clashes_among, rows_of_families}
use Rattle.kp_history_defs.specs.History.{covered, objects_covered}
use Rattle.kp_history_defs.specs.Runs.{at_number}
use Rattle.kp_restore_defs.specs.TableText.{section_of, table_lines, table_text_of, text_of_lines}
use Rattle.kp_text_defs.specs.declared.packet.PacketLine.{PacketLine}
use Rattle.kp_text_defs.specs.Live.{final_text}
use Rattle.kp_run_defs.specs.declared.live.StreamLine.{StreamLine}
use Rattle.kp_run_defs.specs.declared.live.Work.{Work}
use Rattle.kp_run_defs.specs.declared.live.Work.TheVariants.{Feeds, Syncs, Sends}
use Rattle.kp_run_defs.specs.AnswerText.{draws_at, answer_text}
use Rattle.kp_run_defs.specs.LegalRuns.{Mark, Shows, Refuses, LiveRun, settings_in, events_in, records_in, final_clash, chains_at}
use Rattle.kp_run_defs.specs.LiveText.{Answered, walked_at, with_packet_at, with_packet, with_work, with_answer, sync_answer, answers_of, nothing_answered, refused_text, journal_text, record_line, record_text_at, live_lines_text, live_text}
use Rattle.kp_worked.proofs.Changes.{Rows, found, changes_listed, changes_are}
use Rattle.kp_worked.proofs.Events.{infos_after, infos_after_are}

-- ---- Tables

-- the section of a table, by a look-up and the chains in order
abbrev section_by : (ChainAt → Option (List Rule)) → Rows → TableName → List (List ℕ)
section_by chain_at rows table =
    section_of table
    (filter_map
    (λ name.
    option_map (λ rules. (name, rules)) (chain_at (record { table = table; chain = name })))
    (built_in_chains table))
    (map (λ e. (e.0.chain, e.1))
    (filter (λ e. not (is_built_in table e.0.chain))
    (filter (λ e. table_place e.0.table == table_place table) rows)))

abbrev table_by : Family → (ChainAt → Option (List Rule)) → Rows → List (List ℕ)
table_by family chain_at rows =
    section_by chain_at rows (nat_of family) ++ section_by chain_at rows (filter_of family)

-- the lines of a family's tables that are given as a list of chains
abbrev table_listed : Rows → Family → List (List ℕ)
table_listed rows family = table_by family (λ q. find chain_cmp q rows) (in_order chain_cmp rows)

table_is : (family : Family) (rows : Rows)
    → table_lines family (from_entries rows) ≡ table_listed rows family
table_is family rows = λ i. table_by family (found rows i) (entries_in_order chain_total rows i)

-- texts of lines, one after the other
texts_are : (lines : Family → List (List ℕ)) (families : List Family)
    → flat_map (λ family. text_of_lines (lines family)) families
    ≡ text_of_lines (flat_map lines families)
texts_are lines [] = refl
texts_are lines (family ∷ families) =
    ap (λ more. text_of_lines (lines family) ++ more) (texts_are lines families)
    ∙ sym (flat_map-append (λ line. line ++ 10 ∷ []) (lines family) (flat_map lines families))

-- ---- Runs

module _ (run : LiveRun) where
  -- what each family knows of the ports after events
  abbrev infos_by : List Event → Family → List PortInfo
  infos_by events family =
      infos_after family (config_of_family family (settings_in run).config) events

  infos_by_are : (events : List Event) (family : Family)
      → infos_by_family (settings_in run) (objects_after events) family ≡ infos_by events family
  infos_by_are events family =
      infos_after_are family (config_of_family family (settings_in run).config) events

  -- what it knows of them at a record
  abbrev infos_at : ℕ → Family → List PortInfo
  infos_at n family = infos_by (covered (events_in run) run.counts n) family

  infos_are : (n : ℕ) (family : Family)
      → infos_by_family (settings_in run) (objects_covered (events_in run) run.counts n) family
      ≡ infos_at n family
  infos_are n family = infos_by_are (covered (events_in run) run.counts n) family

  -- the chains of its tables
  abbrev pub rows_at : ℕ → Rows
  rows_at n = rows_of_families (settings_in run) (infos_at n)

  chains_are : (n : ℕ) → chains_at run n ≡ from_entries (rows_at n)
  chains_are n =
      λ i. from_entries (rows_of_families (settings_in run) (λ family. infos_are n family i))

  -- the clash of what is known of the ports after events
  abbrev pub clash_by : List Event → Option Clash
  clash_by events = slice_get (clashes_among (settings_in run) (infos_by events)) 0

  clash_by_is : (events : List Event)
      → clash_of (settings_in run) (objects_after events) ≡ clash_by events
  clash_by_is events =
      λ i. slice_get (clashes_among (settings_in run) (λ family. infos_by_are events family i)) 0

  pub clash_is : (n : ℕ)
      → clash_of (settings_in run) (objects_covered (events_in run) run.counts n)
      ≡ clash_by (covered (events_in run) run.counts n)
  clash_is n = clash_by_is (covered (events_in run) run.counts n)

  -- the same after some first events
  pub clash_after : (n : ℕ)
      → clash_of (settings_in run) (objects_after (take n (events_in run)))
      ≡ clash_by (take n (events_in run))
  clash_after n = clash_by_is (take n (events_in run))

  pub final_is : final_clash run ≡ clash_by (events_in run)
  final_is = clash_by_is (events_in run)

  -- ---- Records

  -- the line of a record
  abbrev record_listed : ℕ → List ℕ
  record_listed n =
      record_line n (get_or run.counts n 0) (changes_listed (rows_at n) (rows_at (suc n)))

  record_is : (n : ℕ) → record_text_at run n ≡ record_listed n
  record_is n =
      ap (record_line n (get_or run.counts n 0))
      ((λ i. changes_between (chains_are n i) (chains_are (suc n) i))
      ∙ changes_are (rows_at n) (rows_at (suc n)))

  -- ---- Answers

  -- the decision on a packet at a record
  abbrev decided_listed : ℕ → ℕ → PacketLine → RecentParts → Decided
  decided_listed n number p lists =
      decision_among (settings_in run) (infos_at n) p.packet (draws_at number p.draws) lists

  -- a packet's answer, by the decision on it
  abbrev answered_by : Decided → ℕ → StreamLine → PacketLine → Answered → Answered
  answered_by decided n line p a = record {
    text = a.text ++ answer_text line.number n p decided.verdict
        (walked_at run n line.number p (a.lists line.stream)).trail;
    lists = at_number a.lists line.stream decided.lists;
  }

  packet_is : (n : ℕ) (line : StreamLine) (p : PacketLine) (a : Answered)
      → with_packet_at run n line p a
      ≡ answered_by (decided_listed n line.number p (a.lists line.stream)) n line p a
  packet_is n line p a =
      λ i. answered_by (decision_among (settings_in run) (λ family. infos_are n family i) p.packet
      (draws_at line.number p.draws) (a.lists line.stream)) n line p a

  -- what a packet is answered whose line shows this
  abbrev shown_listed : Mark → StreamLine → PacketLine → Answered → Answered
  shown_listed (Shows n) line p a =
      answered_by (decided_listed n line.number p (a.lists line.stream)) n line p a
  shown_listed (Refuses clash) line p a = a

  shown_is : (mark : Mark) (line : StreamLine) (p : PacketLine) (a : Answered)
      → with_packet run mark line p a ≡ shown_listed mark line p a
  shown_is (Shows n) line p a = packet_is n line p a
  shown_is (Refuses clash) line p a = refl

  -- what a line's work is answered
  abbrev work_listed : StreamLine → Work → Answered → Answered
  work_listed line (Feeds events) a = a
  work_listed line Syncs a = with_answer (sync_answer line.number (run.marks line.number)) a
  work_listed line (Sends p) a = shown_listed (run.marks line.number) line p a

  work_is : (line : StreamLine) (work : Work) (a : Answered)
      → with_work run line work a ≡ work_listed line work a
  work_is line (Feeds events) a = refl
  work_is line Syncs a = refl
  work_is line (Sends p) a = shown_is (run.marks line.number) line p a

  -- what the lines are answered
  abbrev answers_listed : Answered
  answers_listed =
      fold (λ a line. work_listed line line.work a) (nothing_answered run) run.reading.lines

  answers_are : answers_of run ≡ answers_listed
  answers_are =
      λ i. fold (λ a line. work_is line line.work a i) (nothing_answered run) run.reading.lines

  -- ---- The text

  -- what stands before the tables
  abbrev pub lines_listed : List ℕ
  lines_listed =
      flat_map refused_text run.reading.refused ++ journal_text run.reading.streams 1 run.journal
      ++ flat_map record_listed (range_with_len 0 (records_in run)) ++ answers_listed.text
      ++ final_text (records_in run) (clash_by (events_in run))

  lines_are : live_lines_text run ≡ lines_listed
  lines_are =
      λ i. flat_map refused_text run.reading.refused
      ++ journal_text run.reading.streams 1 run.journal
      ++ flat_map (λ n. record_is n i) (range_with_len 0 (records_in run)) ++ (answers_are i).text
      ++ final_text (records_in run) (final_is i)

  -- the lines of the last tables
  abbrev tables_listed : List (List ℕ)
  tables_listed =
      flat_map (table_listed (rows_at (records_in run))) (table_families run.reading.config)

  tables_are : flat_map (λ family. table_text_of family (chains_at run (records_in run)))
      (table_families run.reading.config) ≡ text_of_lines tables_listed
  tables_are =
      (λ i. flat_map (λ family. text_of_lines
      ((ap (table_lines family) (chains_are (records_in run))
      ∙ table_is family (rows_at (records_in run))) i)) (table_families run.reading.config))
      ∙ texts_are (table_listed (rows_at (records_in run))) (table_families run.reading.config)

  -- a run prints the lines before its tables and those of its tables
  pub prints : (lines table : List (List ℕ)) → lines_listed ≡ text_of_lines lines
      → tables_listed ≡ table → live_text run ≡ text_of_lines (lines ++ table)
  prints lines table before is =
      (λ i. (lines_are ∙ before) i ++ (tables_are ∙ ap text_of_lines is) i)
      ∙ sym (flat_map-append (λ line. line ++ 10 ∷ []) lines table)
