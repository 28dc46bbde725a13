-- What a hub hands out of streams that have ended is a legal run.
use Rattle.std.proofs.Common.{◌≡◌, ◌<◌, ◌≤◌, ◌+◌, ◌==◌, ◌&&◌, ◌||◌, ◌⊎◌, not, inl, inr, ℕ, zero, suc, Bool, true, false, cond, nat_lt, List, [], ◌∷◌, ◌++◌, map, length, refl, ap, sym, subst, ◌∙◌, arith, append_assoc}
use Rattle.std.specs.Prelude.{Option, Some, None, IfSome, is_some, count_by, slice_get, get_or, sum, option_map, codes, bytes_eq}
use Rattle.std.specs.List.{AllByRecursion, filter, flat_map, fold, list_all, list_any, range_with_len}
use Rattle.std.proofs.lemmas.Bool.{eqb-true, eq-eqb}
use Rattle.std.proofs.lemmas.Bool.Decides.{nat_tests}
use Rattle.std.proofs.lemmas.List.{length-map}
use Rattle.std.proofs.lemmas.Slice.Eq.{bytes_eq-Decides}
use Rattle.std.proofs.lemmas.Option.{get_or_from_slice_get, slice_get_cases, slice_get-map}
use Rattle.kp_lemmas.proofs.ListFacts.{all_weaker}
use Rattle.kp_pack_laws.proofs.Shuffles.{all_unmapped}
use Rattle.kp_types.specs.Setting.{table_families}
use Rattle.kp_types.specs.declared.chain.Clash.{Clash}
use Rattle.kp_types.specs.declared.sync.SyncRecord.{SyncRecord}
use Rattle.kp_choice_defs.specs.Names.{same_chain_key}
use Rattle.kp_choice_defs.proofs.ChainKeys.{one_chain_key}
use Rattle.kp_table_defs.specs.Rebuild.{TableParts}
use Rattle.kp_history_defs.specs.declared.fed.Fed.{Fed}
use Rattle.kp_history_defs.specs.Runs.{is_of_stream, numbered}
use Rattle.kp_history_laws.specs.HistoryLaws.{ExactTables}
use Rattle.kp_walk_laws.specs.Laws.{ProductDecides}
use Rattle.kp_restore_defs.specs.TableText.{table_text_of}
use Rattle.kp_text_defs.specs.Live.{final_text}
use Rattle.kp_feed.specs.Feeding.{Delivers}
use Rattle.kp_feed.specs.Passes.{Feeder, QueueId}
use Rattle.kp_run_defs.specs.CountedRuns as by_counts
use Rattle.kp_run_defs.specs.LegalRuns as legal
use Rattle.kp_run_defs.specs.CountedRuns.{IsCountedRun, is_accepted_sync, nothing_seen}
use Rattle.kp_run_defs.specs.LegalRuns.{LiveRun, Mark, Shows, Refuses, HasWholeStream, final_clash, is_shown, is_sync, last_syncs, records_in}
use Rattle.kp_run_defs.specs.LiveLines.{Reading, events_fed, events_of_stream, is_line_of, running_streams}
use Rattle.kp_run_defs.specs.LiveText as text
use Rattle.kp_run_defs.specs.declared.live.StreamLine.{StreamLine}
use Rattle.kp_run_defs.specs.ReplayText.{no_sources}
use Rattle.kp_hub.specs.Finishing.{records_told}
use Rattle.kp_hub.specs.Known.{Worker}
use Rattle.kp_hub.specs.State.{IsRefusal, first_table}
use Rattle.kp_hub.specs.declared.notes.RecordNote.{RecordNote}
use Rattle.kp_hub.specs.declared.notes.Refusal.{Refusal}
use Rattle.kp_live.specs.Handed.{HandsOut, IsRunOf}
use Rattle.kp_live.specs.Runs.{AreOf, end_text, head_text, notes_text, StandsAtEnd, kept_clash, same_clash, clash_of_first, telling, nothing_printed}
use Rattle.kp_live.specs.Stands.{Stand}
use Rattle.kp_live.specs.Streams.{Shown, GoesOnFromAll, is_accepted, is_denied, nothing_told, seen_from}
use Rattle.kp_live.specs.Told.{Told, Holds}
use Rattle.kp_live.proofs.Journals.{all_delivered, all_below}
use Rattle.kp_live.proofs.Legal.{all_both, all_by_stream, all_filter, count_cons, first_true, fits_has, second_true, any_refused, count_accepted, mark_at, marks_found, seen_fits, ShowsIt}
use Rattle.kp_live.proofs.Merging.{line_of, is_shown_of, merge, Merges}
use Rattle.kp_live.proofs.Readings.{AreRising, IsRead}
use Rattle.kp_live.proofs.Records.{run_of, have_tables, cover_journal, records_count, walks_decide, notes_print}
use Rattle.kp_live.proofs.Telling.{HasRecord, IsOfRun, all_alike, settled, told_from, told_is}
use Rattle.kp_live.proofs.Totals.{total_same, list_total, sum_by_key}

-- a fact of each element, at a place
pub all_at : {A : Type 0} (P : A → Type 0) (xs : List A) (i : ℕ) (x : A) → AllByRecursion P xs
    → slice_get xs i ≡ Some x → P x
all_at P [] i x all is = absurd (cc is)
all_at P (y ∷ xs) zero x all is = subst P (cc is) all.0
all_at P (y ∷ xs) (suc i) x all is = all_at P xs i x all.1 is

other_stream : (i j : ℕ) (b : Bool) → (i == j) ≡ b → j < i → (i == j) ≡ false
other_stream i j true is lt = absurd (omega (arith, lt, eqb-true i j is))
other_stream i j false is lt = is

-- no line is of a stream that there isn't
none_of : (n i : ℕ) (lines : List StreamLine)
    → AllByRecursion (λ (l : StreamLine). l.stream < n) lines → n ≤ i
    → [] ≡ filter (is_line_of i) lines
none_of n i [] all le = refl
none_of n i (line ∷ lines) all le =
    none_of n i lines all.1 le
    ∙ ap (λ b. cond b (line ∷ filter (is_line_of i) lines) (filter (is_line_of i) lines))
    (sym (other_stream i line.stream (i == line.stream) refl (omega (arith, all.0, le))))

-- ---- Each stream

module _ (reading : Reading) (start : TableParts) (queue : QueueId) (stands : List Stand)
    (each : (place : ℕ) (s : Stand) → slice_get stands place ≡ Some s
    → StandsAtEnd start reading queue place s) where
  -- whether a stream is at a place
  abbrev pub IsThere : ℕ → Type 0
  IsThere i =
      ((s : Stand) × (i < length stands) × (slice_get stands i ≡ Some s) × (get_or stands i s ≡ s))
      ⊎ ((length stands ≤ i) × (slice_get stands i ≡ None))

  -- what its lines show, what they were told, and what holds of both
  abbrev pub shown_by : (i : ℕ) → IsThere i → List Shown
  shown_by i (inl one) = (each i one.0 one.2).behind.ran.shown
  shown_by i (inr past) = []

  abbrev pub told_by : (i : ℕ) → IsThere i → List Told
  told_by i (inl one) = (each i one.0 one.2).behind.told
  told_by i (inr past) = []

  abbrev pub shown_at : ℕ → List Shown
  shown_at i = shown_by i (slice_get_cases stands i).1

  abbrev pub told_at : ℕ → List Told
  told_at i = told_by i (slice_get_cases stands i).1

  lines_by : (read : IsRead reading) → length reading.streams ≤ length stands → (i : ℕ)
      (there : IsThere i)
      → map line_of (shown_by i there) ≡ filter (is_line_of i) reading.lines
  lines_by read few i (inl one) = (each i one.0 one.2).behind.ran.lines_are
  lines_by read few i (inr past) =
      none_of (length reading.streams) i reading.lines read.places (omega (arith, few, past.0))

  pub lines_at : IsRead reading → length reading.streams ≤ length stands → (i : ℕ)
      → map line_of (shown_at i) ≡ filter (is_line_of i) reading.lines
  lines_at read few i = lines_by read few i (slice_get_cases stands i).1

  holds_by : (i : ℕ) (there : IsThere i)
      → IfSome (option_map (λ (s : Stand). s.answers) (slice_get stands i))
      (λ a. Holds a (told_by i there))
  holds_by i (inl one) =
      subst (λ o. IfSome (option_map (λ (s : Stand). s.answers) o)
      (λ a. Holds a (each i one.0 one.2).behind.told)) (sym one.2)
      (each i one.0 one.2).behind.holds
  holds_by i (inr past) =
      subst (λ o. IfSome (option_map (λ (s : Stand). s.answers) o) (λ a. Holds a [])) (sym past.1) tt

  past_by : (i : ℕ) (there : IsThere i) → length stands ≤ i → told_by i there ≡ []
  past_by i (inl one) le = absurd (omega (arith, le, one.1))
  past_by i (inr past) le = refl

  pub answers_at : AreOf told_at (map (λ (s : Stand). s.answers) stands)
  answers_at = record {
    each = λ i.
        subst (λ o. IfSome o (λ a. Holds a (told_at i)))
        (sym (slice_get-map (λ (s : Stand). s.answers) stands i))
        (holds_by i (slice_get_cases stands i).1);
    none = λ i le.
        past_by i (slice_get_cases stands i).1
        (omega (arith, le, length-map stands (λ (s : Stand). s.answers)));
  }

  module _ (records : List SyncRecord)
      (met : AllByRecursion (λ (s : Stand). GoesOnFromAll records s.worker) stands) where
    -- what a stream was told is what its lines show
    told_shown_by : (i : ℕ) (there : IsThere i)
        → told_by i there
        ≡ told_from start reading.config records (no_sources reading.config.recent_size)
        (shown_by i there)
    told_shown_by i (inl one) =
        let ran = (each i one.0 one.2).behind.ran in
        let on = all_at (λ (s : Stand). GoesOnFromAll records s.worker) stands i one.0 met
        one.2 in
        ap (λ a. a.told) (ran.fits records on).answers
        ∙ told_is start reading.config records ran.shown (nothing_told reading.config)
    told_shown_by i (inr past) = refl

    pub told_shown : (i : ℕ)
        → told_at i
        ≡ told_from start reading.config records (no_sources reading.config.recent_size) (shown_at i)
    told_shown i = told_shown_by i (slice_get_cases stands i).1

    fits_by : (i : ℕ) (there : IsThere i)
        → (seen_from (length records) (shown_by i there)).fits ≡ true
    fits_by i (inl one) =
        ((each i one.0 one.2).behind.ran.fits records
        (all_at (λ (s : Stand). GoesOnFromAll records s.worker) stands i one.0 met one.2)).fits
    fits_by i (inr past) = refl

    pub fits_at : (i : ℕ) → (seen_from (length records) (shown_at i)).fits ≡ true
    fits_at i = fits_by i (slice_get_cases stands i).1

  -- as many syncs were accepted and refused as its worker counts
  accepted_by : (d : Stand) (i : ℕ) (there : IsThere i) → i < length stands
      → count_by is_accepted (shown_by i there) ≡ (get_or stands i d).worker.accepted
  accepted_by d i (inl one) lt =
      (each i one.0 one.2).behind.ran.accepted
      ∙ ap (λ s. s.worker.accepted) (sym (get_or_from_slice_get stands i one.0 d one.2))
  accepted_by d i (inr past) lt = absurd (omega (arith, past.0, lt))

  refused_by : (d : Stand) (i : ℕ) (there : IsThere i) → i < length stands
      → count_by is_denied (shown_by i there) ≡ (get_or stands i d).worker.refused
  refused_by d i (inl one) lt =
      (each i one.0 one.2).behind.ran.refused
      ∙ ap (λ s. s.worker.refused) (sym (get_or_from_slice_get stands i one.0 d one.2))
  refused_by d i (inr past) lt = absurd (omega (arith, past.0, lt))

  pub accepted_at : (d : Stand) (i : ℕ) → i < length stands
      → count_by is_accepted (shown_at i) ≡ (get_or stands i d).worker.accepted
  accepted_at d i lt = accepted_by d i (slice_get_cases stands i).1 lt

  pub refused_at : (d : Stand) (i : ℕ) → i < length stands
      → count_by is_denied (shown_at i) ≡ (get_or stands i d).worker.refused
  refused_at d i lt = refused_by d i (slice_get_cases stands i).1 lt

  -- what it has fed
  fed_by_place : (i : ℕ) (there : IsThere i) (P : Feeder → Type 0) → i < length stands
      → AllByRecursion P (map (λ (s : Stand). s.feeder) stands)
      → (f : Feeder) × P f × (f.feeder ≡ i) × (f.fed ≡ events_of_stream reading i)
  fed_by_place i (inl one) P lt all =
      let at = each i one.0 one.2 in (
        one.0.feeder,
        all_at P (map (λ (s : Stand). s.feeder) stands) i one.0.feeder all
            (slice_get-map (λ (s : Stand). s.feeder) stands i
            ∙ ap (option_map (λ (s : Stand). s.feeder)) one.2),
        at.feeder_is,
        at.behind.fed,
      )
  fed_by_place i (inr past) P lt all = absurd (omega (arith, past.0, lt))

  pub delivered_at : (i : ℕ) (events : List Fed) → i < length stands
      → AllByRecursion (λ (f : Feeder). Delivers events f.feeder f.fed)
      (map (λ (s : Stand). s.feeder) stands)
      → Delivers events i (events_of_stream reading i)
  delivered_at i events lt all =
      let one = fed_by_place i (slice_get_cases stands i).1
      (λ f. Delivers events f.feeder f.fed) lt all in
      subst (λ es. Delivers events i es) one.3
      (subst (λ p. Delivers events p one.0.fed) one.2 one.1)

-- ---- The run

-- as many streams run as there are, and at least one
pub few_by : (reading : Reading) (n : ℕ) (b : Bool) → nat_lt 0 (length reading.streams) ≡ b
    → n ≡ length (cond b reading.streams (codes "main" ∷ []))
    → (length reading.streams ≤ n) × (0 < n)
    × (length reading.streams ≡ 0 → n ≡ 1)
few_by reading n true is count =
    let some : 0 < length reading.streams = grind (arith, nat_tests, is) in
    (omega (arith, count), omega (arith, count, some), λ none. absurd (omega (arith, none, some)))
few_by reading n false is count =
    let none : length reading.streams ≤ 0 = grind (arith, nat_tests, is) in
    (omega (arith, none), omega (arith, count), λ is_none. count)

-- the text of a run, by its parts
prints_run : (run : LiveRun) (journal : List Fed) (notes : List RecordNote)
    (refusals : List Refusal) (clash : Option Clash) (table : TableParts) (told : ℕ → List Told)
    → run.journal ≡ journal → text.records_text run ≡ notes_text 0 notes
    → (text.answers_of run).text ≡ (telling refusals told run.reading.lines).text
    → records_in run ≡ length notes → final_clash run ≡ clash
    → legal.chains_at run (records_in run) ≡ table.chains
    → text.live_text run
    ≡ head_text run.reading journal notes ++ (telling refusals told run.reading.lines).text
    ++ end_text run.reading.config (length notes) clash table
prints_run run journal notes refusals clash table told fed noted answered count refused chains =
    append_assoc (flat_map text.refused_text run.reading.refused
    ++ text.journal_text run.reading.streams 1 run.journal ++ text.records_text run
    ++ (text.answers_of run).text) (final_text (records_in run) (final_clash run))
    (flat_map (λ family. table_text_of family (legal.chains_at run (records_in run)))
    (table_families run.reading.config))
    ∙ (λ i. flat_map text.refused_text run.reading.refused
    ++ text.journal_text run.reading.streams 1 (fed i) ++ noted i ++ answered i
    ++ (final_text (count i) (refused i)
    ++ flat_map (λ family. table_text_of family (chains i)) (table_families run.reading.config)))

-- the clash that a refused sync prints is one that a refusal has
same_is : (a b : Clash) → same_clash a b ≡ true → a ≡ b
same_is a b is =
    let names = first_true (bytes_eq a.name b.name)
    (same_chain_key a.first b.first && same_chain_key a.second b.second) is in
    let keys = second_true (bytes_eq a.name b.name)
    (same_chain_key a.first b.first && same_chain_key a.second b.second) is in
    let first = one_chain_key a.first b.first
    (first_true (same_chain_key a.first b.first) (same_chain_key a.second b.second) keys) in
    let second = one_chain_key a.second b.second
    (second_true (same_chain_key a.first b.first) (same_chain_key a.second b.second) keys) in
    λ i. record {
      name = (bytes_eq-Decides a.name b.name).0 names i;
      first = first i;
      second = second i;
    }

kept_or : (P : Clash → Type 0) (r : Refusal) (clash : Clash) (rest : Bool) → P r.clash
    → (rest ≡ true → P clash) → (b : Bool) → same_clash r.clash clash ≡ b → (b || rest) ≡ true
    → P clash
kept_or P r clash rest first later true same is = subst P (same_is r.clash clash same) first
kept_or P r clash rest first later false same is = later is

kept_by : (P : Clash → Type 0) (refusals : List Refusal) (clash : Clash)
    → AllByRecursion (λ (r : Refusal). P r.clash) refusals
    → list_any (λ (r : Refusal). same_clash r.clash clash) refusals ≡ true → P clash
kept_by P [] clash all is = absurd (cc is)
kept_by P (r ∷ refusals) clash all is =
    kept_or P r clash (list_any (λ (q : Refusal). same_clash q.clash clash) refusals) all.0
    (kept_by P refusals clash all.1) (same_clash r.clash clash) refl is

first_kept : (P : Clash → Type 0) (refusals : List Refusal) (clash : Clash)
    → AllByRecursion (λ (r : Refusal). P r.clash) refusals → 0 < length refusals
    → P (clash_of_first clash refusals)
first_kept P [] clash all some = absurd (omega (arith, some))
first_kept P (r ∷ refusals) clash all some = all.0

kept_cond : (P : Clash → Type 0) (refusals : List Refusal) (clash : Clash)
    → AllByRecursion (λ (r : Refusal). P r.clash) refusals → 0 < length refusals → (b : Bool)
    → list_any (λ (r : Refusal). same_clash r.clash clash) refusals ≡ b
    → P (cond b clash (clash_of_first clash refusals))
kept_cond P refusals clash all some true is = kept_by P refusals clash all is
kept_cond P refusals clash all some false is = first_kept P refusals clash all some

-- a refused sync prints a clash that was kept, where there is one
kept_is : (P : Clash → Type 0) (refusals : List Refusal) (clash : Clash)
    → AllByRecursion (λ (r : Refusal). P r.clash) refusals → 0 < length refusals
    → P (kept_clash refusals clash)
kept_is P refusals clash all some =
    kept_cond P refusals clash all some
    (list_any (λ (r : Refusal). same_clash r.clash clash) refusals) refl

not_denied : (b : Bool) (n : ℕ) → cond b 1 0 + n ≡ 0 → b ≡ false
not_denied true n is = absurd (omega (arith, is))
not_denied false n is = refl

-- where no refusal counts, no line shows one
none_shown_denied : (all : List Shown) → count_by is_denied all ≡ 0
    → AllByRecursion (λ (s : Shown). is_denied s ≡ false) all
none_shown_denied [] none = tt
none_shown_denied (s ∷ all) none =
    let count = count_cons is_denied s all in (
      not_denied (is_denied s) (count_by is_denied all) (sym count ∙ none),
      none_shown_denied all (omega (arith, count, none)),
    )

-- its refusal, by its mark
refusal_by : (run : LiveRun) (refusals : List Refusal)
    → AllByRecursion (λ (r : Refusal). by_counts.IsClash run r.clash) refusals → (m : Mark)
    → (is_shown m ≡ false → 0 < length refusals) → by_counts.IsRefusal run (settled refusals m)
refusal_by run refusals all (Shows n) some = tt
refusal_by run refusals all (Refuses clash) some =
    kept_is (by_counts.IsClash run) refusals clash all (some refl)

-- a list of events of no stream
no_events : (fed : List Fed) → AllByRecursion (λ (f : Fed). f.feeder < 1) fed
    → filter (is_of_stream 0) fed ≡ [] → fed ≡ []
no_events [] all none = refl
no_events (f ∷ fed) all none =
    let zero : 0 ≡ f.feeder = omega (arith, all.0) in
    let own : f ∷ filter (is_of_stream 0) fed ≡ [] =
    ap (λ b. cond b (f ∷ filter (is_of_stream 0) fed) (filter (is_of_stream 0) fed))
    (sym (eq-eqb 0 f.feeder zero)) ∙ none in
    absurd (cc own)

owned_by : (m : ℕ) (fed : List Fed) → AllByRecursion (λ (f : Fed). f.feeder < m) fed
    → list_all (λ (f : Fed). nat_lt f.feeder m) fed ≡ true
owned_by m [] all = refl
owned_by m (f ∷ fed) all =
    let one : nat_lt f.feeder m ≡ true = grind (arith, nat_tests, all.0) in
    ap (λ b. b && list_all (λ (g : Fed). nat_lt g.feeder m) fed) one ∙ owned_by m fed all.1

module _ (reading : Reading) (read : IsRead reading) (start : TableParts)
    (start_is : start ≡ first_table reading.config) (queue : QueueId) (stands : List Stand)
    (each : (place : ℕ) (s : Stand) → slice_get stands place ≡ Some s
    → StandsAtEnd start reading queue place s) (d : Stand)
    (streams : length stands ≡ length (running_streams reading)) (journal : List Fed)
    (notes : List RecordNote) (refusals : List Refusal) (clash : Option Clash) (table : TableParts)
    (out : HandsOut reading (length stands) (map (λ (s : Stand). s.feeder) stands)
    (map (λ (s : Stand). s.worker) stands) journal notes refusals clash table)
    (tables : ExactTables) (decides : ProductDecides) where
  counts_n : (length reading.streams ≤ length stands) × (0 < length stands)
      × (length reading.streams ≡ 0 → length stands ≡ 1)
  counts_n = few_by reading (length stands) (nat_lt 0 (length reading.streams)) refl streams

  abbrev records : List SyncRecord
  records = records_told reading.config journal notes

  met : AllByRecursion (λ (s : Stand). GoesOnFromAll records s.worker) stands
  met = all_unmapped (GoesOnFromAll records) (λ (s : Stand). s.worker) stands out.met

  abbrev at : ℕ → List Shown
  at = shown_at reading start queue stands each

  merged : Merges at reading.lines
  merged = merge reading.lines at (lines_at reading start queue stands each read counts_n.0)

  abbrev marks : ℕ → Mark
  marks number = settled refusals (mark_at merged.all number)

  abbrev run : LiveRun
  run = run_of reading journal notes marks

  same_count : records_in run ≡ length records
  same_count =
      length-map notes (λ (x : RecordNote). x.events)
      ∙ sym (records_count reading journal notes out.end.exact)

  shows : AllByRecursion (ShowsIt run refusals) merged.all
  shows =
      all_weaker (λ (s : Shown). mark_at merged.all s.0.number ≡ s.1) (ShowsIt run refusals)
      (λ s is. ap (settled refusals) is) merged.all
      (marks_found merged.all (subst AreRising (sym merged.lines_are) read.rising))

  shows_at : (i : ℕ) → AllByRecursion (ShowsIt run refusals) (at i)
  shows_at i =
      subst (AllByRecursion (ShowsIt run refusals)) (merged.each i)
      (all_filter (ShowsIt run refusals) i merged.all shows)

  -- ---- Seen

  fits : (i : ℕ) → (seen_from (length records) (at i)).fits ≡ true
  fits = fits_at reading start queue stands each records met

  seen : (i : ℕ) → (by_counts.seen_by run i).fits ≡ true
  seen i =
      seen_fits run refusals i (at i) (lines_at reading start queue stands each read counts_n.0 i)
      (shows_at i) (ap (λ r. (seen_from r (at i)).fits) same_count ∙ fits i)

  all_seen : (a k : ℕ)
      → list_all (λ i. (by_counts.seen_by run i).fits) (range_with_len a k) ≡ true
  all_seen a zero = refl
  all_seen a (suc k) =
      ap (λ b. b && list_all (λ i. (by_counts.seen_by run i).fits) (range_with_len (a + 1) k)) (seen a)
      ∙ all_seen (a + 1) k

  has : AllByRecursion (λ (s : Shown). HasRecord (length records) s.1 s.0.work) merged.all
  has =
      all_by_stream (λ (s : Shown). HasRecord (length records) s.1 s.0.work) merged.all
      (λ i. subst (AllByRecursion (λ (s : Shown). HasRecord (length records) s.1 s.0.work))
      (sym (merged.each i)) (fits_has (length records) (at i) nothing_seen (fits i)).1)

  -- ---- Sums

  wider : (all : List Shown)
      → AllByRecursion (λ (l : StreamLine). l.stream < length reading.streams) (map line_of all)
      → AllByRecursion (λ (s : Shown). s.0.stream < length stands) all
  wider [] all = tt
  wider (s ∷ rest) all = (omega (arith, all.0, counts_n.0), wider rest all.1)

  places : AllByRecursion (λ (s : Shown). s.0.stream < length stands) merged.all
  places =
      wider merged.all
      (subst (AllByRecursion (λ (l : StreamLine). l.stream < length reading.streams))
      (sym merged.lines_are) read.places)

  -- how many lines pass, by streams
  counted : (p : Shown → Bool) (g : Stand → ℕ)
      → ((i : ℕ) → i < length stands → count_by p (at i) ≡ g (get_or stands i d))
      → count_by p merged.all ≡ sum (map g stands)
  counted p g h =
      sum_by_key (λ (s : Shown). s.0.stream) (λ s. cond (p s) 1 0) (length stands) merged.all places
      ∙ total_same (λ i. count_by p (filter (is_shown_of i) merged.all))
      (λ i. g (get_or stands i d)) (length stands)
      (λ i lt. ap (count_by p) (merged.each i) ∙ h i lt)
      ∙ list_total g d stands

  map_map : (g : Worker → ℕ) (xs : List Stand)
      → map g (map (λ (s : Stand). s.worker) xs) ≡ map (λ (s : Stand). g s.worker) xs
  map_map g [] = refl
  map_map g (x ∷ xs) = ap (λ l. g x.worker ∷ l) (map_map g xs)

  all_accepted : count_by is_accepted merged.all
      ≡ sum (map (λ (w : Worker). w.accepted) (map (λ (s : Stand). s.worker) stands))
  all_accepted =
      counted is_accepted (λ s. s.worker.accepted) (accepted_at reading start queue stands each d)
      ∙ ap sum (sym (map_map (λ w. w.accepted) stands))

  all_denied : count_by is_denied merged.all
      ≡ sum (map (λ (w : Worker). w.refused) (map (λ (s : Stand). s.worker) stands))
  all_denied =
      counted is_denied (λ s. s.worker.refused) (refused_at reading start queue stands each d)
      ∙ ap sum (sym (map_map (λ w. w.refused) stands))

  clash_is : clash ≡ final_clash run
  clash_is = out.end.clash_is

  enough : by_counts.accepted_syncs run + last_syncs (final_clash run) ≤ records_in run
  enough =
      let count = ap (count_by (is_accepted_sync run)) (sym merged.lines_are)
      ∙ count_accepted run refusals merged.all shows ∙ all_accepted in
      let last = ap last_syncs clash_is in
      omega (arith, count, last, out.accepted, length-map notes (λ (x : RecordNote). x.events))

  -- ---- Refusals

  clashes : AllByRecursion (λ (r : Refusal). by_counts.IsClash run r.clash) refusals
  clashes =
      all_weaker (IsRefusal reading.config journal) (λ (r : Refusal). by_counts.IsClash run r.clash)
      (λ r refused. (r.events, refused.clash)) refusals out.end.refused

  kept_one : (b : Bool) → nat_lt 0 (length refusals) ≡ b → (s : Shown)
      → (b ≡ false → is_denied s ≡ false) → is_sync s.0.work ≡ true → is_shown s.1 ≡ false
      → 0 < length refusals
  kept_one true is s none sync shown = grind (arith, nat_tests, is)
  kept_one false is s none sync shown =
      let denied : is_denied s ≡ true =
      ap (λ b. b && not (is_shown s.1)) sync ∙ ap not shown in
      absurd (cc (none refl, denied))

  none_denied : nat_lt 0 (length refusals) ≡ false
      → AllByRecursion (λ (s : Shown). is_denied s ≡ false) merged.all
  none_denied is =
      let zero : length refusals ≤ 0 = grind (arith, nat_tests, is) in
      none_shown_denied merged.all (omega (arith, zero, all_denied, out.refused))

  one_refusal : (s : Shown) → ShowsIt run refusals s
      → (nat_lt 0 (length refusals) ≡ false → is_denied s ≡ false)
      → by_counts.HasRefusal run s.0
  one_refusal s shown none sync =
      subst (by_counts.IsRefusal run) (sym shown)
      (refusal_by run refusals clashes s.1
      (λ unshown. kept_one (nat_lt 0 (length refusals)) refl s none sync unshown))

  all_refusals_by : (all : List Shown) → AllByRecursion (ShowsIt run refusals) all
      → (nat_lt 0 (length refusals) ≡ false
      → AllByRecursion (λ (s : Shown). is_denied s ≡ false) all)
      → AllByRecursion (by_counts.HasRefusal run) (map line_of all)
  all_refusals_by [] shown none = tt
  all_refusals_by (s ∷ all) shown none = (
    one_refusal s shown.0 (λ is. (none is).0),
    all_refusals_by all shown.1 (λ is. (none is).1),
  )

  all_refusals : AllByRecursion (by_counts.HasRefusal run) reading.lines
  all_refusals =
      subst (AllByRecursion (by_counts.HasRefusal run)) merged.lines_are
      (all_refusals_by merged.all shows none_denied)

  -- ---- The journal

  delivered : (i : ℕ) → i < length stands → Delivers journal i (events_of_stream reading i)
  delivered =
      all_delivered reading read (length stands) counts_n.0 journal out.order.0 out.made
      (λ i lt. delivered_at reading start queue stands each i (journal ++ out.order.0) lt
      out.order.1)
      (λ i room lt. delivered_at reading start queue stands each i journal lt (out.whole room))

  whole_streams : (a k : ℕ) → a + k ≤ length stands
      → AllByRecursion (HasWholeStream run) (range_with_len a k)
  whole_streams a zero le = tt
  whole_streams a (suc k) le =
      (delivered a (omega (arith, le)), whole_streams (a + 1) k (omega (arith, le)))

  -- where no line belongs to a stream, nothing was fed
  unfed : length reading.streams ≡ 0 → journal ≡ []
  unfed nothing =
      let one = counts_n.2 nothing in
      let lines = none_of (length reading.streams) 0 reading.lines read.places (omega (arith, nothing)) in
      no_events journal
      (subst (λ k. AllByRecursion (λ (f : Fed). f.feeder < k) journal) one
      (all_below (length stands) journal out.made))
      (delivered 0 counts_n.1
      ∙ ap (λ ls. numbered 0 0 (flat_map (λ (l : StreamLine). events_fed l.work) ls)) (sym lines))

  owned : (b : Bool) → nat_lt 0 (length reading.streams) ≡ b
      → list_all (λ (f : Fed). nat_lt f.feeder (length reading.streams)) journal ≡ true
  owned true is =
      let same : length stands ≡ length reading.streams =
      streams ∙ ap (λ b. length (cond b reading.streams (codes "main" ∷ []))) is in
      owned_by (length reading.streams) journal
      (subst (λ k. AllByRecursion (λ (f : Fed). f.feeder < k) journal) same
      (all_below (length stands) journal out.made))
  owned false is =
      let zero : length reading.streams ≡ 0 = grind (arith, nat_tests, is) in
      ap (list_all (λ (f : Fed). nat_lt f.feeder (length reading.streams))) (unfed zero)

  -- ---- All of it

  is_counted : IsCountedRun run
  is_counted = record {
    journal = record {
      owned = owned (nat_lt 0 (length reading.streams)) refl;
      each = whole_streams 0 (length reading.streams) (omega (arith, counts_n.0));
    };
    tables = have_tables reading journal notes out.end.exact marks;
    covered =
        cover_journal reading journal notes out.end.exact marks clash clash_is out.end.covers;
    seen = all_seen 0 (length reading.streams);
    refusals = all_refusals;
    enough = enough;
  }

  abbrev told : ℕ → List Told
  told = told_at reading start queue stands each

  answered : ((telling refusals told reading.lines).text ≡ (text.answers_of run).text)
      × ((telling refusals told reading.lines).denied
      ≡ list_any (text.is_refused_sync run) reading.lines)
  answered =
      let both =
      all_alike start reading.config records run refusals (list_any is_denied merged.all) merged.all
      (nothing_printed told) (text.nothing_answered run)
      (walks_decide reading journal notes out.end.exact tables decides start start_is marks)
      (all_both (λ (s : Shown). HasRecord (length records) s.1 s.0.work) (ShowsIt run refusals)
      (IsOfRun start reading.config records run refusals) (λ s h m. (h, m)) merged.all has shows)
      (record {
        text = refl;
        left = λ i.
            told_shown reading start queue stands each records met i
            ∙ ap (told_from start reading.config records (no_sources reading.config.recent_size))
            (sym (merged.each i));
        denied = refl;
      }) in
      let lines = merged.lines_are in (
        ap (λ ls. (telling refusals told ls).text) (sym lines) ∙ both.0
            ∙ ap (λ ls. (fold (text.after_answer run) (text.nothing_answered run) ls).text) lines,
        ap (λ ls. (telling refusals told ls).denied) (sym lines) ∙ both.1
            ∙ sym (any_refused run refusals merged.all shows)
            ∙ ap (list_any (text.is_refused_sync run)) lines,
      )

  pub ends_legal : IsRunOf reading (map (λ (s : Stand). s.answers) stands) journal notes refusals
      clash table
  ends_legal = record {
    told = told;
    answers_are = answers_at reading start queue stands each;
    run = run;
    runs = record { reads = refl; counted = is_counted };
    text =
        prints_run run journal notes refusals clash table told refl
        (sym (notes_print reading journal notes out.end.exact marks out.end.notes_are))
        (sym answered.0) (length-map notes (λ (x : RecordNote). x.events)) (sym clash_is)
        (sym (ap (λ t. t.chains) out.end.table_is));
    refused =
        λ i. nat_lt 0 (length reading.refused)
        || (sym answered.1 i || is_some (sym clash_is i));
  }
