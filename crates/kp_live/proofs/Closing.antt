-- A hub has ended, and the text of the run was written.
use Rattle.std.proofs.Common.{◌≡◌, ◌<◌, ◌≤◌, ◌+◌, inr, ℕ, Bool, List, [], ◌∷◌, ◌++◌, map, sum, length, refl, ap, sym, subst, ◌∙◌, arith}
use Rattle.std.specs.Prelude.{Option, Some, None, Result, Ok, Err, IfOk, IfSome, OnErr, nat_lt}
use Rattle.std.specs.List.{AllByRecursion, filter}
use Rattle.kp_base.specs.declared.config.Config.{Config}
use Rattle.kp_pack_laws.proofs.Shuffles.{all_mapped, all_unmapped}
use Rattle.kp_types.specs.declared.chain.Clash.{Clash}
use Rattle.kp_table_defs.specs.Rebuild.{TableParts}
use Rattle.kp_history_defs.specs.declared.fed.Fed.{Fed}
use Rattle.kp_history_defs.specs.Runs.{is_of_stream}
use Rattle.kp_history_laws.specs.HistoryLaws.{ExactTables}
use Rattle.kp_walk_laws.specs.Laws.{ProductDecides}
use Rattle.kp_feed.specs.Feeding.{Delivers}
use Rattle.kp_feed.specs.Passes.{Feeder, QueueId}
use Rattle.kp_io.specs.Ends.{Output}
use Rattle.kp_io.specs.Lines.{lines_of}
use Rattle.kp_io.specs.Told.{Grows}
use Rattle.kp_streams.specs.WholeInput.{ReadsWhole}
use Rattle.kp_hub.specs.Finishing.{IsEnd, records_told}
use Rattle.kp_hub.specs.Known.{Worker, uncounted}
use Rattle.kp_hub.specs.State.{first_table}
use Rattle.kp_hub.specs.declared.notes.RecordNote.{RecordNote}
use Rattle.kp_hub.specs.declared.notes.Refusal.{Refusal}
use Rattle.kp_run_defs.specs.LegalRuns.{last_syncs}
use Rattle.kp_run_defs.specs.LiveLines.{Reading, reading_of, running_streams}
use Rattle.kp_live.specs.Handed.{HandsOut, IsRunOf}
use Rattle.kp_live.specs.Runs.{AreOf, HaveEnded, end_text, head_text, prints_refusal, telling}
use Rattle.kp_live.specs.Stands.{Stand}
use Rattle.kp_live.specs.Streams.{GoesOnFromAll}
use Rattle.kp_live.specs.Told.{Told}
use Rattle.kp_live.specs.Written.{EndsRun, GrowsFront, Prints, WritesFront, WritesRun}
use Rattle.kp_live.specs.declared.answers.Answers.{Answers}
use Rattle.kp_live.specs.declared.fault.LiveFault.{LiveFault}
use Rattle.kp_live.proofs.Ending.{answers_at, ends_legal, few_by, told_at}
use Rattle.kp_live.proofs.Readings.{IsRead, input_is_read}
use Rattle.kp_live.proofs.Together.{all_by_place}

-- feeders of streams that ended are of the queue
pub ended_queues : (start : TableParts) (reading : Reading) (queue : QueueId) (n : ℕ)
    (feeders : List Feeder) (workers : List Worker) (answers : List Answers)
    → HaveEnded start reading queue n feeders workers answers
    → AllByRecursion (λ (f : Feeder). f.queue ≡ queue) feeders
ended_queues start reading queue n feeders workers answers e =
    subst (AllByRecursion (λ (f : Feeder). f.queue ≡ queue)) (sym e.feeders_are)
    (all_mapped (λ (f : Feeder). f.queue ≡ queue) (λ (s : Stand). s.feeder) e.stands
    (all_by_place (λ (s : Stand). s.feeder.queue ≡ queue) e.stands
    (λ i s is. (e.each i s is).queue_is)))

-- what a hub of this configuration handed out, by passes that were counted and then met
pub handed : (reading : Reading) (config : Config) (n : ℕ) (feeders : List Feeder)
    (workers old met : List Worker) (journal : List Fed) (notes : List RecordNote)
    (refusals : List Refusal) (clash : Option Clash) (table : TableParts)
    → reading.config ≡ config → old ≡ workers → met ≡ map uncounted old
    → IsEnd config journal notes refusals clash table
    → ((left : List Fed) × AllByRecursion (λ p. Delivers (journal ++ left) p.feeder p.fed) feeders)
    → (length journal < config.max_events
    → AllByRecursion (λ p. Delivers journal p.feeder p.fed) feeders)
    → ((p : ℕ) → n ≤ p → filter (is_of_stream p) journal ≡ [])
    → sum (map (λ (w : Worker). w.accepted) old) + last_syncs clash ≤ length notes
    → sum (map (λ (w : Worker). w.refused) old) ≤ length refusals
    → AllByRecursion (GoesOnFromAll (records_told config journal notes)) met
    → HandsOut reading n feeders workers journal notes refusals clash table
handed reading config n feeders workers old met journal notes refusals clash table config_is
    old_is met_is end order whole made accepted refused goes =
    record {
      end = subst (λ c. IsEnd c journal notes refusals clash table) (sym config_is) end;
      order = order;
      whole = λ lt. whole (subst (λ (c : Config). length journal < c.max_events) config_is lt);
      made = made;
      accepted =
          subst (λ (l : List Worker). sum (map (λ (w : Worker). w.accepted) l) + last_syncs clash
          ≤ length notes) old_is accepted;
      refused =
          subst (λ (l : List Worker). sum (map (λ (w : Worker). w.refused) l) ≤ length refusals)
          old_is refused;
      met =
          subst (λ c. AllByRecursion (GoesOnFromAll (records_told c journal notes)) workers)
          (sym config_is)
          (all_unmapped (GoesOnFromAll (records_told config journal notes)) uncounted workers
          (subst (AllByRecursion (GoesOnFromAll (records_told config journal notes)))
          (met_is ∙ ap (map uncounted) old_is) goes));
    }

some_stand : (stands : List Stand) → 0 < length stands → Stand
some_stand [] lt = absurd (omega (arith, lt))
some_stand (s ∷ stands) lt = s

module _ (reading : Reading) (start : TableParts) (queue : QueueId) (n : ℕ)
    (feeders : List Feeder) (workers : List Worker) (answers : List Answers) (journal : List Fed)
    (notes : List RecordNote) (refusals : List Refusal) (clash : Option Clash) (table : TableParts)
    (start_is : start ≡ first_table reading.config) (streams : n ≡ length (running_streams reading))
    (e : HaveEnded start reading queue n feeders workers answers)
    (out : HandsOut reading n feeders workers journal notes refusals clash table)
    (tables : ExactTables) (decides : ProductDecides) where
  some_of : 0 < length e.stands
  some_of =
      (few_by reading (length e.stands) (nat_lt 0 (length reading.streams)) refl
      (e.count ∙ streams)).1

  out_of : HandsOut reading (length e.stands) (map (λ (s : Stand). s.feeder) e.stands)
      (map (λ (s : Stand). s.worker) e.stands) journal notes refusals clash table
  out_of =
      subst (λ m. HandsOut reading m (map (λ (s : Stand). s.feeder) e.stands)
      (map (λ (s : Stand). s.worker) e.stands) journal notes refusals clash table) (sym e.count)
      (subst (λ l. HandsOut reading n l (map (λ (s : Stand). s.worker) e.stands) journal notes
      refusals clash table) e.feeders_are
      (subst (λ l. HandsOut reading n feeders l journal notes refusals clash table) e.workers_are
      out))

  legal : (input : List (List ℕ)) → reading ≡ reading_of input
      → IsRunOf reading answers journal notes refusals clash table
  legal input is =
      subst (λ a. IsRunOf reading a journal notes refusals clash table) (sym e.answers_are)
      (ends_legal reading (subst IsRead (sym is) (input_is_read input)) start start_is queue
      e.stands e.each (some_stand e.stands some_of) (e.count ∙ streams) journal notes refusals
      clash table out_of tables decides)

  -- the text by what the streams were told
  abbrev whole_text : (ℕ → List Told) → List ℕ
  whole_text told =
      head_text reading journal notes ++ (telling refusals told reading.lines).text
      ++ end_text reading.config (length notes) clash table

  module _ (o0 o1 : Output) where
    whole_by : (result : Result Bool LiveFault)
        → ((told : ℕ → List Told) → AreOf told answers
        → Prints result (whole_text told) o0 o1)
        → ((told : ℕ → List Told) → AreOf told answers
        → IfOk result (λ refused. refused
        ≡ prints_refusal reading (telling refusals told reading.lines).denied clash))
        → IfOk result (λ refused. (input : List (List ℕ)) → reading ≡ reading_of input
        → WritesRun refused reading o0 o1)
    whole_by (Ok refused) printed told_is = λ input is.
        let r = legal input is in record {
          run = r.run;
          runs = r.runs;
          grown = subst (Grows o0.written o1.written) (sym r.text) (printed r.told r.answers_are).whole;
          told = told_is r.told r.answers_are ∙ sym r.refused;
        }
    whole_by (Err fault) printed told_is = tt

    front_by : (result : Result Bool LiveFault)
        → ((told : ℕ → List Told) → AreOf told answers
        → Prints result (whole_text told) o0 o1)
        → OnErr result ((input : List (List ℕ)) → reading ≡ reading_of input
        → WritesFront reading o0 o1)
    front_by (Ok refused) printed = tt
    front_by (Err fault) printed = λ input is.
        let r = legal input is in
        inr (
          r.run,
          r.runs,
          subst (GrowsFront o0 o1) (sym r.text) (printed r.told r.answers_are).front,
        )

    pub ends_run : (result : Result Bool LiveFault)
        → ((told : ℕ → List Told) → AreOf told answers
        → Prints result (whole_text told) o0 o1)
        → ((told : ℕ → List Told) → AreOf told answers
        → IfOk result (λ refused. refused
        ≡ prints_refusal reading (telling refusals told reading.lines).denied clash))
        → EndsRun result reading o0 o1
    ends_run result printed told_is =
        let told = told_at reading start queue e.stands e.each in
        let p = printed told
        (subst (AreOf told) (sym e.answers_are) (answers_at reading start queue e.stands e.each)) in
        record {
          whole = whole_by result printed told_is;
          front = front_by result printed;
          later = p.later;
          sure = p.sure;
          failed = p.failed;
          wanted = p.wanted;
          other = p.other;
        }

-- what was written of a run that failed, where its input is told
pub front_told : (result : Result Bool LiveFault) (left : Option (List ℕ)) (reading : Reading)
    (o0 o1 : Output)
    → OnErr result ((input : List (List ℕ)) → reading ≡ reading_of input
    → WritesFront reading o0 o1)
    → IfSome left (ReadsWhole reading)
    → OnErr result (IfSome left (λ text. WritesFront (reading_of (lines_of text)) o0 o1))
front_told (Ok refused) left reading o0 o1 front read = tt
front_told (Err fault) None reading o0 o1 front read = tt
front_told (Err fault) (Some text) reading o0 o1 front read =
    subst (λ r. WritesFront r o0 o1) read.reads (front (lines_of text) read.reads)
