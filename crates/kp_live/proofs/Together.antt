-- Streams that ran beside each other have ended.
use Rattle.std.proofs.Common.{◌≡◌, ◌<◌, ◌≤◌, ◌⊎◌, inl, inr, ℕ, zero, suc, List, [], ◌∷◌, ◌++◌, map, length, take, drop, get_or, All, refl, ap, sym, subst, ◌∙◌, arith}
use Rattle.std.specs.Prelude.{Option, Some, None, IfOk, IfSome, OnOk, Result, Ok, Err, option_map, slice_get}
use Rattle.std.specs.List.{AllByRecursion, filter}
use Rattle.std.proofs.Math.Seq.{take-append_seam}
use Rattle.std.proofs.lemmas.List.{length-append, length-map}
use Rattle.std.proofs.lemmas.List.Elements.{All-from_recursion}
use Rattle.std.proofs.lemmas.Option.{none-some, same_Some, slice_get-get_or, slice_get-map, slice_get_cases}
use Rattle.std.proofs.lemmas.Simd.{map-map}
use Rattle.kp_base.specs.declared.config.Config.{Config}
use Rattle.kp_base.specs.declared.memory.NoMemory.{NoMemory}
use Rattle.kp_table_defs.specs.Rebuild.{TableParts}
use Rattle.kp_feed.specs.Calls.{new_feeder, new_feeders}
use Rattle.kp_feed.specs.Passes.{Feeder, QueueId}
use Rattle.kp_pack_laws.proofs.Shuffles.{all_unmapped}
use Rattle.kp_hub.specs.Known.{Worker}
use Rattle.kp_run_defs.specs.LiveLines.{Reading, is_line_of}
use Rattle.kp_run_defs.specs.declared.live.StreamLine.{StreamLine}
use Rattle.kp_live.specs.Runs.{HaveEnded, StandsAtEnd}
use Rattle.kp_live.specs.Stands.{Stand}
use Rattle.kp_live.specs.Streams.{IsAtStart, RunsOn, StandsBehind}
use Rattle.kp_live.specs.declared.answers.Answers.{Answers}
use Rattle.kp_live.proofs.Ending.{all_at}
use Rattle.kp_live.proofs.Printing.{pushed_each}

-- ---- Lists by their places

pub all_by_place : {A : Type 0} (P : A → Type 0) (xs : List A)
    → ((i : ℕ) (x : A) → slice_get xs i ≡ Some x → P x) → AllByRecursion P xs
all_by_place P [] each = tt
all_by_place P (x ∷ xs) each = (each 0 x refl, all_by_place P xs (λ i y is. each (suc i) y is))

-- what several clauses say of a result
pub all_ok : {E F : Type 0} (r : Result E F) (A B C G : E → Type 0) (W : Type 0)
    → ((e : E) → A e → B e → C e → W → G e) → IfOk r A → IfOk r B → IfOk r C → OnOk r W → IfOk r G
all_ok (Ok e) A B C G W h a b c w = h e a b c w
all_ok (Err f) A B C G W h a b c w = tt

-- a list that was lent and written back, of the same length
pub written_back : {A : Type 0} (new old lent : List A) (len : ℕ) → length lent ≡ len
    → length new ≡ length lent → take len (new ++ drop (length new) old) ≡ new
written_back new old lent len is kept =
    ap (λ n. take n (new ++ drop (length new) old)) (sym (kept ∙ is))
    ∙ take-append_seam new (drop (length new) old)

pub same_lengths : {A B : Type 0} (f : A → B) (xs ys : List A) → map f xs ≡ map f ys
    → length xs ≡ length ys
same_lengths f xs ys is =
    sym (length-map xs f) ∙ ap (λ l. length l) is ∙ length-map ys f

some_is : {A : Type 0} (P : A → Type 0) (o : Option A) (x : A) → o ≡ Some x → IfSome o P → P x
some_is P o x is all = subst (λ o. IfSome o P) is all

-- ---- New feeders

pub length_new : (queue : QueueId) (n : ℕ) → length (new_feeders queue n) ≡ n
length_new queue zero = refl
length_new queue (suc n) =
    let before = length_new queue n in
    length-append (new_feeders queue n) (new_feeder queue n ∷ []) ∙ omega (arith, before)

-- a feeder at a place that has fed nothing
abbrev IsNewAt : QueueId → ℕ → Feeder → Type 0
IsNewAt queue i f = (f.queue ≡ queue) × (f.feeder ≡ i) × (f.fed ≡ [])

new_each : (queue : QueueId) (n : ℕ) (i : ℕ)
    → IfSome (slice_get (new_feeders queue n) i) (IsNewAt queue i)
new_each queue zero i = tt
new_each queue (suc n) i =
    pushed_each (IsNewAt queue) (new_feeders queue n) (new_feeder queue n) (new_each queue n)
    (refl, sym (length_new queue n), refl) i

-- ---- A stream

-- it stands behind no lines
behind_none : (start : TableParts) (config : Config) (s : Stand) → IsAtStart config s
    → s.feeder.fed ≡ [] → StandsBehind start config [] s
behind_none start config s new fed = record {
  told = [];
  holds = new.answers;
  ran = record {
    shown = [];
    lines_are = refl;
    accepted = ap (λ (w : Worker). w.accepted) (sym new.worker);
    refused = ap (λ (w : Worker). w.refused) (sym new.worker);
    fits = λ records on. record {
      answers = λ k. record { told = []; lists = new.lists k };
      fits = refl;
      most = omega arith;
      syncs = ap (λ (w : Worker). w.accepted) (sym new.worker);
    };
  };
  fed = fed;
}

module _ {X : Type 0} (standing : X → Stand) (lines : X → List StreamLine) (start : TableParts)
    (reading : Reading) (queue : QueueId) (n : ℕ) (ss cs : List X)
    (feeders : map (λ x. (standing x).feeder) ss ≡ new_feeders queue n)
    (kept : map standing cs ≡ map standing ss) where
  feeders_kept : map (λ x. (standing x).feeder) cs ≡ new_feeders queue n
  feeders_kept =
      sym (map-map (λ (s : Stand). s.feeder) standing cs)
      ∙ ap (map (λ (s : Stand). s.feeder)) kept
      ∙ map-map (λ (s : Stand). s.feeder) standing ss ∙ feeders

  queues_new : AllByRecursion (λ (f : Feeder). f.queue ≡ queue) (new_feeders queue n)
  queues_new =
      all_by_place (λ (f : Feeder). f.queue ≡ queue) (new_feeders queue n)
      (λ i f is. (some_is (IsNewAt queue i) (slice_get (new_feeders queue n) i) f is
      (new_each queue n i)).0)

  -- all are of the queue
  pub of_queue : All (λ x. (standing x).feeder.queue ≡ queue) cs
  of_queue =
      All-from_recursion (λ x. (standing x).feeder.queue ≡ queue) cs
      (all_unmapped (λ (f : Feeder). f.queue ≡ queue) (λ x. (standing x).feeder) cs
      (subst (AllByRecursion (λ (f : Feeder). f.queue ≡ queue)) (sym feeders_kept) queues_new))

  counts : (length ss ≡ n) × (length cs ≡ n)
  counts =
      let ends = ap (λ (l : List Feeder). length l) feeders ∙ length_new queue n in
      let kepts = ap (λ (l : List Feeder). length l) feeders_kept ∙ length_new queue n in (
        sym (length-map ss (λ x. (standing x).feeder)) ∙ ends,
        sym (length-map cs (λ x. (standing x).feeder)) ∙ kepts,
      )

  module _ (refused : X → Option NoMemory) (fs : List X)
      (new : AllByRecursion (λ x. IsAtStart reading.config (standing x)) ss)
      (cut : (i : ℕ) → IfSome (slice_get cs i)
      (λ x. lines x ≡ filter (is_line_of i) reading.lines)) (count : length fs ≡ length cs)
      (ran : (i : ℕ) → IfSome (slice_get cs i) (λ x. IfSome (slice_get fs i)
      (λ t. refused t ≡ None
      → RunsOn start reading.config (lines x) (standing x) (standing t))))
      (whole : AllByRecursion (λ x. refused x ≡ None) fs) where
    at_end : (i : ℕ) (t x y : X) → slice_get fs i ≡ Some t → slice_get cs i ≡ Some x
        → slice_get ss i ≡ Some y → StandsAtEnd start reading queue i (standing t)
    at_end i t x y is_t is_x is_y =
        let same : standing x ≡ standing y =
        same_Some (standing x) (standing y)
        (sym (slice_get-map standing cs i ∙ ap (option_map standing) is_x)
        ∙ ap (λ l. slice_get l i) kept
        ∙ slice_get-map standing ss i ∙ ap (option_map standing) is_y) in
        let f : IsNewAt queue i (standing y).feeder =
        some_is (IsNewAt queue i) (slice_get (new_feeders queue n) i) (standing y).feeder
        (ap (λ l. slice_get l i) (sym feeders)
        ∙ slice_get-map (λ z. (standing z).feeder) ss i
        ∙ ap (option_map (λ z. (standing z).feeder)) is_y) (new_each queue n i) in
        let begun : StandsBehind start reading.config [] (standing x) =
        subst (StandsBehind start reading.config []) (sym same)
        (behind_none start reading.config (standing y)
        (all_at (λ z. IsAtStart reading.config (standing z)) ss i y new is_y) f.2) in
        let runs : RunsOn start reading.config (lines x) (standing x) (standing t) =
        some_is (λ z. refused z ≡ None
        → RunsOn start reading.config (lines x) (standing x) (standing z)) (slice_get fs i) t is_t
        (some_is (λ z. IfSome (slice_get fs i) (λ v. refused v ≡ None
        → RunsOn start reading.config (lines z) (standing z) (standing v))) (slice_get cs i) x is_x
        (ran i)) (all_at (λ z. refused z ≡ None) fs i t whole is_t) in record {
          behind =
              subst (λ l. StandsBehind start reading.config l (standing t))
              (some_is (λ z. lines z ≡ filter (is_line_of i) reading.lines) (slice_get cs i) x is_x
              (cut i)) (runs.behind [] begun);
          queue_is = runs.queue ∙ ap (λ (s : Stand). s.feeder.queue) same ∙ f.0;
          feeder_is = runs.feeder ∙ ap (λ (s : Stand). s.feeder.feeder) same ∙ f.1;
        }

    each_by : (i : ℕ) (s : Stand) → slice_get (map standing fs) i ≡ Some s
        → ((t : X) × (i < length fs) × (slice_get fs i ≡ Some t) × (get_or fs i t ≡ t))
        ⊎ ((length fs ≤ i) × (slice_get fs i ≡ None)) → StandsAtEnd start reading queue i s
    each_by i s is (inl one) =
        subst (StandsAtEnd start reading queue i)
        (same_Some (standing one.0) s
        (sym (slice_get-map standing fs i ∙ ap (option_map standing) one.2) ∙ is))
        (at_end i one.0 (get_or cs i one.0) (get_or ss i one.0) one.2
        (slice_get-get_or cs i one.0 (omega (arith, one.1, count)))
        (slice_get-get_or ss i one.0 (omega (arith, one.1, count, counts.0, counts.1))))
    each_by i s is (inr past) =
        absurd (none-some s
        (sym (slice_get-map standing fs i ∙ ap (option_map standing) past.1) ∙ is))

    pub have_ended : (fed : List Feeder) (ws : List Worker) (told : List Answers)
        → fed ≡ map (λ x. (standing x).feeder) fs → ws ≡ map (λ x. (standing x).worker) fs
        → told ≡ map (λ x. (standing x).answers) fs
        → HaveEnded start reading queue n fed ws told
    have_ended fed ws told fed_are ws_are as_are = record {
      stands = map standing fs;
      count = length-map fs standing ∙ count ∙ counts.1;
      feeders_are = fed_are ∙ sym (map-map (λ (s : Stand). s.feeder) standing fs);
      workers_are = ws_are ∙ sym (map-map (λ (s : Stand). s.worker) standing fs);
      answers_are = as_are ∙ sym (map-map (λ (s : Stand). s.answers) standing fs);
      each = λ i s is. each_by i s is (slice_get_cases fs i).1;
    }
