-- The journal of a run has all events of each stream.
use Rattle.std.proofs.Common.{◌≡◌, ◌<◌, ◌≤◌, ◌+◌, ◌==◌, ℕ, suc, Bool, true, false, cond, nat_lt, List, [], ◌∷◌, ◌++◌, length, refl, ap, sym, ◌∙◌, arith, length-append}
use Rattle.std.specs.List.{AllByRecursion, filter, sum_by}
use Rattle.std.proofs.lemmas.Bool.{eq-eqb}
use Rattle.std.proofs.lemmas.Bool.Decides.{nat_tests}
use Rattle.std.proofs.lemmas.List.{append-nil, nil_from_length}
use Rattle.std.proofs.lemmas.List.Concat.{length-flat_map}
use Rattle.std.proofs.lemmas.List.Elements.{filter-append}
use Rattle.std.proofs.lemmas.List.Sums.{sum_by-cons}
use Rattle.kp_types.specs.declared.event.Event.{Event}
use Rattle.kp_history_defs.specs.declared.fed.Fed.{Fed}
use Rattle.kp_history_defs.specs.Runs.{is_of_stream, numbered}
use Rattle.kp_feed.specs.Feeding.{Delivers}
use Rattle.kp_run_defs.specs.LiveLines.{Reading, events_of_stream, events_fed, lines_of_stream}
use Rattle.kp_run_defs.specs.declared.live.StreamLine.{StreamLine}
use Rattle.kp_live.proofs.Readings.{IsRead, fed_by}
use Rattle.kp_live.proofs.Totals.{total, total_each, total_same, sum_by_key}

-- ---- Lists

length_numbered : (stream n : ℕ) (events : List Event) → length (numbered stream n events) ≡ length events
length_numbered stream n [] = refl
length_numbered stream n (e ∷ events) = ap suc (length_numbered stream (suc n) events)

-- as many events as there are
ones : (fed : List Fed) → sum_by (λ (f : Fed). 1) fed ≡ length fed
ones [] = refl
ones (f ∷ fed) = omega (arith, sum_by-cons (λ (f : Fed). 1) f fed, ones fed)

-- ---- Which streams an event may be of

first_none : (b : Bool) (f : Fed) (rest : List Fed) → cond b (f ∷ rest) rest ≡ [] → rest ≡ []
first_none true f rest is = absurd (cc is)
first_none false f rest is = is

below : (n : ℕ) (f : Fed) (fed : List Fed)
    → ((p : ℕ) → n ≤ p → filter (is_of_stream p) (f ∷ fed) ≡ []) → (b : Bool)
    → nat_lt f.feeder n ≡ b → f.feeder < n
below n f fed none true is = grind (arith, nat_tests, is)
below n f fed none false is =
    let past : n ≤ f.feeder = grind (arith, nat_tests, is) in
    let own : f ∷ filter (is_of_stream f.feeder) fed ≡ [] =
    ap (λ b. cond b (f ∷ filter (is_of_stream f.feeder) fed) (filter (is_of_stream f.feeder) fed))
    (sym (eq-eqb f.feeder f.feeder refl)) ∙ none f.feeder past in
    absurd (cc own)

pub all_below : (n : ℕ) (fed : List Fed)
    → ((p : ℕ) → n ≤ p → filter (is_of_stream p) fed ≡ [])
    → AllByRecursion (λ (f : Fed). f.feeder < n) fed
all_below n [] none = tt
all_below n (f ∷ fed) none = (
  below n f fed none (nat_lt f.feeder n) refl,
  all_below n fed
      (λ p le. first_none (p == f.feeder) f (filter (is_of_stream p) fed) (none p le)),
)

-- ---- Full journals

module _ (reading : Reading) (read : IsRead reading) (n : ℕ)
    (few : length reading.streams ≤ n) (journal left : List Fed)
    (made : (p : ℕ) → n ≤ p → filter (is_of_stream p) journal ≡ [])
    (order : (i : ℕ) → i < n → Delivers (journal ++ left) i (events_of_stream reading i)) where
  -- how many events of a stream the journal has, and how many the stream feeds
  abbrev has : ℕ → ℕ
  has i = length (filter (is_of_stream i) journal)

  abbrev feeds : ℕ → ℕ
  feeds i = length (events_of_stream reading i)

  split : (i : ℕ) → i < n
      → filter (is_of_stream i) journal ++ filter (is_of_stream i) left
      ≡ numbered i 0 (events_of_stream reading i)
  split i lt = sym (filter-append (is_of_stream i) journal left) ∙ order i lt

  sizes : (i : ℕ) → i < n → has i + length (filter (is_of_stream i) left) ≡ feeds i
  sizes i lt =
      sym (length-append (filter (is_of_stream i) journal) (filter (is_of_stream i) left))
      ∙ ap length (split i lt) ∙ length_numbered i 0 (events_of_stream reading i)

  total_has : length journal ≡ total has n
  total_has =
      sym (ones journal)
      ∙ sum_by_key (λ (f : Fed). f.feeder) (λ (f : Fed). 1) n journal (all_below n journal made)
      ∙ total_same (λ i. sum_by (λ (f : Fed). 1) (filter (is_of_stream i) journal)) has n
      (λ i lt. ones (filter (is_of_stream i) journal))

  wider : (lines : List StreamLine)
      → AllByRecursion (λ (l : StreamLine). l.stream < length reading.streams) lines
      → AllByRecursion (λ (l : StreamLine). l.stream < n) lines
  wider [] all = tt
  wider (l ∷ lines) all = (omega (arith, all.0, few), wider lines all.1)

  total_feeds : reading.accepted ≡ total feeds n
  total_feeds =
      read.accepted
      ∙ sum_by_key (λ (l : StreamLine). l.stream) fed_by n reading.lines
      (wider reading.lines read.places)
      ∙ total_same (λ i. sum_by fed_by (lines_of_stream reading i)) feeds n
      (λ i lt. sym (length-flat_map (λ (l : StreamLine). events_fed l.work)
      (lines_of_stream reading i)))

  -- a full journal has them all
  full : reading.config.max_events ≤ length journal → (i : ℕ) → i < n
      → Delivers journal i (events_of_stream reading i)
  full le i lt =
      let most = total_each has feeds n (λ k less. omega (arith, sizes k less))
      (omega (arith, le, read.room, total_has, total_feeds)) i lt in
      let none = nil_from_length (filter (is_of_stream i) left) (omega (arith, sizes i lt, most)) in
      sym (append-nil (filter (is_of_stream i) journal))
      ∙ ap (λ l. filter (is_of_stream i) journal ++ l) (sym none) ∙ split i lt

  delivered : ((i : ℕ) → length journal < reading.config.max_events → i < n
      → Delivers journal i (events_of_stream reading i)) → (i : ℕ) → i < n → (b : Bool)
      → nat_lt (length journal) reading.config.max_events ≡ b
      → Delivers journal i (events_of_stream reading i)
  delivered whole i lt true is = whole i (grind (arith, nat_tests, is)) lt
  delivered whole i lt false is = full (grind (arith, nat_tests, is)) i lt

  -- in each case
  pub all_delivered : ((i : ℕ) → length journal < reading.config.max_events → i < n
      → Delivers journal i (events_of_stream reading i)) → (i : ℕ) → i < n
      → Delivers journal i (events_of_stream reading i)
  all_delivered whole i lt =
      delivered whole i lt (nat_lt (length journal) reading.config.max_events) refl
