-- What each step keeps holds of each run; the order of each stream's events; and what workers have seen.
use Rattle.std.proofs.Common.{◌≡◌, ℕ, suc, ◌+◌, ◌<◌, ◌≤◌, ◌==◌, Bool, true, false, cond, List, [], ◌∷◌, ◌++◌, filter, take, drop, length, nat_lt, refl, sym, ap, subst, ◌∙◌, arith, append_assoc, take-append-drop}
use Rattle.std.proofs.lemmas.Bool.{eqb-true, ltb-true}
use Rattle.std.proofs.lemmas.List.{append-nil, length-take-le, length_push, take-append-le, take-take}
use Rattle.std.proofs.lemmas.List.Elements.{filter-append}
use Rattle.kp_types.specs.Setting.{Settings}
use Rattle.kp_types.specs.declared.event.Event.{Event}
use Rattle.kp_types.specs.declared.sync.SyncRecord.{SyncRecord}
use Rattle.kp_history_defs.specs.declared.fed.Fed.{Fed}
use Rattle.kp_history_defs.specs.Runs.{RunState, Step, Feed, Take, Sync, Refuse, Publish, Read, Tell, IsRun, IsRunFrom, IsAllowed, initial, state_after, after_take, at_number, is_of_stream, numbered, next_record}
use Rattle.kp_history_defs.proofs.Numbered.{numbered_push}
use Rattle.kp_history_laws.specs.RunLaws.{RunsJoin, RunsSplit, StreamsKeepOrder, SeenIsPublished, PublishedAreRecords, SeenOnlyGrows, BeginsWith}

-- ---- Runs

module _ (settings : Settings) (P : RunState → Type 0) (kept : (s : RunState) (step : Step) → IsAllowed settings s step → P s → P (state_after settings s step)) where
  -- what each step keeps is kept by steps
  pub kept_by_steps : (steps : List Step) (s t : RunState) → P s → IsRunFrom settings s steps t → P t
  kept_by_steps [] s t holds is = subst P (sym is) holds
  kept_by_steps (step ∷ steps) s t holds (next, leads, rest) =
      kept_by_steps steps next t (subst P (sym leads.leads) (kept s step leads.allowed holds)) rest

-- ---- Steps before and behind

pub runs_join : RunsJoin
runs_join settings [] second s t u before behind = subst (λ from. IsRunFrom settings from second u) before behind
runs_join settings (step ∷ first) second s t u (next, leads, before) behind =
    (next, leads, runs_join settings first second next t u before behind)

pub runs_split : RunsSplit
runs_split settings [] second s u all = (s, refl, all)
runs_split settings (step ∷ first) second s u (next, leads, rest) =
    let (t, before, behind) = runs_split settings first second next u rest in (t, (next, leads, before), behind)

-- ---- Streams

-- in the journal and then the queue, each stream's events are numbered in order
abbrev InOrder : RunState → Type 0
InOrder s = (stream : ℕ) → filter (is_of_stream stream) (s.journal ++ s.queue) ≡ numbered stream 0 (s.fed stream)

fed_by : (s : RunState) (by : ℕ) (e : Event) (stream : ℕ) → InOrder s → (b : Bool) → (stream == by) ≡ b
    → filter (is_of_stream stream) (s.journal ++ s.queue) ++ cond b (record { feeder = by; number = suc (length (s.fed by)); event = e } ∷ []) []
    ≡ numbered stream 0 (cond b (s.fed by ++ e ∷ []) (s.fed stream))
fed_by s by e stream holds true is =
    let same : stream ≡ by = eqb-true stream by is in
    let none : length (s.fed by) ≡ 0 + length (s.fed by) = omega arith in
    ap (λ fed. fed ++ record { feeder = by; number = suc (length (s.fed by)); event = e } ∷ []) (holds stream ∙ ap (λ (m : ℕ). numbered m 0 (s.fed m)) same)
    ∙ ap (λ (m : ℕ). numbered by 0 (s.fed by) ++ record { feeder = by; number = suc m; event = e } ∷ []) none
    ∙ sym (numbered_push by 0 _ e) ∙ ap (λ (m : ℕ). numbered m 0 (s.fed by ++ e ∷ [])) (sym same)
fed_by s by e stream holds false is = append-nil (filter (is_of_stream stream) (s.journal ++ s.queue)) ∙ holds stream

fed_in_order : (s : RunState) (by : ℕ) (e : Event) → InOrder s → (stream : ℕ)
    → filter (is_of_stream stream) (s.journal ++ (s.queue ++ record { feeder = by; number = suc (length (s.fed by)); event = e } ∷ []))
    ≡ numbered stream 0 (at_number s.fed by (s.fed by ++ e ∷ []) stream)
fed_in_order s by e holds stream =
    let f : Fed = record { feeder = by; number = suc (length (s.fed by)); event = e } in
    ap (filter (is_of_stream stream)) (sym (append_assoc s.journal s.queue (f ∷ [])))
    ∙ filter-append (is_of_stream stream) (s.journal ++ s.queue) (f ∷ [])
    ∙ fed_by s by e stream holds _ refl

taken_in_order : (settings : Settings) (s : RunState) → InOrder s → (queue : List Fed) → s.queue ≡ queue → InOrder (after_take settings queue s)
taken_in_order settings s holds [] is stream = holds stream
taken_in_order settings s holds (f ∷ rest) is stream =
    ap (filter (is_of_stream stream)) (append_assoc s.journal (f ∷ []) rest ∙ ap (λ queue. s.journal ++ queue) (sym is)) ∙ holds stream

step_in_order : (settings : Settings) (s : RunState) (step : Step) → IsAllowed settings s step → InOrder s → InOrder (state_after settings s step)
step_in_order settings s (Feed by e) allowed holds = fed_in_order s by e holds
step_in_order settings s Take allowed holds = taken_in_order settings s holds s.queue refl
step_in_order settings s step allowed holds = holds

pub streams_keep_order : StreamsKeepOrder
streams_keep_order settings steps s run =
    kept_by_steps settings InOrder (step_in_order settings) steps initial s (λ stream. refl) run

-- ---- What workers have seen

-- the first of the published records
abbrev pub IsFirst : RunState → List SyncRecord → Type 0
IsFirst s seen = (n : ℕ) × (n ≤ s.published) × (seen ≡ take n s.records)

pub record IsSeen (s : RunState) : Type 0 where
  pub published : s.published ≤ length s.records
  pub seen : (worker : ℕ) → IsFirst s (s.seen worker)

-- the worker that a step is of has seen these, and the others what they had
of_worker : (s : RunState) (worker : ℕ) (these : List SyncRecord) → IsFirst s these → ((w : ℕ) → IsFirst s (s.seen w)) → (w : ℕ) → IsFirst s (at_number s.seen worker these w)
of_worker s worker these first seen w = by _
  where
    by : (b : Bool) → IsFirst s (cond b these (s.seen w))
    by true = first
    by false = seen w

longer_first : (s : RunState) (n : ℕ) (seen : List SyncRecord) → n ≤ s.published → IsFirst s seen → (b : Bool) → IsFirst s (cond b (take n s.records) seen)
longer_first s n seen told first true = (n, told, refl)
longer_first s n seen told first false = first

step_seen : (settings : Settings) (s : RunState) (step : Step) → IsAllowed settings s step → IsSeen s → IsSeen (state_after settings s step)
step_seen settings s (Feed by e) allowed h = record { published = h.published; seen = h.seen }
step_seen settings s Take allowed h = taken s.queue
  where
    taken : (queue : List Fed) → IsSeen (after_take settings queue s)
    taken [] = record { published = h.published; seen = h.seen }
    taken (f ∷ rest) = record { published = h.published; seen = h.seen }
step_seen settings s Sync allowed h = record {
  published = more _;
  seen = λ worker. let (n, told, is) = h.seen worker in (n, told, is ∙ sym (take-append-le n s.records (next_record settings s ∷ []) (within n told)));
}
  where
    within : (n : ℕ) → n ≤ s.published → n ≤ length s.records
    within n told = let most = h.published in omega arith

    more : (r : SyncRecord) → s.published ≤ length (s.records ++ r ∷ [])
    more r = let most = h.published in let one = length_push s.records r in omega arith
step_seen settings s Refuse allowed h = h
step_seen settings s Publish allowed h = record {
  published = omega arith;
  seen = λ worker. let (n, told, is) = h.seen worker in (n, within n told, is);
}
  where
    within : (n : ℕ) → n ≤ s.published → n ≤ length s.records
    within n told = let most = h.published in omega arith
step_seen settings s (Read worker packet draws lists answer) allowed h = record {
  published = h.published;
  seen = of_worker s worker _ (s.published, omega arith, refl) h.seen;
}
step_seen settings s (Tell worker n) allowed h = record {
  published = h.published;
  seen = of_worker s worker _ (longer_first s n _ allowed (h.seen worker) _) h.seen;
}

pub run_seen : (settings : Settings) (steps : List Step) (s : RunState) → IsRun settings steps s → IsSeen s
run_seen settings steps s run =
    kept_by_steps settings IsSeen (step_seen settings) steps initial s (record { published = omega arith; seen = λ worker. (0, omega arith, refl) }) run

pub seen_is_published : SeenIsPublished
seen_is_published settings steps s run worker = (run_seen settings steps s run).seen worker

pub published_are_records : PublishedAreRecords
published_are_records settings steps s run = (run_seen settings steps s run).published

-- ---- What was seen is seen

same_list : (xs : List SyncRecord) → BeginsWith xs xs
same_list xs = ([], sym (append-nil xs))

begins_through : (xs ys zs : List SyncRecord) → BeginsWith xs ys → BeginsWith ys zs → BeginsWith xs zs
begins_through xs ys zs (r, p) (q, s) = (q ++ r, p ∙ ap (λ front. front ++ r) s ∙ append_assoc zs q r)

-- the first records begin with fewer of them
more_of : (n m : ℕ) (xs seen : List SyncRecord) → n ≤ m → seen ≡ take n xs → BeginsWith (take m xs) seen
more_of n m xs seen le is =
    (drop n (take m xs), sym (take-append-drop n (take m xs)) ∙ ap (λ front. front ++ drop n (take m xs)) (take-take n m xs le ∙ sym is))

abbrev Grows : (ℕ → List SyncRecord) → (ℕ → List SyncRecord) → Type 0
Grows after before = (w : ℕ) → BeginsWith (after w) (before w)

worker_grows : (seen : ℕ → List SyncRecord) (worker : ℕ) (these : List SyncRecord) → BeginsWith these (seen worker) → Grows (at_number seen worker these) seen
worker_grows seen worker these more w = by _ refl
  where
    by : (b : Bool) → (w == worker) ≡ b → BeginsWith (cond b these (seen w)) (seen w)
    by true is = subst (λ (m : ℕ). BeginsWith these (seen m)) (sym (eqb-true w worker is)) more
    by false is = same_list _

step_grows : (settings : Settings) (s : RunState) (step : Step) → IsAllowed settings s step → IsSeen s → Grows (state_after settings s step).seen s.seen
step_grows settings s (Feed by e) allowed h w = same_list _
step_grows settings s Take allowed h w = taken s.queue
  where
    taken : (queue : List Fed) → BeginsWith ((after_take settings queue s).seen w) (s.seen w)
    taken [] = same_list _
    taken (f ∷ rest) = same_list _
step_grows settings s Sync allowed h w = same_list _
step_grows settings s Refuse allowed h w = same_list _
step_grows settings s Publish allowed h w = same_list _
step_grows settings s (Read worker packet draws lists answer) allowed h w =
    let (n, told, is) = h.seen worker in worker_grows s.seen worker _ (more_of n s.published s.records _ told is) w
step_grows settings s (Tell worker m) allowed h w = worker_grows s.seen worker _ (by _ refl) w
  where
    by : (b : Bool) → nat_lt (length (s.seen worker)) (length (take m s.records)) ≡ b → BeginsWith (cond b (take m s.records) (s.seen worker)) (s.seen worker)
    by true is =
        let (n, told, was) = h.seen worker in
        let most = h.published in
        let less : length (s.seen worker) < length (take m s.records) = ltb-true (length (s.seen worker)) (length (take m s.records)) is in
        let n_long : length (take n s.records) ≡ n = length-take-le n s.records (omega arith) in
        let m_long : length (take m s.records) ≡ m = length-take-le m s.records (omega arith) in
        let same = ap length was in
        more_of n m s.records _ (omega arith) was
    by false is = same_list _

-- what holds while steps follow a state: what was seen there is seen
record HasGrown (before s : RunState) : Type 0 where
  is_seen : IsSeen s
  grows : Grows s.seen before.seen

pub seen_only_grows : SeenOnlyGrows
seen_only_grows settings steps more s t run after =
    (kept_by_steps settings (HasGrown s) (λ u step allowed h. record {
      is_seen = step_seen settings u step allowed h.is_seen;
      grows = λ w. begins_through _ _ _ (step_grows settings u step allowed h.is_seen w) (h.grows w);
    }) more s t (record { is_seen = run_seen settings steps s run; grows = λ w. same_list _ }) after).grows
