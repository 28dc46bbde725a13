-- Each line that was read is of a stream that there is, so what holds of each stream's lines holds of
-- all.
use Rattle.std.proofs.Common.{◌≡◌, ◌<◌, ◌≤◌, ◌+◌, ◌==◌, ℕ, zero, suc, Bool, true, false, cond, List, [], ◌∷◌, ◌++◌, length, refl, sym, subst, arith, length-append}
use Rattle.std.specs.Prelude.{Option, Some, None, bytes_eq}
use Rattle.std.specs.List.{AllByRecursion, filter, fold, range_with_len}
use Rattle.std.proofs.lemmas.Bool.{eq-eqb, eqb-true}
use Rattle.std.proofs.lemmas.Bool.Decides.{nat_tests}
use Rattle.std.proofs.lemmas.List.Quantifiers.{position-Some}
use Rattle.kp_lemmas.proofs.ListFacts.{all_append, all_weaker}
use Rattle.kp_text_defs.specs.declared.line_refusal.LineRefusal.TheVariants.{JournalFull, StreamsFull}
use Rattle.kp_text_defs.specs.declared.said.Said.{Said}
use Rattle.kp_text_defs.specs.declared.said.Said.TheVariants.{Nothing, Asks, Refuses}
use Rattle.kp_text_defs.specs.declared.script.Op.{Op}
use Rattle.kp_text_defs.specs.declared.script.Op.TheVariants as op
use Rattle.kp_text_defs.specs.SaidLines.{given_as, said}
use Rattle.kp_text_defs.specs.StreamNames.{stream_name}
use Rattle.kp_run_defs.specs.LiveLines.{Reading, nothing_read, reading_of, after_live_line, after_said, add_op, accept_within, accept_at, accept_line, add_work, refuse_line, next_line, stream_at, is_past_streams, is_line_of}
use Rattle.kp_run_defs.specs.declared.live.StreamLine.{StreamLine}
use Rattle.kp_run_defs.specs.declared.live.Work.{Work}
use Rattle.kp_run_defs.specs.declared.live.Work.TheVariants.{Feeds, Syncs, Sends}

-- ---- Readings

-- lines are of streams that there are
abbrev pub HavePlaces : Reading → Type 0
HavePlaces r = AllByRecursion (λ (l : StreamLine). l.stream < length r.streams) r.lines

-- there may be more streams, and a line of one of them
placed_in : (r : Reading) (names : List (List ℕ)) (line : StreamLine) → HavePlaces r
    → length r.streams ≤ length names → line.stream < length names
    → AllByRecursion (λ (l : StreamLine). l.stream < length names) (r.lines ++ line ∷ [])
placed_in r names line have more there =
    all_append (λ (l : StreamLine). l.stream < length names) r.lines (line ∷ [])
    (all_weaker (λ (l : StreamLine). l.stream < length r.streams)
    (λ (l : StreamLine). l.stream < length names) (λ l lt. omega (arith, lt, more)) r.lines have)
    (there, tt)

placed : (r : Reading) (name : List ℕ) (work : Work) → HavePlaces r → (place : Option ℕ)
    → stream_at r.streams name ≡ place → HavePlaces (accept_at place name work r)
placed r name work have (Some place) is =
    placed_in r r.streams (record { number = r.number; stream = place; work = work }) have
    (omega arith) (position-Some (λ n. bytes_eq n name) r.streams place [] is).0
placed r name work have None is =
    let long = length-append r.streams (name ∷ []) in
    placed_in r (r.streams ++ name ∷ [])
    (record { number = r.number; stream = length r.streams; work = work }) have
    (omega (arith, long)) (omega (arith, long))

either : (b : Bool) (x y : Reading) → HavePlaces x → HavePlaces y → HavePlaces (cond b x y)
either true x y p q = p
either false x y p q = q

work_placed : (r : Reading) (name : List ℕ) (work : Work) → HavePlaces r
    → HavePlaces (add_work name work r)
work_placed r name work have =
    either (is_past_streams r.streams name) (refuse_line StreamsFull r) (accept_within name work r)
    have
    (either _ (refuse_line (JournalFull r.accepted) r) (accept_line name work r) have
    (placed r name work have (stream_at r.streams name) refl))

op_placed : (name : List ℕ) (o : Op) (r : Reading) → HavePlaces r → HavePlaces (add_op name o r)
op_placed name (op.Config config) r have = have
op_placed name (op.Events events) r have = work_placed r name (Feeds events) have
op_placed name op.Sync r have = work_placed r name Syncs have
op_placed name (op.Packet p) r have = work_placed r name (Sends p) have
op_placed name (op.Explain p) r have = have
op_placed name (op.Show what) r have = have

said_placed : (r : Reading) (said : Said) → HavePlaces r → HavePlaces (after_said r said)
said_placed r Nothing have = have
said_placed r (Asks line) have = op_placed (stream_name line.by) line.op (next_line r) have
said_placed r (Refuses why) have = have

lines_placed : (lines : List (List ℕ)) (r : Reading) → HavePlaces r
    → HavePlaces (fold after_live_line r lines)
lines_placed [] r have = have
lines_placed (bytes ∷ lines) r have =
    lines_placed lines (after_live_line r bytes)
    (said_placed r (said (given_as bytes) r.fresh) have)

-- of each input
pub input_placed : (input : List (List ℕ)) → HavePlaces (reading_of input)
input_placed input = lines_placed input nothing_read tt

-- ---- Streams

-- what holds of all of so many places holds of each
pub at_place : (P : ℕ → Type 0) (a n i : ℕ) → AllByRecursion P (range_with_len a n) → a ≤ i
    → i < a + n → P i
at_place P a zero i all low high = absurd (omega (arith, low, high))
at_place P a (suc n) i all low high =
    first (i == a) refl (λ more. at_place P (a + 1) n i all.1 more (omega (arith, high)))
  where
    first : (b : Bool) → (i == a) ≡ b → (a + 1 ≤ i → P i) → P i
    first true same rest = subst P (sym (eqb-true i a same)) all.0
    first false other rest = rest (grind (arith, nat_tests, low, other))

all_if : (P : StreamLine → Type 0) (b : Bool) (line : StreamLine) (rest : List StreamLine)
    → AllByRecursion P (cond b (line ∷ rest) rest) → AllByRecursion P rest
all_if P true line rest all = all.1
all_if P false line rest all = all

-- what holds of the lines of each stream holds of all lines
pub all_by_stream : (P : StreamLine → Type 0) (n : ℕ) (lines : List StreamLine)
    → AllByRecursion (λ (l : StreamLine). l.stream < n) lines
    → ((i : ℕ) → i < n → AllByRecursion P (filter (is_line_of i) lines)) → AllByRecursion P lines
all_by_stream P n [] placed each = tt
all_by_stream P n (line ∷ lines) placed each =
    let j = line.stream in
    let own = subst (λ b. AllByRecursion P (cond b (line ∷ filter (is_line_of j) lines)
    (filter (is_line_of j) lines))) (eq-eqb j j refl) (each j placed.0) in (
      own.0,
      all_by_stream P n lines placed.1
          (λ i lt. all_if P (i == j) line (filter (is_line_of i) lines) (each i lt)),
    )
