-- Each legal run keeps the looser rules, by counts.
use Rattle.std.proofs.Common.{◌≡◌, ◌==◌, ◌<◌, ◌≤◌, ◌+◌, ◌-◌, ◌&&◌, ◌||◌, ℕ, suc, Bool, true, false, cond, not, max, List, [], ◌∷◌, ◌++◌, length, refl, ap, sym, subst, ◌∙◌, arith, length-append}
use Rattle.std.specs.Prelude.{Option, Some, None, IfSome, nat_lt, nat_le, filter_map, count_by}
use Rattle.std.specs.List.{AllByRecursion, IsDistinct, cons_option, fold, list_any}
use Rattle.std.proofs.lemmas.Bool.{and_parts, eqb-true}
use Rattle.std.proofs.lemmas.Bool.Decides.{nat_tests}
use Rattle.std.proofs.lemmas.List.Sums.{sum_by-cons}
use Rattle.std.proofs.lemmas.Map.Steps.{length-le_from_distinct_below}
use Rattle.kp_lemmas.proofs.ListFacts.{all_append, all_tested, test_weaker}
use Rattle.kp_types.specs.declared.chain.Clash.{Clash}
use Rattle.kp_object_defs.specs.PackingLaws.{are_distinct}
use Rattle.kp_run_defs.specs.CountedRuns as counted
use Rattle.kp_run_defs.specs.CountedRuns.{IsCountedRun, LegalRunsAreCounted, accepted_syncs, is_accepted_sync}
use Rattle.kp_run_defs.specs.LegalRuns as legal
use Rattle.kp_run_defs.specs.LegalRuns.{LiveRun, Mark, Shows, Refuses, IsLegalRun, HaveRefusals, RefusesByClashes, Seen, nothing_seen, seen_line, seen_work, may_stop, covered_by, final_clash, last_shown, last_syncs, records_in, sync_shown, syncs_shown}
use Rattle.kp_run_defs.specs.LiveLines.{lines_of_stream, places_of}
use Rattle.kp_run_defs.specs.declared.live.StreamLine.{StreamLine}
use Rattle.kp_run_defs.specs.declared.live.Work.{Work}
use Rattle.kp_run_defs.specs.declared.live.Work.TheVariants.{Feeds, Syncs, Sends}
use Rattle.kp_run_defs.proofs.StreamPlaces.{HavePlaces, all_by_stream, at_place, input_placed}

-- ---- What streams have seen

-- what a stream has seen, and by counts: it was shown as much, and has no more syncs than that
record Counts (s : Seen) (t : counted.Seen) : Type 0 where
  most : t.most ≡ s.most
  syncs : t.syncs ≤ t.most
  fits : t.fits ≡ true

-- a number of an accepted sync is one of the records
abbrev IsRecord : LiveRun → ℕ → Type 0
IsRecord run n = (0 < n) × (n ≤ records_in run)

abbrev ShowsRecord : LiveRun → Mark → Work → Type 0
ShowsRecord run mark work = IfSome (sync_shown work mark) (IsRecord run)

-- one more line
record Fits (run : LiveRun) (mark : Mark) (work : Work) (s : Seen) (after : Seen) : Type 0 where
  before : s.fits ≡ true
  record_is : ShowsRecord run mark work
  counts : (t : counted.Seen) → Counts s t
      → Counts after (counted.seen_work (records_in run) mark work t)

line_fits : (run : LiveRun) (stream : ℕ) (mark : Mark) (work : Work) (s : Seen)
    → (seen_work run stream mark work s).fits ≡ true
    → Fits run mark work s (seen_work run stream mark work s)
line_fits run stream mark (Feeds events) s fits = record {
  before = fits;
  record_is = tt;
  counts = λ t c. record { most = c.most; syncs = c.syncs; fits = c.fits };
}
line_fits run stream (Shows n) Syncs s fits =
    let r = records_in run in
    let own = may_stop run stream s.fed (n - 1) (covered_by run n) in
    let all = and_parts s.fits (nat_lt s.most n && (nat_le n r && own)) fits in
    let newer = and_parts (nat_lt s.most n) (nat_le n r && own) all.1 in
    let there = and_parts (nat_le n r) own newer.1 in
    let lt : s.most < n = grind (arith, nat_tests, newer.0) in
    let le : n ≤ r = grind (arith, nat_tests, there.0) in record {
      before = all.0;
      record_is = (omega (arith, lt), le);
      counts = λ t c. record {
        most = ap (λ m. max m n) c.most;
        syncs = omega (arith, c.most, c.syncs, lt);
        fits =
            let few : suc t.syncs ≤ n = omega (arith, c.most, c.syncs, lt) in
            rw c.fits (grind (arith, nat_tests, few, le));
      };
    }
line_fits run stream (Refuses clash) Syncs s fits = record {
  before = fits;
  record_is = tt;
  counts = λ t c. record { most = c.most; syncs = c.syncs; fits = c.fits };
}
line_fits run stream (Shows n) (Sends p) s fits =
    let r = records_in run in
    let all = and_parts s.fits (nat_le s.most n && nat_le n r) fits in record {
      before = all.0;
      record_is = tt;
      counts = λ t c. record {
        most = ap (λ m. max m n) c.most;
        syncs = omega (arith, c.syncs);
        fits = rw (c.fits, c.most) all.1;
      };
    }
line_fits run stream (Refuses clash) (Sends p) s fits = absurd (cc fits)

-- each of some lines shows a record, where the last fits
record AllFit (run : LiveRun) (s : Seen) (lines : List StreamLine) : Type 0 where
  before : s.fits ≡ true
  records : AllByRecursion (λ (l : StreamLine). ShowsRecord run (run.marks l.number) l.work) lines
  counts : (t : counted.Seen) → Counts s t
      → (fold (counted.seen_line run) t lines).fits ≡ true

all_fit : (run : LiveRun) (s : Seen) (lines : List StreamLine)
    → (fold (seen_line run) s lines).fits ≡ true → AllFit run s lines
all_fit run s [] fits = record { before = fits; records = tt; counts = λ t c. c.fits }
all_fit run s (line ∷ lines) fits =
    let rest = all_fit run (seen_line run s line) lines fits in
    let one = line_fits run line.stream (run.marks line.number) line.work s rest.before in record {
      before = one.before;
      records = (one.record_is, rest.records);
      counts = λ t c.
          rest.counts (counted.seen_work (records_in run) (run.marks line.number) line.work t)
          (one.counts t c);
    }

-- a stream whose lines fit
stream_fits : (run : LiveRun) (lines : List StreamLine)
    → (fold (seen_line run) nothing_seen lines).fits ≡ true → AllFit run nothing_seen lines
stream_fits run lines fits = all_fit run nothing_seen lines fits

nothing_counts : Counts nothing_seen counted.nothing_seen
nothing_counts = record { most = refl; syncs = omega arith; fits = refl }

-- ---- What refused lines name

named : (run : LiveRun) (s : Seen) (lines : List StreamLine) → HaveRefusals run s lines
    → AllByRecursion (counted.HasRefusal run) lines
named run s [] have = tt
named run s (line ∷ lines) have = (
  λ is. clash (run.marks line.number) (have.0 is),
  named run (seen_line run s line) lines have.1,
)
  where
    clash : (mark : Mark) → legal.IsRefusal run line.stream s mark → counted.IsRefusal run mark
    clash (Shows n) is = tt
    clash (Refuses c) is = (is.events, is.is_clash)

-- ---- How many records there are

-- none of these is the same
apart_from : (x : ℕ) (xs : List ℕ) → not (list_any (λ y. x == y) xs) ≡ true
    → AllByRecursion (λ y. (x == y) ≡ false) xs
apart_from x [] h = tt
apart_from x (y ∷ xs) h = first (x == y) refl h (apart_from x xs)
  where
    first : (b : Bool) → (x == y) ≡ b → not (b || list_any (λ y. x == y) xs) ≡ true
        → (not (list_any (λ y. x == y) xs) ≡ true → AllByRecursion (λ y. (x == y) ≡ false) xs)
        → ((x == y) ≡ false) × AllByRecursion (λ y. (x == y) ≡ false) xs
    first true is h rest = absurd (cc h)
    first false is h rest = (is, rest h)

distinct : (xs : List ℕ) → are_distinct (λ n m. n == m) xs ≡ true → IsDistinct (λ n m. n == m) xs
unfolding IsDistinct
distinct [] h = tt
distinct (x ∷ xs) h =
    let both = and_parts (not (list_any (λ y. x == y) xs)) (are_distinct (λ n m. n == m) xs) h in
    (apart_from x xs both.0, distinct xs both.1)

-- each that is there is one of so many
member_is : (P : ℕ → Type 0) (xs : List ℕ) → AllByRecursion P xs → (q : ℕ)
    → list_any (λ y. q == y) xs ≡ true → P q
member_is P [] all q has = absurd (cc has)
member_is P (x ∷ xs) all q has = first (q == x) refl has (member_is P xs all.1 q)
  where
    first : (b : Bool) → (q == x) ≡ b → (b || list_any (λ y. q == y) xs) ≡ true
        → (list_any (λ y. q == y) xs ≡ true → P q) → P q
    first true is h rest = subst P (sym (eqb-true q x is)) all.0
    first false is h rest = rest h

not_zero : (r : ℕ) (xs : List ℕ) → AllByRecursion (λ n. (0 < n) × (n ≤ r)) xs
    → AllByRecursion (λ y. (0 == y) ≡ false) xs
not_zero r [] all = tt
not_zero r (x ∷ xs) all = (grind (arith, nat_tests, all.0.0), not_zero r xs all.1)

below : (r : ℕ) (xs : List ℕ) → AllByRecursion (λ n. (0 < n) × (n ≤ r)) xs
    → AllByRecursion (λ n. n < suc r) xs
below r [] all = tt
below r (x ∷ xs) all = (omega (arith, all.0.1), below r xs all.1)

-- different numbers from 1 to r are at most r
few : (r : ℕ) (xs : List ℕ) → AllByRecursion (λ n. (0 < n) × (n ≤ r)) xs
    → are_distinct (λ n m. n == m) xs ≡ true → length xs ≤ r
unfolding IsDistinct
few r xs all apart =
    let more : suc (length xs) ≤ suc r =
    length-le_from_distinct_below (0 ∷ xs) (suc r) (not_zero r xs all, distinct xs apart)
    (member_is (λ n. n < suc r) (0 ∷ xs) (omega arith, below r xs all)) in
    omega (arith, more)

-- numbers of some elements
all_mapped : {X : Type 0} (P : ℕ → Type 0) (f : X → Option ℕ) (xs : List X)
    → AllByRecursion (λ x. IfSome (f x) P) xs → AllByRecursion P (filter_map f xs)
all_mapped P f [] all = tt
all_mapped P f (x ∷ xs) all = first (f x) all.0 (all_mapped P f xs all.1)
  where
    first : (o : Option ℕ) → IfSome o P → AllByRecursion P (filter_map f xs)
        → AllByRecursion P (cons_option o (filter_map f xs))
    first None p rest = rest
    first (Some n) p rest = (p, rest)

-- as many syncs are accepted as numbers are shown
as_many : (run : LiveRun) (lines : List StreamLine)
    → count_by (is_accepted_sync run) lines
    ≡ length (filter_map (λ line. sync_shown line.work (run.marks line.number)) lines)
as_many run [] = refl
as_many run (line ∷ lines) =
    sum_by-cons (λ l. cond (is_accepted_sync run l) 1 0) line lines
    ∙ first line.work (run.marks line.number) (as_many run lines)
  where
    rest : List ℕ
    rest = filter_map (λ l. sync_shown l.work (run.marks l.number)) lines

    first : (work : Work) (mark : Mark) → count_by (is_accepted_sync run) lines ≡ length rest
        → cond (legal.is_sync work && legal.is_shown mark) 1 0 + count_by (is_accepted_sync run) lines
        ≡ length (cons_option (sync_shown work mark) rest)
    first (Feeds events) mark same = omega (arith, same)
    first Syncs (Shows n) same = omega (arith, same)
    first Syncs (Refuses clash) same = omega (arith, same)
    first (Sends p) mark same = omega (arith, same)

last_is : (r : ℕ) (clash : Option Clash) → last_syncs clash ≤ r
    → AllByRecursion (λ n. (0 < n) × (n ≤ r)) (last_shown r clash)
last_is r None le = ((omega (arith, le), omega arith), tt)
last_is r (Some clash) le = tt

last_long : (r : ℕ) (clash : Option Clash) → last_syncs clash ≡ length (last_shown r clash)
last_long r None = refl
last_long r (Some clash) = refl

-- ---- Runs

pub legal_is_counted : LegalRunsAreCounted
legal_is_counted run input is good =
    let r = records_in run in
    let have : HavePlaces run.reading = subst HavePlaces (sym is) (input_placed input) in
    let streams = length run.reading.streams in
    let fits = all_tested (λ stream. (legal.seen_by run stream).fits) (places_of run.reading) good.seen in
    let records : AllByRecursion
    (λ (l : StreamLine). ShowsRecord run (run.marks l.number) l.work) run.reading.lines =
    all_by_stream (λ (l : StreamLine). ShowsRecord run (run.marks l.number) l.work) streams
    run.reading.lines have
    (λ i lt. (stream_fits run (lines_of_stream run.reading i)
    (at_place (λ stream. (legal.seen_by run stream).fits ≡ true) 0 streams i fits (omega arith) (omega (arith, lt)))).records) in
    let last = last_shown r (final_clash run) in
    let long : length (syncs_shown run ++ last) ≡ length (syncs_shown run) + length last =
    length-append (syncs_shown run) last in
    let most : length (syncs_shown run ++ last) ≤ r =
    few r (syncs_shown run ++ last)
    (all_append (λ n. (0 < n) × (n ≤ r)) (syncs_shown run) last
    (all_mapped (λ n. (0 < n) × (n ≤ r))
    (λ (line : StreamLine). sync_shown line.work (run.marks line.number)) run.reading.lines records)
    (last_is r (final_clash run) good.apart.last)) good.apart.numbers in record {
      journal = good.journal;
      tables = good.tables;
      covered = good.covered;
      seen =
          test_weaker (λ stream. (legal.seen_by run stream).fits)
          (λ stream. (counted.seen_by run stream).fits)
          (λ i f. (stream_fits run (lines_of_stream run.reading i) f).counts counted.nothing_seen nothing_counts)
          (places_of run.reading) good.seen;
      refusals =
          all_by_stream (counted.HasRefusal run) streams run.reading.lines have
          (λ i lt. named run nothing_seen (lines_of_stream run.reading i)
          (at_place (RefusesByClashes run) 0 streams i good.refusals (omega arith) (omega (arith, lt))));
      enough = omega (arith, most, long, as_many run run.reading.lines, last_long r (final_clash run));
    }
