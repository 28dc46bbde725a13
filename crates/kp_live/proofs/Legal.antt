-- What streams were answered, and what their hub handed out, is a run that the rules allow.
use Rattle.std.proofs.Common.{◌≡◌, ◌<◌, ◌+◌, ◌==◌, ◌&&◌, ◌||◌, ℕ, suc, Bool, true, false, cond, not, List, [], ◌∷◌, map, refl, ap, sym, subst, ◌∙◌, arith}
use Rattle.std.specs.Prelude.{count_by, nat_le}
use Rattle.std.specs.List.{AllByRecursion, filter, fold, list_any}
use Rattle.std.proofs.lemmas.Bool.{eqb-true, eq-eqb, leb-true}
use Rattle.std.proofs.lemmas.List.Sums.{sum_by-cons}
use Rattle.kp_run_defs.specs.CountedRuns.{Seen, nothing_seen, seen_line, seen_by, seen_work, is_accepted_sync}
use Rattle.kp_run_defs.specs.LegalRuns.{LiveRun, Mark, Shows, Refuses, is_sync, is_shown, records_in}
use Rattle.kp_run_defs.specs.LiveLines.{lines_of_stream}
use Rattle.kp_run_defs.specs.LiveText.{is_refused_sync}
use Rattle.kp_run_defs.specs.declared.live.StreamLine.{StreamLine}
use Rattle.kp_run_defs.specs.declared.live.Work.{Work}
use Rattle.kp_pack_laws.proofs.Shuffles.{all_unmapped}
use Rattle.kp_run_defs.specs.declared.live.Work.TheVariants.{Feeds, Syncs, Sends}
use Rattle.kp_hub.specs.declared.notes.Refusal.{Refusal}
use Rattle.kp_live.specs.Streams.{Shown, is_accepted, is_denied, seen_from, see_shown}
use Rattle.kp_live.proofs.Merging.{line_of, is_shown_of}
use Rattle.kp_live.proofs.Readings.{AreRising}
use Rattle.kp_live.proofs.Telling.{HasRecord, settled}

-- ---- Lists

pub all_both : {A : Type 0} (P Q S : A → Type 0) → ((x : A) → P x → Q x → S x) → (xs : List A)
    → AllByRecursion P xs → AllByRecursion Q xs → AllByRecursion S xs
all_both P Q S h [] p q = tt
all_both P Q S h (x ∷ xs) p q = (h x p.0 q.0, all_both P Q S h xs p.1 q.1)

-- a fact of all elements, by their streams
all_if : (P : Shown → Type 0) (b : Bool) (s : Shown) (rest : List Shown)
    → AllByRecursion P (cond b (s ∷ rest) rest) → AllByRecursion P rest
all_if P true s rest all = all.1
all_if P false s rest all = all

pub all_by_stream : (P : Shown → Type 0) (all : List Shown)
    → ((i : ℕ) → AllByRecursion P (filter (is_shown_of i) all)) → AllByRecursion P all
all_by_stream P [] each = tt
all_by_stream P (s ∷ all) each =
    let j = s.0.stream in
    let own = subst (λ b. AllByRecursion P (cond b (s ∷ filter (is_shown_of j) all)
    (filter (is_shown_of j) all))) (eq-eqb j j refl) (each j) in
    (own.0, all_by_stream P all (λ i. all_if P (i == j) s (filter (is_shown_of i) all) (each i)))

filter_by : (P : Shown → Type 0) (b : Bool) (s : Shown) (rest : List Shown) → P s
    → AllByRecursion P rest → AllByRecursion P (cond b (s ∷ rest) rest)
filter_by P true s rest p all = (p, all)
filter_by P false s rest p all = all

pub all_filter : (P : Shown → Type 0) (i : ℕ) (all : List Shown) → AllByRecursion P all
    → AllByRecursion P (filter (is_shown_of i) all)
all_filter P i [] each = tt
all_filter P i (s ∷ all) each =
    filter_by P (i == s.0.stream) s (filter (is_shown_of i) all) each.0
    (all_filter P i all each.1)

-- ---- What lines could show

pub first_true : (a b : Bool) → (a && b) ≡ true → a ≡ true
first_true true b is = refl
first_true false b is = absurd (cc is)

pub second_true : (a b : Bool) → (a && b) ≡ true → b ≡ true
second_true true b is = is
second_true false b is = absurd (cc is)

step_has : (r : ℕ) (m : Mark) (work : Work) (s : Seen) → (seen_work r m work s).fits ≡ true
    → (s.fits ≡ true) × HasRecord r m work
step_has r m (Feeds events) s is = (is, tt)
step_has r (Shows n) Syncs s is =
    (first_true s.fits (nat_le (suc s.syncs) n && nat_le n r) is, tt)
step_has r (Refuses clash) Syncs s is = (is, tt)
step_has r (Shows n) (Sends p) s is = (
  first_true s.fits (nat_le s.most n && nat_le n r) is,
  leb-true n r (second_true (nat_le s.most n) (nat_le n r)
      (second_true s.fits (nat_le s.most n && nat_le n r) is)),
)
step_has r (Refuses clash) (Sends p) s is = absurd (cc is)

-- each line could show what it does
pub fits_has : (r : ℕ) (shown : List Shown) (s : Seen)
    → (fold (see_shown r) s shown).fits ≡ true
    → (s.fits ≡ true) × AllByRecursion (λ (x : Shown). HasRecord r x.1 x.0.work) shown
fits_has r [] s is = (is, tt)
fits_has r (x ∷ shown) s is =
    let rest = fits_has r shown (see_shown r s x) is in
    let one = step_has r x.1 x.0.work s rest.0 in
    (one.0, (one.1, rest.1))

-- ---- What a line shows, by its number

abbrev pub mark_at : List Shown → ℕ → Mark
mark_at [] number = Shows 0
mark_at (s ∷ all) number = cond (s.0.number == number) s.1 (mark_at all number)

not_equal : (a b : ℕ) → (t : Bool) → (a == b) ≡ t → a < b → t ≡ false
not_equal a b true is lt = absurd (omega (arith, lt, eqb-true a b is))
not_equal a b false is lt = refl

pub marks_found : (all : List Shown) → AreRising (map line_of all)
    → AllByRecursion (λ (s : Shown). mark_at all s.0.number ≡ s.1) all
marks_found [] rising = tt
marks_found (s ∷ all) rising = (
  ap (λ b. cond b s.1 (mark_at all s.0.number)) (eq-eqb s.0.number s.0.number refl),
  all_both (λ (x : Shown). s.0.number < x.0.number) (λ (x : Shown). mark_at all x.0.number ≡ x.1)
      (λ (x : Shown). mark_at (s ∷ all) x.0.number ≡ x.1)
      (λ x lt found.
      ap (λ b. cond b s.1 (mark_at all x.0.number))
      (not_equal s.0.number x.0.number (s.0.number == x.0.number) refl lt) ∙ found)
      all (all_unmapped (λ (l : StreamLine). s.0.number < l.number) line_of all rising.0)
      (marks_found all rising.1),
)

-- how many pass
pub count_cons : {A : Type 0} (p : A → Bool) (x : A) (xs : List A)
    → count_by p (x ∷ xs) ≡ cond (p x) 1 0 + count_by p xs
count_cons p x xs = sum_by-cons (λ y. cond (p y) 1 0) x xs

module _ (run : LiveRun) (refusals : List Refusal) where
  -- a line shows what it was answered
  abbrev pub ShowsIt : Shown → Type 0
  ShowsIt s = run.marks s.0.number ≡ settled refusals s.1

  -- ---- What streams have seen

  settled_seen : (records : ℕ) (m : Mark) (work : Work) (s : Seen)
      → seen_work records (settled refusals m) work s ≡ seen_work records m work s
  settled_seen records (Shows n) work s = refl
  settled_seen records (Refuses clash) (Feeds events) s = refl
  settled_seen records (Refuses clash) Syncs s = refl
  settled_seen records (Refuses clash) (Sends p) s = refl

  seen_same : (shown : List Shown) (s : Seen) → AllByRecursion ShowsIt shown
      → fold (seen_line run) s (map line_of shown) ≡ fold (see_shown (records_in run)) s shown
  seen_same [] s shows = refl
  seen_same (x ∷ shown) s shows =
      ap (λ q. fold (seen_line run) q (map line_of shown))
      (ap (λ m. seen_work (records_in run) m x.0.work s) shows.0
      ∙ settled_seen (records_in run) x.1 x.0.work s)
      ∙ seen_same shown (see_shown (records_in run) s x) shows.1

  -- a stream whose lines show this
  pub seen_fits : (i : ℕ) (shown : List Shown)
      → map line_of shown ≡ lines_of_stream run.reading i → AllByRecursion ShowsIt shown
      → (seen_from (records_in run) shown).fits ≡ true → (seen_by run i).fits ≡ true
  seen_fits i shown are shows fits =
      ap (λ ls. (fold (seen_line run) nothing_seen ls).fits) (sym are)
      ∙ ap (λ q. q.fits) (seen_same shown nothing_seen shows) ∙ fits

  -- ---- Counts

  settled_shown : (m : Mark) → is_shown (settled refusals m) ≡ is_shown m
  settled_shown (Shows n) = refl
  settled_shown (Refuses clash) = refl

  accepted_is : (s : Shown) → ShowsIt s → is_accepted_sync run s.0 ≡ is_accepted s
  accepted_is s shows =
      ap (λ b. is_sync s.0.work && b) (ap is_shown shows ∙ settled_shown s.1)

  denied_is : (s : Shown) → ShowsIt s → is_refused_sync run s.0 ≡ is_denied s
  denied_is s shows =
      ap (λ b. is_sync s.0.work && not b) (ap is_shown shows ∙ settled_shown s.1)

  -- as many syncs are accepted as the lines show
  pub count_accepted : (all : List Shown) → AllByRecursion ShowsIt all
      → count_by (is_accepted_sync run) (map line_of all) ≡ count_by is_accepted all
  count_accepted [] shows = refl
  count_accepted (s ∷ all) shows =
      count_cons (is_accepted_sync run) s.0 (map line_of all)
      ∙ (λ i. cond (accepted_is s shows.0 i) 1 0 + count_accepted all shows.1 i)
      ∙ sym (count_cons is_accepted s all)

  -- a sync is refused where a line shows it
  pub any_refused : (all : List Shown) → AllByRecursion ShowsIt all
      → list_any (is_refused_sync run) (map line_of all) ≡ list_any is_denied all
  any_refused [] shows = refl
  any_refused (s ∷ all) shows =
      λ i. denied_is s shows.0 i || any_refused all shows.1 i
