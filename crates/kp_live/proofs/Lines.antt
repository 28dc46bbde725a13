-- One more line that is printed.
use Rattle.std.proofs.Common.{◌≡◌, ◌≢◌, ◌<◌, ◌+◌, ◌||◌, ℕ, zero, suc, Bool, true, false, cond, List, [], ◌∷◌, ◌++◌, length, take, drop, get_or, set, length-set, refl, ap, sym, subst, ◌∙◌, arith, add-one, append-nil, append_assoc, eq-eqb, ne_eqb}
use Rattle.std.specs.Prelude.{Result, Ok, Err, IfOk, IfSome, slice_get}
use Rattle.std.specs.List.{fold}
use Rattle.std.proofs.Math.Seq.{take-suc}
use Rattle.std.proofs.lemmas.List.{take-append-drop}
use Rattle.std.proofs.lemmas.Option.{slice_get-get_or}
use Rattle.std.proofs.lemmas.List.Sums.{fold-append}
use Rattle.kp_history_defs.specs.Runs.{at_number}
use Rattle.kp_run_defs.specs.declared.live.StreamLine.{StreamLine}
use Rattle.kp_run_defs.specs.declared.live.Work.{Work}
use Rattle.kp_run_defs.specs.declared.live.Work.TheVariants.{Feeds, Syncs, Sends}
use Rattle.kp_hub.specs.declared.notes.Refusal.{Refusal}
use Rattle.kp_io.specs.Ends.{Output}
use Rattle.kp_live.specs.declared.answers.ToldOn.{ToldOn}
use Rattle.kp_live.specs.declared.fault.LiveFault.{LiveFault}
use Rattle.kp_live.specs.Runs.{AreLeft, Telling, after_line, is_answered, is_denial, nothing_printed, telling, told_text, with_line, with_next}
use Rattle.kp_live.specs.Told.{Told, HoldsOn}
use Rattle.kp_live.specs.Written.{Prints, said_of}
use Rattle.kp_live.proofs.Printing.{prints_as, prints_flag, prints_nothing}
use Rattle.kp_live.proofs.Telling.{or_false}

-- ---- One element of a list

set_each : {X : Type 0} (P : ℕ → X → Type 0) (xs : List X) (i : ℕ) (new : X)
    → ((j : ℕ) → j ≢ i → IfSome (slice_get xs j) (P j)) → P i new
    → (j : ℕ) → IfSome (slice_get (set xs i new) j) (P j)
set_each P [] i new old p j = tt
set_each P (x ∷ xs) zero new old p zero = p
set_each P (x ∷ xs) zero new old p (suc j) = old (suc j) (λ e. absurd (omega (arith, e)))
set_each P (x ∷ xs) (suc i) new old p zero = old zero (λ e. absurd (omega (arith, e)))
set_each P (x ∷ xs) (suc i) new old p (suc j) =
    set_each (λ k. P (suc k)) xs i new
    (λ k ne. old (suc k) (λ e. ne (omega (arith, e)))) p j

-- what is left, where one stream has other answers left
left_set : (left : ℕ → List Told) (told : List ToldOn) (i : ℕ) (new : ToldOn) (rest : List Told)
    → i < length told → AreLeft left told → HoldsOn new rest
    → AreLeft (at_number left i rest) (set told i new)
left_set left told i new rest lt are holds = record {
  each =
      set_each (λ j t. HoldsOn t (at_number left i rest j)) told i new
      (λ j ne. subst (λ l. IfSome (slice_get told j) (λ t. HoldsOn t l))
      (sym (ap (λ b. cond b rest (left j)) (ne_eqb j i ne))) (are.each j))
      (subst (HoldsOn new) (sym (ap (λ b. cond b rest (left i)) (eq-eqb i i refl))) holds);
  none = λ j le.
      ap (λ b. cond b rest (left j))
      (ne_eqb j i (λ e. absurd (omega (arith, e, le, lt, length-set told i new))))
      ∙ are.none j (omega (arith, le, length-set told i new));
}

-- and where it has the same
left_same : (left : ℕ → List Told) (told : List ToldOn) (i : ℕ) (new : ToldOn)
    → AreLeft left told → HoldsOn new (left i) → AreLeft left (set told i new)
left_same left told i new are holds = record {
  each = set_each (λ j t. HoldsOn t (left j)) told i new (λ j ne. are.each j) holds;
  none = λ j le. are.none j (omega (arith, le, length-set told i new));
}

-- ---- One line

-- a line that isn't answered, or whose stream has no answers
pub not_printed : (refusals : List Refusal) (t : Telling) (line : StreamLine) (work : Work)
    → is_answered work ≡ false → with_line refusals line work t ≡ t
not_printed refusals t line (Feeds events) is = refl
not_printed refusals t line Syncs is = absurd (cc is)
not_printed refusals t line (Sends p) is = absurd (cc is)

pub printed_next : (refusals : List Refusal) (t : Telling) (line : StreamLine) (work : Work)
    → is_answered work ≡ true
    → with_line refusals line work t ≡ with_next refusals line (t.left line.stream) t
printed_next refusals t line (Feeds events) is = absurd (cc is)
printed_next refusals t line Syncs is = refl
printed_next refusals t line (Sends p) is = refl

none_left : (refusals : List Refusal) (t : Telling) (line : StreamLine) (work : Work) (b : Bool)
    → is_answered work ≡ b → t.left line.stream ≡ [] → with_line refusals line work t ≡ t
none_left refusals t line work true is none =
    printed_next refusals t line work is ∙ ap (λ l. with_next refusals line l t) none
none_left refusals t line work false is none = not_printed refusals t line work is

-- what a line leaves and prints
pub record Printed (refusals : List Refusal) (t next : Telling) (told : List ToldOn)
    (result : Result Bool LiveFault) (o0 o1 : Output) : Type 0 where
  pub left : IfOk result (λ denied. AreLeft next.left told × ((t.denied || denied) ≡ next.denied))
  pub printed : (bytes : List ℕ) × (next.text ≡ t.text ++ bytes) × Prints result bytes o0 o1

ok_map : {E : Type 0} (P Q : Bool → Type 0) → ((b : Bool) → P b → Q b) → (r : Result Bool E)
    → IfOk r P → IfOk r Q
ok_map P Q h (Ok b) p = h b p
ok_map P Q h (Err e) p = tt

-- the next answer of its stream
pub printed_some : (refusals : List Refusal) (t : Telling) (line : StreamLine)
    (told : List ToldOn) (new : ToldOn) (result : Result Bool LiveFault)
    (o0 o1 : Output) (one : Told) (rest : List Told)
    → line.stream < length told → AreLeft t.left told → HoldsOn new rest
    → IfOk result (λ denied. denied ≡ is_denial one)
    → Prints result (told_text refusals line.number one) o0 o1
    → Printed refusals t (with_next refusals line (one ∷ rest) t) (set told line.stream new) result
    o0 o1
printed_some refusals t line told new result o0 o1 one rest lt are holds denied printed =
    record {
      left =
          ok_map (λ d. d ≡ is_denial one)
          (λ d. AreLeft (at_number t.left line.stream rest) (set told line.stream new)
          × ((t.denied || d) ≡ (t.denied || is_denial one)))
          (λ d is. (
            left_set t.left told line.stream new rest lt are holds,
            ap (λ x. t.denied || x) is,
          )) result denied;
      printed = (told_text refusals line.number one, refl, printed);
    }

-- what is left of one stream
left_at : (left : ℕ → List Told) (told : List ToldOn) (i : ℕ) (d : ToldOn) → i < length told
    → AreLeft left told → HoldsOn (get_or told i d) (left i)
left_at left told i d lt are =
    subst (λ o. IfSome o (λ t. HoldsOn t (left i))) (slice_get-get_or told i d lt) (are.each i)

-- the next answer is written, if there is one
pub record PrintsNext (refusals : List Refusal) (number : ℕ) (old new : ToldOn)
    (result : Result Bool LiveFault) (o0 o1 : Output) : Type 0 where
  pub next : (one : Told) (rest : List Told) → HoldsOn old (one ∷ rest)
      → HoldsOn new rest × IfOk result (λ d. d ≡ is_denial one)
      × Prints result (told_text refusals number one) o0 o1
  pub none : HoldsOn old []
      → HoldsOn new [] × (result ≡ Ok false) × (o1 ≡ o0)

kept_nothing : (result : Result Bool LiveFault) (o0 o1 : Output) → result ≡ Ok false → o1 ≡ o0
    → Prints result [] o0 o1
kept_nothing result o0 o1 is same =
    subst (λ r. Prints r [] o0 o1) (sym is)
    (subst (Prints (Ok false) [] o0) (sym same) (prints_nothing false o0))

printed_by : (refusals : List Refusal) (t : Telling) (line : StreamLine) (told : List ToldOn)
    (old new : ToldOn) (result : Result Bool LiveFault) (o0 o1 : Output)
    (l : List Told) → line.stream < length told → AreLeft t.left told → t.left line.stream ≡ l
    → HoldsOn old l → PrintsNext refusals line.number old new result o0 o1
    → Printed refusals t (with_next refusals line l t) (set told line.stream new) result o0 o1
printed_by refusals t line told old new result o0 o1 [] lt are is holds by =
    let n = by.none holds in record {
      left =
          subst (λ r. IfOk r (λ d. AreLeft t.left (set told line.stream new)
          × ((t.denied || d) ≡ t.denied))) (sym n.1) (
            left_same t.left told line.stream new are (subst (HoldsOn new) (sym is) n.0),
            or_false t.denied,
          );
      printed =
          ([], sym (append-nil t.text), kept_nothing result o0 o1 n.1 n.2);
    }
printed_by refusals t line told old new result o0 o1 (one ∷ rest) lt are is holds by =
    let n = by.next one rest holds in
    printed_some refusals t line told new result o0 o1 one rest lt are n.0 n.1 n.2

-- a line that is answered
pub printed_line : (refusals : List Refusal) (t : Telling) (line : StreamLine)
    (told : List ToldOn) (d new : ToldOn) (result : Result Bool LiveFault)
    (o0 o1 : Output) → is_answered line.work ≡ true
    → line.stream < length told
    → PrintsNext refusals line.number (get_or told line.stream d) new result o0 o1
    → AreLeft t.left told
    → Printed refusals t (after_line refusals t line) (set told line.stream new) result o0 o1
printed_line refusals t line told d new result o0 o1 answered lt by are =
    subst (λ n. Printed refusals t n (set told line.stream new) result o0 o1)
    (sym (printed_next refusals t line line.work answered))
    (printed_by refusals t line told (get_or told line.stream d) new result o0 o1
    (t.left line.stream) lt are refl (left_at t.left told line.stream d lt are) by)

-- ---- One answer

said_is : (r : Result (Unit {0}) LiveFault) (b : Bool) → IfOk (said_of r b) (λ d. d ≡ b)
said_is (Ok u) b = refl
said_is (Err e) b = tt

-- a text of an answer, and whether it is a refusal
pub told_prints : (refusals : List Refusal) (number : ℕ) (one t : Told) (b : Bool)
    (q : Result Bool LiveFault) (r : Result (Unit {0}) LiveFault) (text : List ℕ) (o0 o1 : Output)
    → one ≡ t → is_denial t ≡ b → told_text refusals number t ≡ text → q ≡ said_of r b
    → Prints r text o0 o1
    → IfOk q (λ d. d ≡ is_denial one) × Prints q (told_text refusals number one) o0 o1
told_prints refusals number one t b q r text o0 o1 is denies shows said all =
    subst (λ x. IfOk q (λ d. d ≡ is_denial x) × Prints q (told_text refusals number x) o0 o1)
    (sym is) (
      subst (λ x. IfOk x (λ d. d ≡ is_denial t)) (sym said)
          (subst (λ y. IfOk (said_of r b) (λ d. d ≡ y)) (sym denies) (said_is r b)),
      prints_flag q r b (told_text refusals number t) o0 o1 said
          (prints_as r text (told_text refusals number t) o0 o1 (sym shows) all),
    )

-- ---- All lines

-- what one more line makes of it
pub telling_next : (refusals : List Refusal) (told : ℕ → List Told) (lines : List StreamLine)
    (i : ℕ) (line : StreamLine) → i < length lines → line ≡ get_or lines i line
    → telling refusals told (take (i + 1) lines)
    ≡ after_line refusals (telling refusals told (take i lines)) line
telling_next refusals told lines i line lt is =
    ap (λ n. telling refusals told (take n lines)) (add-one i)
    ∙ ap (telling refusals told) (take-suc lines i line lt)
    ∙ fold-append (after_line refusals) (nothing_printed told) (take i lines)
    (get_or lines i line ∷ [])
    ∙ ap (after_line refusals (telling refusals told (take i lines))) (sym is)

-- the text only grows
Grows_by : Telling → Telling → Type 0
Grows_by t next = (more : List ℕ) × (next.text ≡ t.text ++ more)

next_grows : (refusals : List Refusal) (line : StreamLine) (l : List Told) (t : Telling)
    → Grows_by t (with_next refusals line l t)
unfolding Grows_by
next_grows refusals line [] t = ([], sym (append-nil t.text))
next_grows refusals line (one ∷ rest) t = (told_text refusals line.number one, refl)

line_grows : (refusals : List Refusal) (line : StreamLine) (work : Work) (t : Telling)
    → Grows_by t (with_line refusals line work t)
unfolding Grows_by
line_grows refusals line (Feeds events) t = ([], sym (append-nil t.text))
line_grows refusals line Syncs t = next_grows refusals line (t.left line.stream) t
line_grows refusals line (Sends p) t = next_grows refusals line (t.left line.stream) t

pub text_grows : (refusals : List Refusal) (lines : List StreamLine) (t : Telling)
    → (more : List ℕ) × ((fold (after_line refusals) t lines).text ≡ t.text ++ more)
unfolding Grows_by
text_grows refusals [] t = ([], sym (append-nil t.text))
text_grows refusals (line ∷ lines) t =
    let one = line_grows refusals line line.work t in
    let rest = text_grows refusals lines (after_line refusals t line) in (
      one.0 ++ rest.0,
      rest.1 ∙ ap (λ l. l ++ rest.0) one.1 ∙ append_assoc t.text one.0 rest.0,
    )

-- the text of all lines, behind one of them
pub telling_rest : (refusals : List Refusal) (told : ℕ → List Told) (lines : List StreamLine)
    (i : ℕ) (line : StreamLine) → i < length lines → line ≡ get_or lines i line
    → (more : List ℕ)
    × ((telling refusals told lines).text
    ≡ (after_line refusals (telling refusals told (take i lines)) line).text ++ more)
telling_rest refusals told lines i line lt is =
    let now = telling refusals told (take (i + 1) lines) in
    let rest = text_grows refusals (drop (i + 1) lines) now in (
      rest.0,
      ap (λ l. (telling refusals told l).text) (sym (take-append-drop (i + 1) lines))
          ∙ ap (λ (n : Telling). n.text) (fold-append (after_line refusals) (nothing_printed told)
          (take (i + 1) lines) (drop (i + 1) lines))
          ∙ rest.1
          ∙ ap (λ (n : Telling). n.text ++ rest.0) (telling_next refusals told lines i line lt is),
    )
