-- Pieces that are written one behind another.
use Rattle.std.proofs.Common.{◌≡◌, ◌<◌, ◌+◌, ℕ, zero, suc, Bool, true, false, List, [], ◌∷◌, ◌++◌, length, take, drop, get_or, refl, ap, sym, subst, ◌∙◌, arith, add-one, add-zero, append_assoc, append-nil}
use Rattle.std.specs.Prelude.{Result, Ok, Err, IfSome, OnOk, OnErr, nat_le, slice_get}
use Rattle.std.specs.List.{flat_map}
use Rattle.std.proofs.lemmas.Bool.{leb-true, leb-false}
use Rattle.std.proofs.Math.Seq.{take-append-add, take-append_seam, take-suc}
use Rattle.std.proofs.lemmas.Grind.{flat_map-append}
use Rattle.std.proofs.lemmas.List.{flat_map_more, length-take-le, take-append-drop, take-append-le, take_all}
use Rattle.kp_io.specs.Ends.{Output}
use Rattle.kp_io.specs.Faults.{Rose}
use Rattle.kp_io.specs.Told.{Grows}
use Rattle.kp_io.proofs.Told.{Grows-nil, Grows-trans}
use Rattle.kp_live.specs.declared.fault.LiveFault.{LiveFault}
use Rattle.kp_history_defs.specs.declared.fed.Fed.{Fed}
use Rattle.kp_text_defs.specs.Live.{event_text, record_text}
use Rattle.kp_run_defs.specs.LiveText.{journal_text}
use Rattle.kp_hub.specs.declared.notes.RecordNote.{RecordNote}
use Rattle.kp_live.specs.Runs.{note_text, notes_text}
use Rattle.kp_live.specs.Written.{GrowsFront, Prints, said_of}

-- a front of the first part is one of the whole
front_by : (a b : List ℕ) (o0 o1 : Output) (n : ℕ) → Grows o0.written o1.written (take n a)
    → (t : Bool) → nat_le n (length a) ≡ t → GrowsFront o0 o1 (a ++ b)
front_by a b o0 o1 n grown true is = (
  n,
  subst (Grows o0.written o1.written) (sym (take-append-le n a b (leb-true n (length a) is))) grown,
)
front_by a b o0 o1 n grown false is = (
  length a,
  subst (Grows o0.written o1.written) (sym (take-append_seam a b))
      (subst (Grows o0.written o1.written) (take_all n a (omega (arith, leb-false n (length a) is)))
      grown),
)

pub front_of : (a b : List ℕ) (o0 o1 : Output) → GrowsFront o0 o1 a → GrowsFront o0 o1 (a ++ b)
front_of a b o0 o1 front =
    front_by a b o0 o1 front.0 front.1 (nat_le front.0 (length a)) refl

-- the first part, and a front of the second
pub front_behind : (a b : List ℕ) (o0 o1 o2 : Output) → Grows o0.written o1.written a
    → GrowsFront o1 o2 b → GrowsFront o0 o2 (a ++ b)
front_behind a b o0 o1 o2 first second = (
  length a + second.0,
  subst (Grows o0.written o2.written) (sym (take-append-add a b second.0))
      (Grows-trans o0.written o1.written o2.written a (take second.0 b) first second.1),
)

-- nothing was written, and nothing had to be
pub prints_nothing : {T : Type 0} (x : T) (out : Output) → Prints (Ok x) [] out out
prints_nothing x out = record {
  whole = Grows-nil out.written;
  front = tt;
  later = omega arith;
  sure = refl;
  failed = λ is. absurd (cc is);
  wanted = λ refused is. absurd (cc is);
  other = tt;
}

-- the rest behind a first part
pub prints_then : {T U : Type 0} (x : T) (q : Result U LiveFault) (a b : List ℕ)
    (o0 o1 o2 : Output) → Prints (Ok x) a o0 o1 → Prints q b o1 o2 → Prints q (a ++ b) o0 o2
prints_then x (Ok y) a b o0 o1 o2 first second = record {
  whole = Grows-trans o0.written o1.written o2.written a b first.whole second.whole;
  front = tt;
  later = omega (arith, first.later, second.later);
  sure = second.sure ∙ first.sure;
  failed = λ is. absurd (cc is);
  wanted = λ refused is. absurd (cc is);
  other = tt;
}
prints_then x (Err e) a b o0 o1 o2 first second = record {
  whole = tt;
  front = front_behind a b o0 o1 o2 first.whole second.front;
  later = omega (arith, first.later, second.later);
  sure = tt;
  failed = λ is. subst (λ f. Rose f o2.faults) first.sure (second.failed is);
  wanted = λ refused is. second.wanted refused is ∙ first.sure;
  other = second.other;
}

-- a first part that wasn't written whole
pub prints_stopped : {T U : Type 0} (e : LiveFault) (a b : List ℕ) (o0 o1 : Output)
    → Prints {T = T} (Err e) a o0 o1 → Prints {T = U} (Err e) (a ++ b) o0 o1
prints_stopped {T = T} {U = U} e a b o0 o1 first = record {
  whole = tt;
  front = front_of a b o0 o1 first.front;
  later = first.later;
  sure = tt;
  failed = λ is. first.failed (same_fault is);
  wanted = λ refused is. first.wanted refused (same_fault is);
  other = first.other;
}
  where
    same_fault : {fault : LiveFault} → ◌≡◌ {A = Result U LiveFault} (Err e) (Err fault)
        → ◌≡◌ {A = Result T LiveFault} (Err e) (Err fault)
    same_fault is = ap Err (cc is)

-- a text that was made, or that there was no memory for
pub made_prints : {T U E : Type 0} (made : Result U E) (result : Result T LiveFault)
    (bytes whole : List ℕ) (o0 o1 : Output) → OnOk made (bytes ≡ whole)
    → OnOk made (Prints result bytes o0 o1)
    → OnErr made ((text : List ℕ) → Prints result text o0 o1) → Prints result whole o0 o1
made_prints (Ok x) result bytes whole o0 o1 is ok err = subst (λ b. Prints result b o0 o1) is ok
made_prints (Err e) result bytes whole o0 o1 is ok err = err whole

-- the same text, and any answer beside it
pub prints_as : {T : Type 0} (r : Result T LiveFault) (a b : List ℕ) (o0 o1 : Output) → a ≡ b
    → Prints r a o0 o1 → Prints r b o0 o1
prints_as r a b o0 o1 is all = subst (λ l. Prints r l o0 o1) is all

pub prints_any : {A B : Type 0} (x : A) (y : B) (text : List ℕ) (o0 o1 : Output)
    → Prints {T = A} (Ok x) text o0 o1 → Prints {T = B} (Ok y) text o0 o1
prints_any x y text o0 o1 all = record {
  whole = all.whole;
  front = tt;
  later = all.later;
  sure = all.sure;
  failed = λ is. absurd (cc is);
  wanted = λ refused is. absurd (cc is);
  other = tt;
}

-- one more piece was written
pub prints_next : (before piece after : List ℕ) (u v : Unit {0}) (o0 o1 o2 : Output)
    → after ≡ before ++ piece → Prints {T = Unit {0}} (Ok u) before o0 o1
    → Prints {T = Unit {0}} (Ok v) piece o1 o2 → Prints {T = Unit {0}} (Ok v) after o0 o2
prints_next before piece after u v o0 o1 o2 is first one =
    subst (λ l. Prints {T = Unit {0}} (Ok v) l o0 o2) (sym is)
    (prints_then u (Ok v) before piece o0 o1 o2 first one)

-- a piece wasn't written whole
pub prints_broken : {A B C : Type 0} (before piece rest whole : List ℕ) (u : A) (e : LiveFault)
    (o0 o1 o2 : Output) → whole ≡ before ++ piece ++ rest → Prints {T = A} (Ok u) before o0 o1
    → Prints {T = B} (Err e) piece o1 o2 → Prints {T = C} (Err e) whole o0 o2
prints_broken {B = B} {C = C} before piece rest whole u e o0 o1 o2 is first one =
    subst (λ l. Prints {T = C} (Err e) l o0 o2) (sym is)
    (prints_stopped {T = B} {U = C} e (before ++ piece) rest o0 o2
    (prints_then {U = B} u (Err e) before piece o0 o1 o2 first one))

-- of three parts the first was not written whole
pub prints_first : {A C : Type 0} (a b c whole : List ℕ) (e : LiveFault) (o0 o1 : Output)
    → whole ≡ a ++ b ++ c → Prints {T = A} (Err e) a o0 o1 → Prints {T = C} (Err e) whole o0 o1
prints_first {A = A} {C = C} a b c whole e o0 o1 is first =
    subst (λ l. Prints {T = C} (Err e) l o0 o1) (sym (is ∙ append_assoc a b c))
    (prints_stopped {T = A} {U = C} e a (b ++ c) o0 o1 first)

-- all three were
pub prints_three : {A B T : Type 0} (a b c whole : List ℕ) (u : A) (v : B)
    (q : Result T LiveFault) (o0 o1 o2 o3 : Output) → whole ≡ a ++ b ++ c
    → Prints {T = A} (Ok u) a o0 o1 → Prints {T = B} (Ok v) b o1 o2 → Prints q c o2 o3
    → Prints q whole o0 o3
prints_three a b c whole u v q o0 o1 o2 o3 is first second third =
    subst (λ l. Prints q l o0 o3) (sym is)
    (prints_then v q (a ++ b) c o0 o2 o3 (prints_then u (Ok v) a b o0 o1 o2 first second) third)

-- a flag beside what was written
pub prints_said : (r : Result (Unit {0}) LiveFault) (b : Bool) (text : List ℕ) (o0 o1 : Output)
    → Prints r text o0 o1 → Prints (said_of r b) text o0 o1
prints_said (Ok u) b text o0 o1 all = prints_any u b text o0 o1 all
prints_said (Err e) b text o0 o1 all =
    prints_as (Err e) (text ++ []) text o0 o1 (append-nil text)
    (prints_stopped {T = Unit {0}} {U = Bool} e text [] o0 o1 all)

pub prints_flag : (q : Result Bool LiveFault) (r : Result (Unit {0}) LiveFault) (b : Bool)
    (text : List ℕ) (o0 o1 : Output) → q ≡ said_of r b → Prints r text o0 o1
    → Prints q text o0 o1
prints_flag q r b text o0 o1 is all =
    subst (λ x. Prints x text o0 o1) (sym is) (prints_said r b text o0 o1 all)

-- ---- Texts of lists

pub next_text : {X : Type 0} (f : X → List ℕ) (xs : List X) (i : ℕ) (x : X) → i < length xs
    → x ≡ get_or xs i x → flat_map f (take (i + 1) xs) ≡ flat_map f (take i xs) ++ f x
next_text f xs i x lt is =
    ap (λ n. flat_map f (take n xs)) (add-one i)
    ∙ ap (flat_map f) (take-suc xs i x lt)
    ∙ sym (flat_map_more f [] (take i xs) (get_or xs i x))
    ∙ ap (λ y. flat_map f (take i xs) ++ f y) (sym is)

pub rest_text : {X : Type 0} (f : X → List ℕ) (xs : List X) (i : ℕ) (x : X) → i < length xs
    → x ≡ get_or xs i x
    → flat_map f xs ≡ flat_map f (take i xs) ++ f x ++ flat_map f (drop (i + 1) xs)
rest_text f xs i x lt is =
    ap (flat_map f) (sym (take-append-drop (i + 1) xs))
    ∙ flat_map-append f (take (i + 1) xs) (drop (i + 1) xs)
    ∙ ap (λ l. l ++ flat_map f (drop (i + 1) xs)) (next_text f xs i x lt is)

-- the journal, from a place on
journal_append : (streams : List (List ℕ)) (n : ℕ) (xs ys : List Fed)
    → journal_text streams n (xs ++ ys)
    ≡ journal_text streams n xs ++ journal_text streams (n + length xs) ys
journal_append streams n [] ys =
    ap (λ k. journal_text streams k ys) (sym (add-zero n))
journal_append streams n (x ∷ xs) ys =
    ap (λ l. event_text n (get_or streams x.feeder []) x.number x.event ++ l)
    (journal_append streams (suc n) xs ys
    ∙ ap (λ k. journal_text streams (suc n) xs ++ journal_text streams k ys)
    (omega arith))
    ∙ sym (append_assoc (event_text n (get_or streams x.feeder []) x.number x.event)
    (journal_text streams (suc n) xs) (journal_text streams (n + suc (length xs)) ys))

pub next_event : (streams : List (List ℕ)) (xs : List Fed) (i : ℕ) (x : Fed) → i < length xs
    → x ≡ get_or xs i x
    → journal_text streams 1 (take (i + 1) xs)
    ≡ journal_text streams 1 (take i xs)
    ++ event_text (i + 1) (get_or streams x.feeder []) x.number x.event
next_event streams xs i x lt is =
    let there : 1 + length (take i xs) ≡ i + 1 =
    omega (arith, length-take-le i xs (omega (arith, lt))) in
    ap (λ n. journal_text streams 1 (take n xs)) (add-one i)
    ∙ ap (journal_text streams 1) (take-suc xs i x lt)
    ∙ journal_append streams 1 (take i xs) (get_or xs i x ∷ [])
    ∙ (λ k. journal_text streams 1 (take i xs) ++ journal_text streams (there k) (sym is k ∷ []))
    ∙ ap (λ l. journal_text streams 1 (take i xs) ++ l)
    (append-nil (event_text (i + 1) (get_or streams x.feeder []) x.number x.event))

pub rest_events : (streams : List (List ℕ)) (xs : List Fed) (i : ℕ) (x : Fed) → i < length xs
    → x ≡ get_or xs i x
    → journal_text streams 1 xs
    ≡ journal_text streams 1 (take i xs)
    ++ event_text (i + 1) (get_or streams x.feeder []) x.number x.event
    ++ journal_text streams (1 + length (take (i + 1) xs)) (drop (i + 1) xs)
rest_events streams xs i x lt is =
    ap (journal_text streams 1) (sym (take-append-drop (i + 1) xs))
    ∙ journal_append streams 1 (take (i + 1) xs) (drop (i + 1) xs)
    ∙ ap (λ l. l ++ journal_text streams (1 + length (take (i + 1) xs)) (drop (i + 1) xs))
    (next_event streams xs i x lt is)

-- the records, from a place on
notes_append : (n : ℕ) (xs ys : List RecordNote)
    → notes_text n (xs ++ ys) ≡ notes_text n xs ++ notes_text (n + length xs) ys
notes_append n [] ys = ap (λ k. notes_text k ys) (sym (add-zero n))
notes_append n (x ∷ xs) ys =
    ap (λ l. note_text n x ++ l)
    (notes_append (n + 1) xs ys
    ∙ ap (λ k. notes_text (n + 1) xs ++ notes_text k ys) (omega arith))
    ∙ sym (append_assoc (note_text n x) (notes_text (n + 1) xs)
    (notes_text (n + suc (length xs)) ys))

pub next_note : (xs : List RecordNote) (i : ℕ) (d : RecordNote) → i < length xs
    → notes_text 0 (take (i + 1) xs)
    ≡ notes_text 0 (take i xs)
    ++ record_text (i + 1) (get_or xs i d).events (get_or xs i d).written (get_or xs i d).removed
next_note xs i d lt =
    let there : 0 + length (take i xs) ≡ i =
    omega (arith, length-take-le i xs (omega (arith, lt))) in
    let x = get_or xs i d in
    ap (λ n. notes_text 0 (take n xs)) (add-one i)
    ∙ ap (notes_text 0) (take-suc xs i d lt)
    ∙ notes_append 0 (take i xs) (x ∷ [])
    ∙ (λ k. notes_text 0 (take i xs) ++ notes_text (there k) (x ∷ []))
    ∙ ap (λ l. notes_text 0 (take i xs) ++ l) (append-nil (note_text i x))
    ∙ ap (λ n. notes_text 0 (take i xs) ++ record_text n x.events x.written x.removed)
    (sym (add-one i))

pub rest_notes : (xs : List RecordNote) (i : ℕ) (d : RecordNote) → i < length xs
    → notes_text 0 xs
    ≡ notes_text 0 (take i xs)
    ++ record_text (i + 1) (get_or xs i d).events (get_or xs i d).written (get_or xs i d).removed
    ++ notes_text (0 + length (take (i + 1) xs)) (drop (i + 1) xs)
rest_notes xs i d lt =
    ap (notes_text 0) (sym (take-append-drop (i + 1) xs))
    ∙ notes_append 0 (take (i + 1) xs) (drop (i + 1) xs)
    ∙ ap (λ l. l ++ notes_text (0 + length (take (i + 1) xs)) (drop (i + 1) xs))
    (next_note xs i d lt)

-- ---- Lists by their places

-- one more element at the end
pub pushed_each : {X : Type 0} (P : ℕ → X → Type 0) (xs : List X) (x : X)
    → ((i : ℕ) → IfSome (slice_get xs i) (P i)) → P (length xs) x
    → (i : ℕ) → IfSome (slice_get (xs ++ x ∷ []) i) (P i)
pushed_each P [] x each new zero = new
pushed_each P [] x each new (suc i) = tt
pushed_each P (y ∷ xs) x each new zero = each zero
pushed_each P (y ∷ xs) x each new (suc i) =
    pushed_each (λ k. P (suc k)) xs x (λ k. each (suc k)) new i
