-- Streams that are made, given their lines and taken apart one after the other.
use Rattle.std.proofs.Common.{◌≡◌, ◌<◌, ◌≤◌, ◌+◌, ℕ, zero, suc, Bool, true, false, cond, List, ◌∷◌, [], ◌++◌, map, take, drop, get_or, length, replicate, ap, sym, subst, append_assoc, refl, ◌∙◌, arith}
use Rattle.std.specs.Prelude.{IfSome, slice_get}
use Rattle.std.specs.List.{AllByRecursion, filter}
use Rattle.std.proofs.Math.ListN.{set}
use Rattle.std.proofs.Math.Seq.{map-set_same}
use Rattle.std.proofs.lemmas.Bool.{ne_eqb, eq-eqb}
use Rattle.std.proofs.lemmas.List.{append-nil, length-append}
use Rattle.std.proofs.lemmas.List.Elements.{filter_more}
use Rattle.std.proofs.lemmas.Option.{slice_get-get_or}
use Rattle.kp_run_defs.specs.LiveLines.{is_line_of}
use Rattle.kp_run_defs.specs.declared.live.StreamLine.{StreamLine}

-- one more of a list is taken to the others
pub moves : {S B : Type 0} (left after : List S) (x : S) (f : S → B) (done more all : List B)
    → done ++ map f left ≡ all → left ≡ x ∷ after → more ≡ done ++ f x ∷ []
    → more ++ map f after ≡ all
moves left after x f done more all before is grown =
    ap (λ l. l ++ map f after) grown ∙ append_assoc done (f x ∷ []) (map f after)
    ∙ sym (ap (λ l. done ++ map f l) is) ∙ before

-- what holds of all, where it holds of those that are left
pub whole_moves : {S : Type 0} (R : S → Type 0) (left after : List S) (x : S) (all : List S)
    → (AllByRecursion R left → AllByRecursion R all) → left ≡ x ∷ after → R x
    → AllByRecursion R after → AllByRecursion R all
whole_moves R left after x all before is r rest =
    before (subst (AllByRecursion R) (sym is) (r, rest))

-- equal ones without the last
pub but_last : {A : Type 0} (n : ℕ) (ys : List A) (v w : A) → replicate (suc n) w ≡ ys ++ v ∷ []
    → ys ≡ replicate n w
but_last zero [] v w is = refl
but_last zero (y ∷ ys) v w is =
    let long : 1 ≡ suc (length (ys ++ v ∷ [])) = ap length is in
    absurd (omega (arith, long, length-append ys (v ∷ [])))
but_last (suc n) [] v w is =
    let long : suc (suc (length (replicate n w))) ≡ 1 = ap length is in
    absurd (omega (arith, long))
but_last (suc n) (y ∷ ys) v w is =
    ap (λ z. z ∷ ys) (sym (ap (λ l. get_or l 0 w) is))
    ∙ ap (λ l. w ∷ l) (but_last n ys v w (ap (λ l. drop 1 l) is))

-- another that is the same to f
pub set_same : {S B : Type 0} (xs : List S) (k : ℕ) (y d : S) (f : S → B) (all : List B)
    → f y ≡ f (get_or xs k d) → map f xs ≡ all → map f (set xs k y) ≡ all
set_same xs k y d f all same before = map-set_same f xs k y d same ∙ before

-- each element as before
pub each_as : {S : Type 0} (P Q : ℕ → S → Type 0) (xs : List S)
    → ((i : ℕ) → IfSome (slice_get xs i) (P i))
    → ((i : ℕ) (s : S) → i < length xs → P i s → Q i s)
    → (i : ℕ) → IfSome (slice_get xs i) (Q i)
each_as P Q [] all h i = tt
each_as P Q (x ∷ xs) all h zero = h 0 x (omega arith) (all 0)
each_as P Q (x ∷ xs) all h (suc i) =
    each_as (λ n. P (suc n)) (λ n. Q (suc n)) xs (λ n. all (suc n))
    (λ n s lt. h (suc n) s (omega (arith, lt))) i

-- each element but one as before
pub each_set : {S : Type 0} (P Q : ℕ → S → Type 0) (xs : List S) (k : ℕ) (y : S)
    → ((i : ℕ) → IfSome (slice_get xs i) (P i))
    → ((i : ℕ) (s : S) → (i ≡ k → ⊥) → P i s → Q i s) → Q k y
    → (i : ℕ) → IfSome (slice_get (set xs k y) i) (Q i)
each_set P Q [] k y all h q i = tt
each_set P Q (x ∷ xs) zero y all h q zero = q
each_set P Q (x ∷ xs) zero y all h q (suc i) =
    each_as (λ n. P (suc n)) (λ n. Q (suc n)) xs (λ n. all (suc n))
    (λ n s lt. h (suc n) s (λ e. omega (arith, e))) i
each_set P Q (x ∷ xs) (suc k) y all h q zero = h 0 x (λ e. omega (arith, e)) (all 0)
each_set P Q (x ∷ xs) (suc k) y all h q (suc i) =
    each_set (λ n. P (suc n)) (λ n. Q (suc n)) xs k y (λ n. all (suc n))
    (λ n s ne. h (suc n) s (λ e. ne (omega (arith, e)))) q i

-- one more line, of this stream or of another
line_more : (lines : List StreamLine) (n i : ℕ) (line : StreamLine) (b : Bool)
    → n < length lines → line ≡ get_or lines n line → is_line_of i line ≡ b
    → filter (is_line_of i) (take (n + 1) lines)
    ≡ filter (is_line_of i) (take n lines) ++ cond b (line ∷ []) []
line_more lines n i line b lt is own =
    filter_more (is_line_of i) lines n line lt
    ∙ ap (λ l. filter (is_line_of i) (take n lines) ++ cond (is_line_of i l) (l ∷ []) []) (sym is)
    ∙ ap (λ c. filter (is_line_of i) (take n lines) ++ cond c (line ∷ []) []) own

-- a line of another stream
other_more : (lines : List StreamLine) (n i : ℕ) (line : StreamLine) → n < length lines
    → line ≡ get_or lines n line → (i ≡ line.stream → ⊥)
    → filter (is_line_of i) (take n lines) ≡ filter (is_line_of i) (take (n + 1) lines)
other_more lines n i line lt is ne =
    sym (line_more lines n i line false lt is (ne_eqb i line.stream ne)
    ∙ append-nil (filter (is_line_of i) (take n lines)))

-- its stream has one more
pub own_more : {S : Type 0} (xs : List S) (f : S → List StreamLine) (lines : List StreamLine)
    (n : ℕ) (line : StreamLine) → n < length lines → line ≡ get_or lines n line
    → ((i : ℕ) → IfSome (slice_get xs i) (λ s. f s ≡ filter (is_line_of i) (take n lines)))
    → (y d : S) → line.stream < length xs → f y ≡ f (get_or xs line.stream d) ++ line ∷ []
    → (i : ℕ) → IfSome (slice_get (set xs line.stream y) i)
    (λ s. f s ≡ filter (is_line_of i) (take (n + 1) lines))
own_more {S} xs f lines n line lt is all y d in_range grown =
    let had : f (get_or xs line.stream d) ≡ filter (is_line_of line.stream) (take n lines) =
    subst (λ o. IfSome o (λ s. f s ≡ filter (is_line_of line.stream) (take n lines)))
    (slice_get-get_or xs line.stream d in_range) (all line.stream) in
    each_set (λ i s. f s ≡ filter (is_line_of i) (take n lines))
    (λ i s. f s ≡ filter (is_line_of i) (take (n + 1) lines)) xs line.stream y all
    (λ i s ne p. p ∙ other_more lines n i line lt is ne)
    (grown ∙ ap (λ l. l ++ line ∷ []) had
    ∙ sym (line_more lines n line.stream line true lt is (eq-eqb line.stream line.stream refl)))

-- no stream has it
pub none_more : {S : Type 0} (xs : List S) (f : S → List StreamLine) (lines : List StreamLine)
    (n : ℕ) (line : StreamLine) → n < length lines → line ≡ get_or lines n line
    → ((i : ℕ) → IfSome (slice_get xs i) (λ s. f s ≡ filter (is_line_of i) (take n lines)))
    → length xs ≤ line.stream
    → (i : ℕ) → IfSome (slice_get xs i) (λ s. f s ≡ filter (is_line_of i) (take (n + 1) lines))
none_more xs f lines n line lt is all past =
    each_as (λ i s. f s ≡ filter (is_line_of i) (take n lines))
    (λ i s. f s ≡ filter (is_line_of i) (take (n + 1) lines)) xs all
    (λ i s within p. p
    ∙ other_more lines n i line lt is (λ e. omega (arith, e, within, past)))
