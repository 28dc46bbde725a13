-- The lines of all streams, with what each shows, in the order of the input.
use Rattle.std.proofs.Common.{◌≡◌, ◌==◌, ℕ, Bool, true, false, cond, List, [], ◌∷◌, map, refl, ap, sym, ◌∙◌}
use Rattle.std.specs.List.{filter}
use Rattle.std.proofs.lemmas.Bool.{eqb-true, eq-eqb}
use Rattle.kp_history_defs.specs.Runs.{at_number}
use Rattle.kp_run_defs.specs.LiveLines.{is_line_of}
use Rattle.kp_run_defs.specs.declared.live.StreamLine.{StreamLine}
use Rattle.kp_live.specs.Streams.{Shown}

-- the line of something that is shown
abbrev pub line_of : Shown → StreamLine
line_of s = s.0

-- it is of the stream at this place
abbrev pub is_shown_of : ℕ → Shown → Bool
is_shown_of i s = is_line_of i s.0

-- Lists of streams are those of all lines with what they show.
pub record Merges (rests : ℕ → List Shown) (lines : List StreamLine) : Type 0 where
  pub all : List Shown
  pub lines_are : map line_of all ≡ lines
  pub each : (i : ℕ) → filter (is_shown_of i) all ≡ rests i

-- ---- A list that begins with a line

-- the first of what is shown, and what is behind it
record Begins (shown : List Shown) (line : StreamLine) (lines : List StreamLine) : Type 0 where
  first : Shown
  rest : List Shown
  is : shown ≡ first ∷ rest
  line_is : first.0 ≡ line
  rest_are : map line_of rest ≡ lines

begins : (shown : List Shown) (line : StreamLine) (lines : List StreamLine)
    → map line_of shown ≡ line ∷ lines → Begins shown line lines
begins [] line lines are = absurd (cc are)
begins (s ∷ shown) line lines are = record {
  first = s;
  rest = shown;
  is = refl;
  line_is = cc are;
  rest_are = cc are;
}

none_shown : (shown : List Shown) → map line_of shown ≡ [] → [] ≡ shown
none_shown [] are = refl
none_shown (s ∷ shown) are = absurd (cc are)

-- ---- One line

-- the test of a line's own stream
own_stream : (line : StreamLine) → is_line_of line.stream line ≡ true
own_stream line = eq-eqb line.stream line.stream refl

-- the lines of the other streams stay, and those of the line's stream are the rest
left_are : (rests : ℕ → List Shown) (line : StreamLine) (lines : List StreamLine)
    (rest : List Shown) → map line_of rest ≡ filter (is_line_of line.stream) lines
    → (i : ℕ) → map line_of (rests i) ≡ filter (is_line_of i) (line ∷ lines)
    → (b : Bool) → (i == line.stream) ≡ b
    → map line_of (cond b rest (rests i)) ≡ filter (is_line_of i) lines
left_are rests line lines rest own i are true is =
    own ∙ ap (λ k. filter (is_line_of k) lines) (sym (eqb-true i line.stream is))
left_are rests line lines rest own i are false is =
    are ∙ ap (λ b. cond b (line ∷ filter (is_line_of i) lines) (filter (is_line_of i) lines)) is

-- all of a stream's
each_are : (rests : ℕ → List Shown) (first : Shown) (rest more : List Shown)
    → rests first.0.stream ≡ first ∷ rest → (i : ℕ) (b : Bool) → (i == first.0.stream) ≡ b
    → filter (is_shown_of i) more ≡ cond b rest (rests i)
    → cond b (first ∷ filter (is_shown_of i) more) (filter (is_shown_of i) more) ≡ rests i
each_are rests first rest more is i true same are =
    ap (λ l. first ∷ l) are ∙ sym is ∙ ap rests (sym (eqb-true i first.0.stream same))
each_are rests first rest more is i false same are = are

-- ---- All lines

pub merge : (lines : List StreamLine) (rests : ℕ → List Shown)
    → ((i : ℕ) → map line_of (rests i) ≡ filter (is_line_of i) lines) → Merges rests lines
merge [] rests are = record { all = []; lines_are = refl; each = λ i. none_shown (rests i) (are i) }
merge (line ∷ lines) rests are =
    let j = line.stream in
    let head = begins (rests j) line (filter (is_line_of j) lines)
    (are j ∙ ap (λ b. cond b (line ∷ filter (is_line_of j) lines) (filter (is_line_of j) lines))
    (own_stream line)) in
    let more = merge lines (at_number rests j head.rest)
    (λ i. left_are rests line lines head.rest head.rest_are i (are i) (i == j) refl) in
    let stream : head.first.0.stream ≡ j = ap (λ (l : StreamLine). l.stream) head.line_is in
    record {
      all = head.first ∷ more.all;
      lines_are = λ k. head.line_is k ∷ more.lines_are k;
      each = λ i.
          each_are rests head.first head.rest more.all (ap rests stream ∙ head.is) i
          (i == head.first.0.stream) refl
          (more.each i
          ∙ ap (λ k. cond (i == k) head.rest (rests i)) (sym stream));
    }
