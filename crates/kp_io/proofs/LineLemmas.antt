-- Texts, lines and line feeds.
use Rattle.std.proofs.Common.{◌||◌, nat_lt, is_some, position, map, Some, None, ◌≡◌, ℕ, suc, ◌+◌, ◌<◌, Bool, true, false, not, cond, List, [], ◌∷◌, ◌++◌, length, take, drop, refl, ap, sym, ◌∙◌, arith}
use Rattle.std.specs.List.{list_any, position_or_len, before_first, after_first, slice_split}
use Rattle.std.proofs.lemmas.Bool.Decides.{nat_tests}
use Rattle.std.proofs.lemmas.Grind.{common_steps}
use Rattle.std.proofs.lemmas.List.Splits.{slice_split_first, slice_split-cons_no, length-slice_split}
use Rattle.std.proofs.Math.Seq.{take-append_seam, take-append-add, drop-append-add}
use Rattle.std.proofs.lemmas.List.{take_all, take-append-drop, length-append}
use Rattle.std.proofs.lemmas.List.Folds.{list_any-append}
use Rattle.kp_io.specs.Lines.{is_line_feed, without_empty_last, lines_of, given_of, given_lines}

-- the front of a text with no line feed has none
pub feedless-take : (n : ℕ) (text : List ℕ) → list_any is_line_feed text ≡ false
    → list_any is_line_feed (take n text) ≡ false
feedless-take n text h =
    first_or (list_any is_line_feed (take n text)) (list_any is_line_feed (drop n text))
    (sym (list_any-append is_line_feed (take n text) (drop n text)) ∙ ap (list_any is_line_feed) (take-append-drop n text) ∙ h)
  where
    first_or : (b c : Bool) → (b || c) ≡ false → b ≡ false
    first_or true c h = h
    first_or false c h = refl

-- a line's first line feed is the one behind it
pub position_or_len-line : (line rest : List ℕ) → list_any is_line_feed line ≡ false → position_or_len is_line_feed (line ++ 10 ∷ rest) ≡ length line
position_or_len-line [] rest h = refl
position_or_len-line (x ∷ xs) rest h = grind (arith, common_steps, position_or_len-line xs rest)

-- a text with no line feed has none at any place
pub position_or_len-none : (text : List ℕ) → list_any is_line_feed text ≡ false → position_or_len is_line_feed text ≡ length text
position_or_len-none [] h = refl
position_or_len-none (x ∷ xs) h = grind (arith, common_steps, position_or_len-none xs)

-- the same as below, for a text with one byte more, by whether that is a line feed
before_by : (x : ℕ) (xs : List ℕ) → list_any is_line_feed (before_first is_line_feed xs) ≡ false → (b : Bool) → is_line_feed x ≡ b → list_any is_line_feed (take (cond (not b) (1 + position_or_len is_line_feed xs) 0) (x ∷ xs)) ≡ false
before_by x xs h true e = refl
before_by x xs h false e =
    let one : 1 + position_or_len is_line_feed xs ≡ suc (position_or_len is_line_feed xs) = omega arith in
    rw (one, e, h)

-- before the first line feed there is none
pub list_any-before_first : (text : List ℕ) → list_any is_line_feed (before_first is_line_feed text) ≡ false
list_any-before_first [] = refl
list_any-before_first (x ∷ xs) = before_by x xs (list_any-before_first xs) (is_line_feed x) refl

-- a text with a line feed is what stands before it, the line feed, and what stands behind it
pub split_at_line_feed : (text : List ℕ) → list_any is_line_feed text ≡ true → text ≡ before_first is_line_feed text ++ 10 ∷ after_first is_line_feed text
split_at_line_feed [] h = cc
split_at_line_feed (x ∷ xs) h = grind (arith, common_steps, split_at_line_feed xs)

-- a text begins with a line where no line feed stands before one
pub before_first-line : (line rest : List ℕ) → list_any is_line_feed line ≡ false → before_first is_line_feed (line ++ 10 ∷ rest) ≡ line
before_first-line line rest h = rw (position_or_len-line line rest h, take-append_seam)

pub after_first-line : (line rest : List ℕ) → list_any is_line_feed line ≡ false → after_first is_line_feed (line ++ 10 ∷ rest) ≡ rest
after_first-line line rest h = rw (position_or_len-line line rest h) (drop-append-add line (10 ∷ rest) 1)

-- a text with no line feed stands before the first one
pub before_first-none : (text : List ℕ) → list_any is_line_feed text ≡ false → before_first is_line_feed text ≡ text
before_first-none text h = take_all _ text (omega (arith, position_or_len-none text h))

pub after_first-none : (text : List ℕ) → list_any is_line_feed text ≡ false → after_first is_line_feed text ≡ []
after_first-none text h = grind (arith, common_steps, position_or_len-none text h)

-- the first of several pieces stays, also where it is empty
pub without_empty_last-more : (piece : List ℕ) (pieces : List (List ℕ)) → 0 < length pieces → without_empty_last (piece ∷ pieces) ≡ piece ∷ without_empty_last pieces
without_empty_last-more piece [] h = absurd (omega arith)
without_empty_last-more [] (next ∷ pieces) h = refl
without_empty_last-more (x ∷ xs) (next ∷ pieces) h = refl

-- a line with its line feed is the first line of the text that it begins
pub lines_of-line : (line rest : List ℕ) → list_any is_line_feed line ≡ false → lines_of (line ++ 10 ∷ rest) ≡ line ∷ lines_of rest
lines_of-line line rest h =
    let cut = slice_split_first is_line_feed (line ++ 10 ∷ rest) 0 (omega (arith, position_or_len-line line rest h, length-append line (10 ∷ rest))) in
    ap without_empty_last (rw (before_first-line line rest h, after_first-line line rest h) at cut)
    ∙ without_empty_last-more line (slice_split is_line_feed rest) (omega (arith, length-slice_split is_line_feed rest))

-- a text with no line feed is one piece
slice_split-none : (text : List ℕ) → list_any is_line_feed text ≡ false → slice_split is_line_feed text ≡ text ∷ []
slice_split-none [] h = refl
slice_split-none (x ∷ xs) h =
    let first : is_line_feed x ≡ false = grind (arith, common_steps) in
    let others : list_any is_line_feed xs ≡ false = grind (arith, common_steps) in
    slice_split-cons_no is_line_feed x xs first ∙ rw (slice_split-none xs others) refl

-- a last piece that is not empty is a line
pub lines_of-last : (line : List ℕ) → list_any is_line_feed line ≡ false → 0 < length line → lines_of line ≡ line ∷ []
lines_of-last [] h some = absurd (omega arith)
lines_of-last (x ∷ xs) h some = rw (slice_split-none (x ∷ xs) h) refl

-- the first line feed of a text behind bytes without one
position_or_len-behind : (front text : List ℕ) → list_any is_line_feed front ≡ false → position_or_len is_line_feed (front ++ text) ≡ length front + position_or_len is_line_feed text
position_or_len-behind [] text h = omega arith
position_or_len-behind (x ∷ xs) text h = grind (arith, common_steps, position_or_len-behind xs text)

pub before_first-behind : (front text : List ℕ) → list_any is_line_feed front ≡ false → before_first is_line_feed (front ++ text) ≡ front ++ before_first is_line_feed text
before_first-behind front text h =
    ap (λ n. take n (front ++ text)) (position_or_len-behind front text h) ∙ take-append-add front text (position_or_len is_line_feed text)

pub after_first-behind : (front text : List ℕ) → list_any is_line_feed front ≡ false → after_first is_line_feed (front ++ text) ≡ after_first is_line_feed text
after_first-behind front text h =
    let further : position_or_len is_line_feed (front ++ text) + 1 ≡ length front + (position_or_len is_line_feed text + 1) = omega (arith, position_or_len-behind front text h) in
    ap (λ n. drop n (front ++ text)) further ∙ drop-append-add front text (position_or_len is_line_feed text + 1)

-- a text that is not empty has a first line, which stands before the first line feed
lines_first : (text : List ℕ) → 0 < length text → lines_of text ≡ before_first is_line_feed text ∷ lines_of (after_first is_line_feed text)
lines_first text some = by_feed (list_any is_line_feed text) refl
  where
    by_feed : (b : Bool) → list_any is_line_feed text ≡ b → lines_of text ≡ before_first is_line_feed text ∷ lines_of (after_first is_line_feed text)
    by_feed true h =
        ap lines_of (split_at_line_feed text h)
        ∙ lines_of-line (before_first is_line_feed text) (after_first is_line_feed text) (list_any-before_first text)
    by_feed false h =
        lines_of-last text h some
        ∙ (λ i. sym (before_first-none text h) i ∷ lines_of (sym (after_first-none text h) i))

-- what is given of a text begins with what is given of its first line
pub given_first : (text : List ℕ) → 0 < length text → given_lines text ≡ given_of (before_first is_line_feed text) ∷ given_lines (after_first is_line_feed text)
given_first text some = ap (map given_of) (lines_first text some)

-- the first line feed stands within the text where there is one
line_feed-within : (text : List ℕ) → nat_lt (position_or_len is_line_feed text) (length text) ≡ list_any is_line_feed text
line_feed-within [] = refl
line_feed-within (x ∷ xs) = grind (arith, common_steps, nat_tests, line_feed-within xs)

-- a search finds a line feed where there is one
pub is_some-position : (text : List ℕ) → is_some (position is_line_feed text) ≡ list_any is_line_feed text
is_some-position text = by_test (nat_lt (position_or_len is_line_feed text) (length text)) ∙ line_feed-within text
  where
    by_test : (b : Bool) → is_some (cond b (Some (position_or_len is_line_feed text)) None) ≡ b
    by_test true = refl
    by_test false = refl

-- there is one where a search finds one
pub some_found : (text : List ℕ) (at : ℕ) → Some at ≡ position is_line_feed text → true ≡ list_any is_line_feed text
some_found text at h = ap is_some h ∙ is_some-position text

-- there is none where a search finds none
pub none_found : (text : List ℕ) → None ≡ position is_line_feed text → false ≡ list_any is_line_feed text
none_found text h = ap is_some h ∙ is_some-position text
