-- Whole lines that are passed over: what comes after them, and how many line feeds are to come.
use Rattle.std.proofs.Common.{◌≡◌, ℕ, zero, suc, ◌+◌, ◌-◌, ◌<◌, ◌≤◌, Bool, true, false, cond, List, [], ◌∷◌, ◌++◌, length, take, drop, Option, None, Some, refl, ap, sym, ◌∙◌, append_assoc, length-append, subst, inl, inr, arith}
use Rattle.std.specs.Prelude.{map, count_by, ⊤, ◌||◌, if◌then◌else◌, nat_le, nat_lt, slice_index}
use Rattle.std.specs.List.{list_any, slice_split, onto_first}
use Rattle.std.proofs.Math.Seq.{take-append_seam, take-append-add, take-suc, drop-append-add}
use Rattle.std.proofs.lemmas.Bool.Decides.{nat_tests}
use Rattle.std.proofs.lemmas.List.{drop-take, map-append, take-append-drop, take-append-le, length-take-le}
use Rattle.std.proofs.lemmas.List.Folds.{list_any-append}
use Rattle.std.proofs.lemmas.List.Splits.{slice_split-cons_yes, slice_split-cons_no, length-slice_split}
use Rattle.kp_io.specs.Lines.{IsWhole, is_line_feed, without_empty_last, lines_of, ended_lines, given_of, given_lines}
use Rattle.kp_io.specs.Reader.{ReaderState, GivesShort, TakesFeeds, passed, to_come, feeds_up_to}
use Rattle.kp_io.specs.declared.next_line.TheConstants.{INPUT_LIMIT, LINE_LIMIT}
use Rattle.kp_io.proofs.FeedLemmas.{feeds-append}
use Rattle.kp_io.proofs.LineLemmas.{feedless-take, without_empty_last-more}

-- ---- Pieces

onto-append : (x : ℕ) (ps qs : List (List ℕ)) → 0 < length ps
    → onto_first x (ps ++ qs) ≡ onto_first x ps ++ qs
onto-append x [] qs some = absurd (omega arith)
onto-append x (p ∷ ps) qs some = refl

some_pieces : (text : List ℕ) → 0 < length (slice_split is_line_feed text)
some_pieces text = omega (arith, length-slice_split is_line_feed text)

-- the same as below, for a text with one byte more, by whether that is a line feed
seam_by : (x : ℕ) (xs rest : List ℕ)
    → slice_split is_line_feed (xs ++ 10 ∷ rest) ≡ slice_split is_line_feed xs ++ slice_split is_line_feed rest
    → (b : Bool) → is_line_feed x ≡ b
    → slice_split is_line_feed (x ∷ (xs ++ 10 ∷ rest)) ≡ slice_split is_line_feed (x ∷ xs) ++ slice_split is_line_feed rest
seam_by x xs rest h true e =
    slice_split-cons_yes is_line_feed x (xs ++ 10 ∷ rest) e
    ∙ ap (λ l. [] ∷ l) h
    ∙ ap (λ l. l ++ slice_split is_line_feed rest) (sym (slice_split-cons_yes is_line_feed x xs e))
seam_by x xs rest h false e =
    slice_split-cons_no is_line_feed x (xs ++ 10 ∷ rest) e
    ∙ ap (onto_first x) h
    ∙ onto-append x (slice_split is_line_feed xs) (slice_split is_line_feed rest) (some_pieces xs)
    ∙ ap (λ l. l ++ slice_split is_line_feed rest) (sym (slice_split-cons_no is_line_feed x xs e))

-- a line feed parts the pieces before it from those after it
split_seam : (front rest : List ℕ)
    → slice_split is_line_feed (front ++ 10 ∷ rest) ≡ slice_split is_line_feed front ++ slice_split is_line_feed rest
split_seam [] rest = slice_split-cons_yes is_line_feed 10 rest refl
split_seam (x ∷ xs) rest = seam_by x xs rest (split_seam xs rest) (is_line_feed x) refl

last-append : (ps qs : List (List ℕ)) → 0 < length qs
    → without_empty_last (ps ++ qs) ≡ ps ++ without_empty_last qs
last-append [] qs some = refl
last-append (p ∷ ps) qs some =
    without_empty_last-more p (ps ++ qs) (omega (arith, length-append ps qs, some))
    ∙ ap (λ l. p ∷ l) (last-append ps qs some)

lines_seam : (front rest : List ℕ)
    → lines_of (front ++ 10 ∷ rest) ≡ slice_split is_line_feed front ++ lines_of rest
lines_seam front rest =
    ap without_empty_last (split_seam front rest)
    ∙ last-append (slice_split is_line_feed front) (slice_split is_line_feed rest) (some_pieces rest)

ended_seam : (front : List ℕ)
    → ended_lines (front ++ 10 ∷ []) ≡ slice_split is_line_feed front
ended_seam front =
    let pieces = slice_split is_line_feed front in
    let feeds : count_by is_line_feed (front ++ 10 ∷ []) ≡ length pieces = feeds-append front (10 ∷ []) ∙ sym (length-slice_split is_line_feed front) in
    (λ i. take (feeds i) (split_seam front [] i)) ∙ take-append_seam pieces ([] ∷ [])

-- ---- Short lines

-- pieces of at most so many bytes
abbrev Within : ℕ → List (List ℕ) → Type 0
Within n [] = ⊤
Within n (p ∷ ps) = (length p ≤ n) × Within n ps

within_more : (m n : ℕ) → m ≤ n → (ps : List (List ℕ)) → Within m ps → Within n ps
within_more m n le [] h = tt
within_more m n le (p ∷ ps) h = (omega (arith, le, h.0), within_more m n le ps h.1)

onto_within : (x n : ℕ) (ps : List (List ℕ)) → Within n ps → Within (suc n) (onto_first x ps)
onto_within x n [] h = (omega arith, tt)
onto_within x n (p ∷ ps) h = (omega (arith, h.0), within_more n (suc n) (omega arith) ps h.1)

within_by : (x : ℕ) (xs : List ℕ) → Within (length xs) (slice_split is_line_feed xs)
    → (b : Bool) → is_line_feed x ≡ b → Within (suc (length xs)) (slice_split is_line_feed (x ∷ xs))
within_by x xs h true e =
    rw (slice_split-cons_yes is_line_feed x xs e)
    (omega arith, within_more (length xs) (suc (length xs)) (omega arith) (slice_split is_line_feed xs) h)
within_by x xs h false e =
    rw (slice_split-cons_no is_line_feed x xs e)
    (onto_within x (length xs) (slice_split is_line_feed xs) h)

pieces_within : (text : List ℕ) → Within (length text) (slice_split is_line_feed text)
pieces_within [] = (omega arith, tt)
pieces_within (x ∷ xs) = within_by x xs (pieces_within xs) (is_line_feed x) refl

not_long : (line : List ℕ) → length line ≤ LINE_LIMIT → nat_lt LINE_LIMIT (length line) ≡ false
not_long line h = grind (arith, nat_tests)

given_within : (n : ℕ) → n ≤ LINE_LIMIT → (ps : List (List ℕ)) → Within n ps
    → map given_of ps ≡ map Some ps
given_within n le [] h = refl
given_within n le (p ∷ ps) h =
    let short = not_long p (omega (arith, le, h.0)) in
    λ i. cond (short i) None (Some p) ∷ given_within n le ps h.1 i

-- ---- Whole lines

-- whole lines come before those of what follows, as they stand
pub given_seam : (text rest : List ℕ) → IsWhole text → length text ≤ LINE_LIMIT
    → given_lines (text ++ rest) ≡ map Some (ended_lines text) ++ given_lines rest
given_seam text rest (inl none) short =
    rw none refl
given_seam text rest (inr (front, is)) short =
    let pieces = slice_split is_line_feed front in
    let few : length front ≤ LINE_LIMIT = omega (arith, ap length is, length-append front (10 ∷ []), short) in
    ap (λ t. given_lines (t ++ rest)) is
    ∙ ap given_lines (append_assoc front (10 ∷ []) rest)
    ∙ ap (map given_of) (lines_seam front rest)
    ∙ map-append given_of pieces (lines_of rest)
    ∙ ap (λ l. l ++ given_lines rest) (given_within (length front) few pieces (pieces_within front))
    ∙ ap (λ l. map Some l ++ given_lines rest) (sym (ended_seam front) ∙ ap ended_lines (sym is))

-- whole lines that are not none have a line feed
whole_feed : (text : List ℕ) → IsWhole text → 0 < length text → list_any is_line_feed text ≡ true
whole_feed text (inl none) some = absurd (omega (arith, ap length none, some))
whole_feed text (inr (front, is)) some =
    ap (list_any is_line_feed) is ∙ list_any-append is_line_feed front (10 ∷ [])
    ∙ or_true (list_any is_line_feed front)
  where
    or_true : (b : Bool) → (b || true) ≡ true
    or_true true = refl
    or_true false = refl

-- bytes of one line, and then whole lines from its front: all of the former are among them
pub part_within : (part chunk : List ℕ) (bytes : ℕ) → list_any is_line_feed part ≡ false
    → IsWhole (take bytes (part ++ chunk)) → bytes ≤ length (part ++ chunk) → 0 < bytes
    → length part ≤ bytes
part_within part chunk bytes none whole within some = by_less (nat_lt bytes (length part)) refl
  where
    by_less : (b : Bool) → nat_lt bytes (length part) ≡ b → length part ≤ bytes
    by_less false e = grind (arith, nat_tests)
    by_less true e =
        let less : bytes ≤ length part = grind (arith, nat_tests) in
        let few : length (take bytes (part ++ chunk)) ≡ bytes = length-take-le bytes (part ++ chunk) within in
        let feed = whole_feed (take bytes (part ++ chunk)) whole (omega (arith, few, some)) in
        let front = ap (list_any is_line_feed) (take-append-le bytes part chunk less) in
        let clash : true ≡ false = sym feed ∙ front ∙ feedless-take bytes part none in
        absurd (cc)

-- what is left of a part and a chunk after such lines
pub drop_behind : (part chunk : List ℕ) (bytes : ℕ) → length part ≤ bytes
    → drop (bytes - length part) chunk ≡ drop bytes (part ++ chunk)
drop_behind part chunk bytes le =
    let same : length part + (bytes - length part) ≡ bytes = omega (arith, le) in
    sym (drop-append-add part chunk (bytes - length part)) ∙ ap (λ n. drop n (part ++ chunk)) same

-- ---- A reader that passes over whole lines

come_if : (ended : Bool) (bytes : ℕ) (held text : List ℕ) → (ended ≡ true → held ≡ [])
    → IsWhole (take bytes held) → length (take bytes held) ≤ LINE_LIMIT
    → (if ended then [] else given_lines (held ++ text))
    ≡ map Some (ended_lines (take bytes held)) ++ (if ended then [] else given_lines (drop bytes held ++ text))
come_if true bytes held text none whole short =
    let empty : take bytes held ≡ [] = ap (take bytes) (none refl) ∙ take_none bytes in
    rw empty refl
  where
    take_none : (n : ℕ) → take {A = ℕ} n [] ≡ []
    take_none zero = refl
    take_none (suc n) = refl
come_if false bytes held text none whole short =
    ap (λ l. given_lines (l ++ text)) (sym (take-append-drop bytes held))
    ∙ ap given_lines (append_assoc (take bytes held) (drop bytes held) text)
    ∙ given_seam (take bytes held) (drop bytes held ++ text) whole short

-- the value of a reader that has passed over them
pub passed_as : (bytes lines : ℕ) (old new : ReaderState) → new.held ≡ drop bytes old.held
    → new.skipping ≡ old.skipping → new.line ≡ [] → new.room ≡ old.room
    → new.number ≡ old.number + lines → new.taken ≡ old.taken → new.ended ≡ old.ended
    → new ≡ passed bytes lines old
passed_as bytes lines old new held skipping line room number taken ended = λ i. record {
  held = held i;
  skipping = skipping i;
  line = line i;
  room = room i;
  number = number i;
  taken = taken i;
  ended = ended i;
}

-- the lines come, and then the rest
pub passed_come : (bytes lines : ℕ) (reader : ReaderState) (left : Option (List ℕ))
    → reader.skipping ≡ false → (reader.ended ≡ true → reader.held ≡ [])
    → IsWhole (take bytes reader.held) → bytes ≤ length reader.held → bytes ≤ LINE_LIMIT
    → GivesShort (ended_lines (take bytes reader.held)) (to_come reader left) (to_come (passed bytes lines reader) left)
passed_come bytes lines reader None open_ none whole within short = tt
passed_come bytes lines reader (Some text) open_ none whole within short =
    rw open_
    (come_if reader.ended bytes reader.held text none whole
    (omega (arith, length-take-le bytes reader.held within, short)))

-- as many line feeds fewer are to come as lines were passed over
pub passed_feeds : (bytes lines : ℕ) (reader : ReaderState) (left : Option (List ℕ))
    → reader.taken ≤ INPUT_LIMIT → bytes ≤ length reader.held
    → lines ≡ count_by is_line_feed (take bytes reader.held)
    → TakesFeeds reader (passed bytes lines reader) left left
passed_feeds bytes lines reader None input within count = tt
passed_feeds bytes lines reader (Some text) input within count =
    feeds_passed INPUT_LIMIT (take bytes reader.held) (drop bytes reader.held) reader.held text reader.taken lines reader.number
    (sym (take-append-drop bytes reader.held)) input count
  where
    feeds_passed : (limit : ℕ) (front rest held text : List ℕ) (taken lines number : ℕ)
        → held ≡ front ++ rest → taken ≤ limit → lines ≡ count_by is_line_feed front
        → feeds_up_to limit held taken text + number ≡ feeds_up_to limit rest taken text + (number + lines)
    feeds_passed limit front rest held text taken lines number is fits count =
        let room = limit + length rest - taken in
        let further : limit + length (front ++ rest) - taken ≡ length front + room = omega (arith, length-append front rest) in
        let all : feeds_up_to limit held taken text ≡ count_by is_line_feed front + feeds_up_to limit rest taken text =
        ap (λ h. feeds_up_to limit h taken text) is
        ∙ ap (λ n. count_by is_line_feed (take n ((front ++ rest) ++ text))) further
        ∙ ap (λ l. count_by is_line_feed (take (length front + room) l)) (append_assoc front rest text)
        ∙ ap (count_by is_line_feed) (take-append-add front (rest ++ text) room)
        ∙ feeds-append front (take room (rest ++ text)) in
        omega (arith, all, count)

-- ---- The last line feed

-- bytes up to a line feed are whole lines
pub whole_at : (text : List ℕ) (end : ℕ) → 0 < end → end ≤ length text
    → slice_index text (end - 1) ≡ 10 → IsWhole (take end text)
whole_at text end some within feed =
    let next : end ≡ suc (end - 1) = omega (arith, some) in
    inr (take (end - 1) text, ap (λ n. take n text) next ∙ take-suc text (end - 1) 0 (omega (arith, within, some)) ∙ ap (λ b. take (end - 1) text ++ b ∷ []) feed)

-- whole lines but their first bytes are whole lines, or nothing is left
whole-drop : (count : ℕ) (text : List ℕ) → IsWhole text → IsWhole (drop count text)
whole-drop zero text h = h
whole-drop (suc n) [] h = inl refl
whole-drop (suc n) (x ∷ xs) h = whole-drop n xs (but_first h)
  where
    but_first : IsWhole (x ∷ xs) → IsWhole xs
    but_first (inl none) = absurd (cc)
    but_first (inr ([], is)) = inl (ap (drop 1) is)
    but_first (inr (y ∷ front, is)) = inr (front, ap (drop 1) is)

-- and so they are at the front of a text without its first bytes
pub whole-later : (count n : ℕ) (text : List ℕ) → IsWhole (take n text)
    → IsWhole (take (n - count) (drop count text))
whole-later count n text h = by_count (nat_le count n) refl
  where
    by_count : (b : Bool) → nat_le count n ≡ b → IsWhole (take (n - count) (drop count text))
    by_count true e =
        let all : n ≡ count + (n - count) = grind (arith, nat_tests) in
        subst IsWhole (ap (λ k. drop count (take k text)) all ∙ drop-take count (n - count) text)
        (whole-drop count (take n text) h)
    by_count false e =
        let none : n - count ≡ 0 = grind (arith, nat_tests) in
        subst (λ k. IsWhole (take k (drop count text))) (sym none) (inl refl)
