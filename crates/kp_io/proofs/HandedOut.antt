-- What a reader has given of a text, from one call to the next. A caller's loop keeps `HandedOut` of what it has
-- been given: it starts with nothing, each line adds one, and at the end it is all.
use Rattle.std.proofs.Common.{◌≡◌, ℕ, zero, suc, ◌+◌, ◌-◌, ◌<◌, Bool, true, false, cond, List, [], ◌∷◌, ◌++◌, length, take, drop, Option, None, Some, IfSome, refl, ap, sym, ◌∙◌, append_assoc, append-nil, length-append, add-zero, arith}
use Rattle.std.specs.Prelude.{map, count_by}
use Rattle.std.specs.List.{list_any, slice_split, onto_first}
use Rattle.std.proofs.Math.Seq.{take-append_seam}
use Rattle.std.proofs.lemmas.List.{take-map, take-append-drop}
use Rattle.std.proofs.lemmas.List.Splits.{slice_split-cons_yes, slice_split-cons_no, length-slice_split}
use Rattle.std.proofs.lemmas.List.Sums.{sum_by-cons}
use Rattle.kp_io.specs.Lines.{is_line_feed, without_empty_last, lines_of, ended_lines, given_of, given_lines}
use Rattle.kp_io.specs.Reader.{HandedOut, GivesEnded, LosesTaken, fresh_reader, to_come, up_to, feeds_up_to}
use Rattle.kp_io.specs.Told.{FromTold}
use Rattle.kp_io.proofs.FeedLemmas.{feeds-append, feeds_none}
use Rattle.kp_io.proofs.LineLemmas.{without_empty_last-more}
use Rattle.kp_io.proofs.Told.{FromTold-trans}

-- a fresh reader has given nothing
pub handed_none : (left : Option (List ℕ)) → HandedOut [] left (to_come fresh_reader left)
handed_none None = tt
handed_none (Some text) = refl

-- one more line was given, or told to be too long
pub handed_given : (given : List (Option (List ℕ))) (one : Option (List ℕ)) (a : Option (List ℕ)) (b c : Option (List (Option (List ℕ)))) → HandedOut given a b → FromTold (λ old new. old ≡ one ∷ new) b c → HandedOut (given ++ one ∷ []) a c
handed_given given one None b c p q = tt
handed_given given one (Some x) None c p q = absurd p
handed_given given one (Some x) (Some y) None p q = absurd q
handed_given given one (Some x) (Some y) (Some z) p q = p ∙ ap (λ rest. given ++ rest) q ∙ sym (append_assoc given (one ∷ []) z)

-- at the end all was given
pub handed_all : (given : List (Option (List ℕ))) (a : Option (List ℕ)) (b c : Option (List (Option (List ℕ)))) → HandedOut given a b → FromTold (λ old new. (old ≡ []) × (new ≡ [])) b c → IfSome a (λ text. given_lines text ≡ given)
handed_all given None b c p q = tt
handed_all given (Some x) None c p q = absurd p
handed_all given (Some x) (Some y) None p q = absurd q
handed_all given (Some x) (Some y) (Some z) p q = p ∙ ap (λ rest. given ++ rest) q.0 ∙ append-nil given

-- ---- What was given before a fault

take_onto : (n x : ℕ) (ps qs : List (List ℕ)) → 0 < length ps → 0 < length qs → take n ps ≡ take n qs → take n (onto_first x ps) ≡ take n (onto_first x qs)
take_onto zero x ps qs l m e = refl
take_onto (suc n) x [] qs l m e = absurd (omega arith)
take_onto (suc n) x (p ∷ ps) [] l m e = absurd (omega arith)
take_onto (suc n) x (p ∷ ps) (q ∷ qs) l m e = ap (onto_first x) e

feeds_more : (x : ℕ) (xs : List ℕ) (b : Bool) → is_line_feed x ≡ b → count_by is_line_feed (x ∷ xs) ≡ cond b 1 0 + count_by is_line_feed xs
feeds_more x xs b h = sum_by-cons (λ byte. cond (is_line_feed byte) 1 0) x xs ∙ ap (λ t. cond t 1 0 + count_by is_line_feed xs) h

split_more : (x : ℕ) (xs ys : List ℕ) (b : Bool) → is_line_feed x ≡ b → take (count_by is_line_feed xs) (slice_split is_line_feed (xs ++ ys)) ≡ take (count_by is_line_feed xs) (slice_split is_line_feed xs)
    → take (count_by is_line_feed (x ∷ xs)) (slice_split is_line_feed (x ∷ (xs ++ ys))) ≡ take (count_by is_line_feed (x ∷ xs)) (slice_split is_line_feed (x ∷ xs))
split_more x xs ys true h front =
    let more : count_by is_line_feed (x ∷ xs) ≡ suc (count_by is_line_feed xs) = omega (arith, feeds_more x xs true h) in
    (λ i. take (more i) (slice_split-cons_yes is_line_feed x (xs ++ ys) h i))
    ∙ ap (λ pieces. [] ∷ pieces) front
    ∙ (λ i. take (sym more i) (sym (slice_split-cons_yes is_line_feed x xs h) i))
split_more x xs ys false h front =
    let same : count_by is_line_feed (x ∷ xs) ≡ count_by is_line_feed xs = omega (arith, feeds_more x xs false h) in
    (λ i. take (same i) (slice_split-cons_no is_line_feed x (xs ++ ys) h i))
    ∙ take_onto (count_by is_line_feed xs) x (slice_split is_line_feed (xs ++ ys)) (slice_split is_line_feed xs)
    (omega (arith, length-slice_split is_line_feed (xs ++ ys))) (omega (arith, length-slice_split is_line_feed xs)) front
    ∙ (λ i. take (sym same i) (sym (slice_split-cons_no is_line_feed x xs h) i))

-- the pieces that a line feed ends stay behind what is added
split_front : (xs ys : List ℕ) → take (count_by is_line_feed xs) (slice_split is_line_feed (xs ++ ys)) ≡ take (count_by is_line_feed xs) (slice_split is_line_feed xs)
split_front [] ys = refl
split_front (x ∷ xs) ys = split_more x xs ys (is_line_feed x) refl (split_front xs ys)

-- all pieces but the last are lines
take_lines : (n : ℕ) (pieces : List (List ℕ)) → n < length pieces → take n (without_empty_last pieces) ≡ take n pieces
take_lines zero pieces h = refl
take_lines (suc n) [] h = absurd (omega arith)
take_lines (suc n) (p ∷ []) h = absurd (omega arith)
take_lines (suc n) (p ∷ (q ∷ ps)) h =
    ap (take (suc n)) (without_empty_last-more p (q ∷ ps) (omega arith)) ∙ ap (λ l. p ∷ l) (take_lines n (q ∷ ps) (omega arith))

-- the first lines of a text, as many as a front of it has line feeds, are those that end in that front
ended_front : (text more : List ℕ) → take (count_by is_line_feed text) (lines_of (text ++ more)) ≡ ended_lines text
ended_front text more =
    take_lines (count_by is_line_feed text) (slice_split is_line_feed (text ++ more)) (omega (arith, length-slice_split is_line_feed (text ++ more), feeds-append text more))
    ∙ split_front text more

-- where as many lines were given as a front of the text has line feeds, they are the lines that end in that front
pub handed_before : (given rest : List (Option (List ℕ))) (text more : List ℕ) → given_lines (text ++ more) ≡ given ++ rest → length given ≡ count_by is_line_feed text → given ≡ map given_of (ended_lines text)
handed_before given rest text more h count =
    sym (take-append_seam given rest) ∙ ap (λ n. take n (given ++ rest)) count
    ∙ ap (take (count_by is_line_feed text)) (sym h)
    ∙ take-map given_of (count_by is_line_feed text) (lines_of (text ++ more))
    ∙ ap (map given_of) (ended_front text more)

zero_less : (k : ℕ) → 0 ≡ 0 - k
zero_less k = omega arith

less_none : (k : ℕ) → k ≡ k - 0
less_none k = omega arith

one_less : (n k : ℕ) → n - k ≡ suc n - suc k
one_less n k = omega arith

take_both : {X : Type 0} (n : ℕ) (xs ys : List X) → take n (xs ++ ys) ≡ take n xs ++ take (n - length xs) ys
take_both zero [] ys = ap (λ n. take n ys) (zero_less 0)
take_both (suc n) [] ys = ap (λ k. take k ys) (less_none (suc n))
take_both zero (x ∷ xs) ys = ap (λ n. take n ys) (zero_less (length (x ∷ xs)))
take_both (suc n) (x ∷ xs) ys =
    ap (λ l. x ∷ l) (take_both n xs ys) ∙ ap (λ k. x ∷ (take n xs ++ take k ys)) (one_less n (length xs))

-- where a reader holds no whole line, it has handed out as many lines as line feeds were taken up to the limit
pub lines_are_feeds : (limit number taken : ℕ) (was held left : List ℕ) → length was ≡ taken → feeds_up_to limit [] 0 (was ++ left) ≡ feeds_up_to limit held taken left + number → list_any is_line_feed (up_to limit held taken []) ≡ false → number ≡ count_by is_line_feed (take limit was)
lines_are_feeds limit number taken was held left size feeds none =
    let room = limit + length held - taken in
    let before : limit + length {A = ℕ} [] - 0 ≡ limit = omega arith in
    let same : room - length held ≡ limit - length was = omega (arith, size) in
    let all = ap (λ n. count_by is_line_feed (take n (was ++ left))) before ∙ ap (count_by is_line_feed) (take_both limit was left) ∙ feeds-append (take limit was) (take (limit - length was) left) in
    let some = ap (count_by is_line_feed) (take_both room held left ∙ ap (λ k. take room held ++ take k left) same) ∙ feeds-append (take room held) (take (limit - length was) left) in
    let no = feeds_none (take room held) (ap (λ l. list_any is_line_feed (take room l)) (sym (append-nil held)) ∙ none) in
    counted (count_by is_line_feed (take limit was)) (count_by is_line_feed (take room held)) (count_by is_line_feed (take (limit - length was) left)) number (sym all ∙ feeds ∙ ap (λ n. n + number) some) no
  where
    counted : (a b c n : ℕ) → a + c ≡ (b + c) + n → b ≡ 0 → n ≡ a
    counted a b c n e f = omega (arith, e, f)

-- ---- A caller's loop up to a fault

-- nothing was taken yet
pub taken_none : (left : Option (List ℕ)) → FromTold (LosesTaken 0 0) left left
taken_none None = tt
taken_none (Some text) = record { bytes = []; front = refl; size = omega arith }

-- what one more call took
pub taken_more : (taken now : ℕ) (first left next : Option (List ℕ)) → FromTold (LosesTaken 0 taken) first left → FromTold (LosesTaken taken now) left next → FromTold (LosesTaken 0 now) first next
taken_more taken now first left next =
    FromTold-trans (LosesTaken 0 taken) (LosesTaken taken now) (LosesTaken 0 now)
    (λ xs ys zs p q. record {
      bytes = p.bytes ++ q.bytes;
      front = p.front ∙ ap (λ l. p.bytes ++ l) q.front ∙ sym (append_assoc p.bytes q.bytes zs);
      size = omega (arith, p.size, q.size, length-append p.bytes q.bytes);
    }) first left next

module _ (limit : ℕ) where
  -- no line came yet
  pub feeds_none_yet : (left : Option (List ℕ)) → FromTold (λ xs ys. feeds_up_to limit [] 0 xs ≡ feeds_up_to limit [] 0 ys + 0) left left
  feeds_none_yet None = tt
  feeds_none_yet (Some text) = sym (add-zero (feeds_up_to limit [] 0 text))

  -- the lines of one more call
  pub feeds_next : (held now : List ℕ) (taken later number next : ℕ) (first left end : Option (List ℕ)) → FromTold (λ xs ys. feeds_up_to limit [] 0 xs ≡ feeds_up_to limit held taken ys + number) first left
      → FromTold (λ xs ys. feeds_up_to limit held taken xs + number ≡ feeds_up_to limit now later ys + next) left end → FromTold (λ xs ys. feeds_up_to limit [] 0 xs ≡ feeds_up_to limit now later ys + next) first end
  feeds_next held now taken later number next first left end =
      FromTold-trans (λ xs ys. feeds_up_to limit [] 0 xs ≡ feeds_up_to limit held taken ys + number)
      (λ xs ys. feeds_up_to limit held taken xs + number ≡ feeds_up_to limit now later ys + next)
      (λ xs ys. feeds_up_to limit [] 0 xs ≡ feeds_up_to limit now later ys + next) (λ xs ys zs p q. p ∙ q) first left end

  -- by a fault the lines were given that end in the bytes taken
  pub handed_at_fault : (given : List (Option (List ℕ))) (number taken : ℕ) (held : List ℕ) (first : Option (List ℕ)) (come : Option (List (Option (List ℕ)))) (left : Option (List ℕ)) → HandedOut given first come → length given ≡ number
      → FromTold (LosesTaken 0 taken) first left → FromTold (λ xs ys. feeds_up_to limit [] 0 xs ≡ feeds_up_to limit held taken ys + number) first left → list_any is_line_feed (up_to limit held taken []) ≡ false → FromTold (GivesEnded limit given) first left
  handed_at_fault given number taken held None come left handed count took feeds none = tt
  handed_at_fault given number taken held (Some text) None left handed count took feeds none = absurd handed
  handed_at_fault given number taken held (Some text) (Some come) None handed count took feeds none = absurd took
  handed_at_fault given number taken held (Some text) (Some come) (Some rest) handed count took feeds none =
      let lost = took.bytes in
      let size : length lost ≡ taken = omega (arith, took.size) in
      let lines = lines_are_feeds limit number taken lost held rest size (ap (feeds_up_to limit [] 0) (sym took.front) ∙ feeds) none in
      let whole = sym (append_assoc (take limit lost) (drop limit lost) rest) ∙ ap (λ l. l ++ rest) (take-append-drop limit lost) ∙ sym took.front in
      record {
        lost = lost;
        front = took.front;
        ended = handed_before given come (take limit lost) (drop limit lost ++ rest) (ap given_lines whole ∙ handed) (count ∙ lines);
      }
