-- What a reader's call answers, from what the search for the end of a line found.
use Rattle.std.proofs.Common.{◌≡◌, ℕ, ◌+◌, ◌<◌, ◌≤◌, Bool, true, false, cond, List, [], ◌∷◌, ◌++◌, length, Option, None, Some, Ok, Err, Result, refl, ap, sym, ◌∙◌, append_assoc, subst, arith}
use Rattle.std.specs.Prelude.{if◌then◌else◌, nat_lt}
use Rattle.std.specs.List.{list_any}
use Rattle.std.proofs.lemmas.Bool.Decides.{nat_tests}
use Rattle.kp_io.specs.Ends.{Input}
use Rattle.kp_io.specs.Gather.{LinePart, IsPart, no_part, part_size, given_part, given_from, told_from, feeds_of, Gathers}
use Rattle.kp_io.specs.Lines.{is_line_feed}
use Rattle.kp_io.specs.Reader.{ReaderState, given_behind, to_come, feeds_up_to, Answers, AsksUntilFeed}
use Rattle.kp_io.specs.Told.{FromTold}
use Rattle.kp_io.specs.declared.next_line.LineFault.{LineFault}
use Rattle.kp_io.specs.declared.next_line.LineFault.TheVariants.{TooLongLine}
use Rattle.kp_io.specs.declared.next_line.NextLine.{NextLine}
use Rattle.kp_io.specs.declared.next_line.NextLine.TheVariants.{Line}
use Rattle.kp_io.proofs.FeedLemmas.{feeds_behind}
use Rattle.kp_io.proofs.GatherLemmas.{given_last, no_feed_first}
use Rattle.kp_io.proofs.Told.{FromTold-map}

-- a reader that holds a part and a chunk, and has not met the end
pub record Holds (reader : ReaderState) (part : LinePart) (chunk : List ℕ) : Type 0 where
  pub open_ : reader.ended ≡ false
  pub held : reader.held ≡ part.bytes ++ chunk
  pub skips : reader.skipping ≡ part.skipping

-- what is to come of such a reader
come_of : (reader : ReaderState) (part : LinePart) (chunk text : List ℕ) → Holds reader part chunk → (if reader.ended then [] else given_behind reader.skipping (reader.held ++ text)) ≡ given_from part (chunk ++ text)
come_of reader part chunk text h = rw (h.open_, h.held, h.skips) (ap (given_behind part.skipping) (append_assoc part.bytes chunk text))

-- what is to come of a reader that has met the end
come_none : (reader : ReaderState) (text : List ℕ) → reader.ended ≡ true → (if reader.ended then [] else given_behind reader.skipping (reader.held ++ text)) ≡ []
come_none reader text h = rw h refl

-- a line that was gathered is the first that was to come
pub line_answers : (whole : Bool) (was now : ReaderState) (old part : LinePart) (was_chunk chunk : List ℕ) (one : Option (List ℕ)) (before left : Option (List ℕ)) → IsPart part → Holds was old was_chunk → (whole ≡ true → Holds now no_part chunk) → (whole ≡ false → now.ended ≡ true) → (whole ≡ false → 0 < part_size part) → one ≡ given_part part → Gathers (Ok whole) part chunk (told_from old was_chunk before) left → FromTold (λ come rest. come ≡ one ∷ rest) (to_come was before) (to_come now left)
line_answers whole was now old part was_chunk chunk one None left is holds next end some given p = tt
line_answers true was now old part was_chunk chunk one (Some x) None is holds next end some given p = absurd p
line_answers false was now old part was_chunk chunk one (Some x) None is holds next end some given p = absurd p
line_answers true was now old part was_chunk chunk one (Some x) (Some y) is holds next end some given p =
    come_of was old was_chunk x holds ∙ p ∙ (λ i. sym given i ∷ sym (come_of now no_part chunk y (next refl)) i)
line_answers false was now old part was_chunk chunk one (Some x) (Some y) is holds next end some given p =
    come_of was old was_chunk x holds ∙ p ∙ given_last part is (some refl) ∙ (λ i. sym given i ∷ sym (come_none now y (end refl)) i)

-- a line is handed out where it may have so many bytes
pub short_answers : (result : Result NextLine LineFault) (part : LinePart) (line : List ℕ) (number : ℕ) (before after : Option (List (Option (List ℕ)))) → FromTold (λ come rest. come ≡ given_part part ∷ rest) before after → line ≡ part.bytes → part.skipping ≡ false → result ≡ Ok (Line number) → Answers result line before after
short_answers result part line number before after come line_is short result_is =
    subst (λ r. Answers r line before after) (sym result_is)
    (subst (λ one. FromTold (λ come rest. come ≡ one ∷ rest) before after) (λ i. cond (short i) None (Some (sym line_is i))) come)

-- nothing is handed out of a line that is too long
pub long_answers : (result : Result NextLine LineFault) (part : LinePart) (line : List ℕ) (number : ℕ) (before after : Option (List (Option (List ℕ)))) → FromTold (λ come rest. come ≡ given_part part ∷ rest) before after → part.skipping ≡ true → result ≡ Err (TooLongLine number) → Answers result line before after
long_answers result part line number before after come long result_is =
    subst (λ r. Answers r line before after) (sym result_is)
    (subst (λ one. FromTold (λ come rest. come ≡ one ∷ rest) before after) (λ i. cond (long i) None (Some part.bytes)) come)

-- a source that was not asked
pub unasked_source : {S : Type 0} (input : S → Input) (source : S) → AsksUntilFeed input source source
unasked_source input source = record { last = source; once = omega arith; none = no_feed_first (input source).left }

-- one byte at most goes past the limit
pub over_fits : (limit taken n : ℕ) → (limit < taken → (taken ≡ limit + 1) × (n ≡ 1)) → taken ≤ limit + n
over_fits limit taken n over = by_more (nat_lt limit taken) refl
  where
    by_more : (b : Bool) → nat_lt limit taken ≡ b → taken ≤ limit + n
    by_more true h =
        let more : limit < taken = grind (arith, nat_tests) in
        let one = over more in
        omega (arith, one.0, one.1)
    by_more false h = grind (arith, nat_tests)

-- a whole line takes a line feed away
pub one_feed : (whole : Bool) → whole ≡ true → feeds_of (Ok whole) ≡ 1
one_feed true h = refl
one_feed false h = absurd (cc)

module _ (limit : ℕ) where
  -- the line feeds that are to come, and the lines
  pub feeds_answer : (b c b' c' : List ℕ) (taken now more number next : ℕ) (before left : Option (List ℕ)) → list_any is_line_feed b ≡ false → list_any is_line_feed b' ≡ false → taken ≤ limit + length c → now ≤ limit + length c' → next ≡ number + more → FromTold (λ xs ys. feeds_up_to limit c taken xs ≡ feeds_up_to limit c' now ys + more) before left → FromTold (λ xs ys. feeds_up_to limit (b ++ c) taken xs + number ≡ feeds_up_to limit (b' ++ c') now ys + next) before left
  feeds_answer b c b' c' taken now more number next before left h h' fits fits' one =
      FromTold-map (λ xs ys. feeds_up_to limit c taken xs ≡ feeds_up_to limit c' now ys + more)
      (λ xs ys. feeds_up_to limit (b ++ c) taken xs + number ≡ feeds_up_to limit (b' ++ c') now ys + next)
      (λ xs ys p.
      ap (λ n. n + number) (feeds_behind limit b c xs taken h fits ∙ p)
      ∙ shifted more (feeds_up_to limit c' now ys) number next one
      ∙ ap (λ n. n + next) (sym (feeds_behind limit b' c' ys now h' fits'))) before left
    where
      shifted : (a x n m : ℕ) → m ≡ n + a → (x + a) + n ≡ x + m
      shifted a x n m e = omega (arith, e)
