-- A step of the search for the end of a line: what is to come is the same before and after it.
use Rattle.std.proofs.Common.{◌≡◌, ℕ, ◌+◌, ◌<◌, ◌≤◌, Bool, true, false, cond, List, [], ◌∷◌, ◌++◌, length, Option, None, Some, refl, ap, sym, ◌∙◌, append_assoc, append-nil, length-append, subst, arith}
use Rattle.std.specs.Prelude.{nat_lt, map, ◌||◌}
use Rattle.std.specs.Io.KnownBytes.{Consumes, IsAtEnd}
use Rattle.std.specs.List.{list_any, position_or_len, before_first, after_first}
use Rattle.std.proofs.lemmas.Bool.Decides.{nat_tests}
use Rattle.std.proofs.lemmas.List.{length-take}
use Rattle.std.proofs.lemmas.List.Folds.{list_any-append}
use Rattle.kp_io.specs.Faults.{one_more}
use Rattle.kp_io.specs.Gather.{LinePart, IsPart, long_part, longer, part_size, given_part, given_from, told_from, LosesRead}
use Rattle.kp_io.specs.Lines.{is_line_feed, given_of, given_lines}
use Rattle.kp_io.specs.Reader.{given_behind, LosesTaken, LosesNoFeed}
use Rattle.kp_io.specs.Told.{FromTold}
use Rattle.kp_io.specs.declared.next_line.TheConstants.{LINE_LIMIT}
use Rattle.kp_io.proofs.LineLemmas.{list_any-before_first, split_at_line_feed, after_first-line, lines_of-line, before_first-behind, after_first-behind, before_first-none, after_first-none, given_first}
use Rattle.kp_io.proofs.Told.{FromTold-map, FromTold-consumes}

-- ---- Parts

-- no line feed stands in two pieces that have none
pub feedless-append : (front text : List ℕ) → list_any is_line_feed front ≡ false → list_any is_line_feed text ≡ false → list_any is_line_feed (front ++ text) ≡ false
feedless-append front text h k = list_any-append is_line_feed front text ∙ rw (h, k) refl

part_by : (skipping long : Bool) (line : List ℕ) → list_any is_line_feed line ≡ false → nat_lt LINE_LIMIT (length line) ≡ long → IsPart (cond (skipping || long) long_part (record { bytes = line; skipping = false }))
part_by true long line h e = record { feedless = refl; short = omega arith; dropped = λ _. refl }
part_by false true line h e = record { feedless = refl; short = omega arith; dropped = λ _. refl }
part_by false false line h e = record { feedless = h; short = grind (arith, nat_tests); dropped = λ yes. absurd (cc) }

-- a part with more bytes of its line is one
pub longer_is : (part : LinePart) (more : List ℕ) → IsPart part → list_any is_line_feed more ≡ false → IsPart (longer part more)
longer_is part more is none =
    part_by part.skipping (nat_lt LINE_LIMIT (length (part.bytes ++ more))) (part.bytes ++ more) (feedless-append part.bytes more is.feedless none) refl

size_by : (skipping long : Bool) (bytes more : List ℕ) → nat_lt LINE_LIMIT (length (bytes ++ more)) ≡ long → part_size (cond (skipping || long) long_part (record { bytes = bytes ++ more; skipping = false })) ≤ cond skipping 1 (length bytes) + length more
size_by true long bytes more e = omega arith
size_by false true bytes more e = grind (arith, nat_tests, length-append bytes more)
size_by false false bytes more e = omega (arith, length-append bytes more)

-- it stands for no more bytes than were added
pub longer_size : (part : LinePart) (more : List ℕ) → part_size (longer part more) ≤ part_size part + length more
longer_size part more = size_by part.skipping (nat_lt LINE_LIMIT (length (part.bytes ++ more))) part.bytes more refl

-- the part behind the bytes before the first line feed
pub gathered_is : (was part : LinePart) (chunk : List ℕ) → IsPart was → part ≡ longer was (before_first is_line_feed chunk) → IsPart part
gathered_is was part chunk is e = subst IsPart (sym e) (longer_is was (before_first is_line_feed chunk) is (list_any-before_first chunk))

pub gathered_size : (was part : LinePart) (chunk : List ℕ) → part ≡ longer was (before_first is_line_feed chunk) → part_size part ≤ part_size was + length (before_first is_line_feed chunk)
gathered_size was part chunk e =
    subst (λ p. part_size p ≤ part_size was + length (before_first is_line_feed chunk)) (sym e) (longer_size was (before_first is_line_feed chunk))

-- ---- What is to come

given_by : (long : Bool) (line : List ℕ) → cond long None (Some line) ≡ given_part (cond long long_part (record { bytes = line; skipping = false }))
given_by true line = refl
given_by false line = refl

found_by : (skipping : Bool) (line rest : List ℕ) → list_any is_line_feed line ≡ false → given_behind skipping (line ++ 10 ∷ rest) ≡ given_part (cond (skipping || nat_lt LINE_LIMIT (length line)) long_part (record { bytes = line; skipping = false })) ∷ given_lines rest
found_by true line rest h = ap (λ text. None ∷ given_lines text) (after_first-line line rest h)
found_by false line rest h = ap (map given_of) (lines_of-line line rest h) ∙ ap (λ given. given ∷ given_lines rest) (given_by (nat_lt LINE_LIMIT (length line)) line)

around : (front line rest text : List ℕ) → front ++ ((line ++ 10 ∷ rest) ++ text) ≡ (front ++ line) ++ 10 ∷ (rest ++ text)
around front line rest text =
    ap (λ l. front ++ l) (append_assoc line (10 ∷ rest) text) ∙ sym (append_assoc front line (10 ∷ (rest ++ text)))

-- behind a line feed what is to come begins with the line that it ends
pub given_found : (part : LinePart) (chunk text : List ℕ) → IsPart part → list_any is_line_feed chunk ≡ true → given_from part (chunk ++ text) ≡ given_part (longer part (before_first is_line_feed chunk)) ∷ given_lines (after_first is_line_feed chunk ++ text)
given_found part chunk text is h =
    let line = before_first is_line_feed chunk in
    let rest = after_first is_line_feed chunk in
    ap (given_behind part.skipping) (ap (λ c. part.bytes ++ (c ++ text)) (split_at_line_feed chunk h) ∙ around part.bytes line rest text)
    ∙ found_by part.skipping (part.bytes ++ line) (rest ++ text) (feedless-append part.bytes line is.feedless (list_any-before_first chunk))

still_long : (line more : List ℕ) → nat_lt LINE_LIMIT (length line) ≡ true → nat_lt LINE_LIMIT (length (line ++ more)) ≡ true
still_long line more h = grind (arith, nat_tests, length-append line more)

long_some : (line more : List ℕ) → nat_lt LINE_LIMIT (length line) ≡ true → 0 < length (line ++ more)
long_some line more h = grind (arith, nat_tests, length-append line more)

none_by : (skipping long : Bool) (line text : List ℕ) → list_any is_line_feed line ≡ false → nat_lt LINE_LIMIT (length line) ≡ long → given_behind skipping (line ++ text) ≡ given_from (cond (skipping || long) long_part (record { bytes = line; skipping = false })) text
none_by true long line text h e = ap (λ rest. None ∷ given_lines rest) (after_first-behind line text h)
none_by false true line text h e =
    let first = before_first is_line_feed text in
    let long : given_of (before_first is_line_feed (line ++ text)) ≡ None =
    ap given_of (before_first-behind line text h) ∙ ap (λ b. cond b None (Some (line ++ first))) (still_long line first e) in
    given_first (line ++ text) (long_some line text e) ∙ (λ i. long i ∷ given_lines (after_first-behind line text h i))
none_by false false line text h e = refl

-- where bytes have no line feed, the same is to come behind them
pub given_none : (part : LinePart) (chunk text : List ℕ) → IsPart part → list_any is_line_feed chunk ≡ false → given_from part (chunk ++ text) ≡ given_from (longer part (before_first is_line_feed chunk)) (after_first is_line_feed chunk ++ text)
given_none part chunk text is h =
    let line = part.bytes ++ chunk in
    ap (given_behind part.skipping) (sym (append_assoc part.bytes chunk text))
    ∙ none_by part.skipping (nat_lt LINE_LIMIT (length line)) line text (feedless-append part.bytes chunk is.feedless h) refl
    ∙ (λ i. given_from (longer part (sym (before_first-none chunk h) i)) (sym (after_first-none chunk h) i ++ text))

last_by : (skipping : Bool) (bytes : List ℕ) → list_any is_line_feed bytes ≡ false → length bytes ≤ LINE_LIMIT → 0 < cond skipping 1 (length bytes) → given_behind skipping (bytes ++ []) ≡ cond skipping None (Some bytes) ∷ []
last_by true bytes h short some = ap (λ rest. None ∷ given_lines rest) (after_first-behind bytes [] h)
last_by false bytes h short some =
    ap given_lines (append-nil bytes) ∙ given_first bytes some
    ∙ (λ i. given_of (before_first-none bytes h i) ∷ given_lines (after_first-none bytes h i))
    ∙ ap (λ b. cond b None (Some bytes) ∷ []) (not_long bytes short)
  where
    not_long : (line : List ℕ) → length line ≤ LINE_LIMIT → nat_lt LINE_LIMIT (length line) ≡ false
    not_long line h = grind (arith, nat_tests)

-- at the end of a source what was gathered is the last line
pub given_last : (part : LinePart) → IsPart part → 0 < part_size part → given_from part [] ≡ given_part part ∷ []
given_last part is some = last_by part.skipping part.bytes is.feedless is.short some

-- ---- Steps, where a source tells what it has left

-- before the first step
pub kept_first : (part : LinePart) (chunk : List ℕ) (left : Option (List ℕ)) → FromTold (λ old rest. old ≡ given_from part (chunk ++ rest)) (told_from part chunk left) left
kept_first part chunk None = tt
kept_first part chunk (Some text) = refl

-- a chunk with a line feed gives a line
pub kept_found : (was part : LinePart) (old chunk : List ℕ) (before : Option (List (Option (List ℕ)))) (left : Option (List ℕ)) → IsPart was → list_any is_line_feed old ≡ true → part ≡ longer was (before_first is_line_feed old) → chunk ≡ after_first is_line_feed old → FromTold (λ come rest. come ≡ given_from was (old ++ rest)) before left → FromTold (λ come rest. come ≡ given_part part ∷ given_lines (chunk ++ rest)) before left
kept_found was part old chunk before left is h part_is chunk_is =
    FromTold-map (λ come rest. come ≡ given_from was (old ++ rest)) (λ come rest. come ≡ given_part part ∷ given_lines (chunk ++ rest))
    (λ come rest p. p ∙ given_found was old rest is h ∙ (λ i. given_part (sym part_is i) ∷ given_lines (sym chunk_is i ++ rest))) before left

-- a chunk with none gives nothing
pub kept_none : (was part : LinePart) (old chunk : List ℕ) (before : Option (List (Option (List ℕ)))) (left : Option (List ℕ)) → IsPart was → list_any is_line_feed old ≡ false → part ≡ longer was (before_first is_line_feed old) → chunk ≡ after_first is_line_feed old → FromTold (λ come rest. come ≡ given_from was (old ++ rest)) before left → FromTold (λ come rest. come ≡ given_from part (chunk ++ rest)) before left
kept_none was part old chunk before left is h part_is chunk_is =
    FromTold-map (λ come rest. come ≡ given_from was (old ++ rest)) (λ come rest. come ≡ given_from part (chunk ++ rest))
    (λ come rest p. p ∙ given_none was old rest is h ∙ (λ i. given_from (sym part_is i) (sym chunk_is i ++ rest))) before left

-- a read moves bytes into an empty chunk
pub kept_read : (part : LinePart) (old chunk : List ℕ) (before : Option (List (Option (List ℕ)))) (left now : Option (List ℕ)) → old ≡ [] → FromTold (λ come rest. come ≡ given_from part (old ++ rest)) before left → Consumes left now chunk → FromTold (λ come rest. come ≡ given_from part (chunk ++ rest)) before now
kept_read part old chunk before left now empty =
    FromTold-consumes (λ come rest. come ≡ given_from part (old ++ rest)) (λ come rest. come ≡ given_from part (chunk ++ rest)) chunk
    (λ come y z p e. p ∙ (λ i. given_from part (empty i ++ y)) ∙ ap (given_from part) e) before left now

-- nothing is left at the end of a source
pub kept_end : (part : LinePart) (chunk : List ℕ) (before : Option (List (Option (List ℕ)))) (left : Option (List ℕ)) → chunk ≡ [] → IsAtEnd left → FromTold (λ come rest. come ≡ given_from part (chunk ++ rest)) before left → FromTold (λ come rest. come ≡ given_from part []) before left
kept_end part chunk None left empty end p = tt
kept_end part chunk (Some come) None empty end p = absurd p
kept_end part chunk (Some come) (Some rest) empty end p = p ∙ (λ i. given_from part (empty i ++ end i))

-- ---- What was read

not_true : (b : Bool) → (b ≡ true → ⊥) → b ≡ false
not_true true f = absurd (f refl)
not_true false f = refl

-- a chunk has no line feed, and another one does
pub feed_clash : (xs ys : List ℕ) → xs ≡ ys → list_any is_line_feed xs ≡ false → list_any is_line_feed ys ≡ true → ⊥
feed_clash xs ys e h k = let no : list_any is_line_feed ys ≡ false = subst (λ l. list_any is_line_feed l ≡ false) e h in absurd (cc)

-- no line feed was read before a chunk that has none
read_feedless : (before now : ℕ) (chunk xs ys : List ℕ) (read : LosesRead before now chunk xs ys) → list_any is_line_feed chunk ≡ false → list_any is_line_feed read.bytes ≡ false
read_feedless before now chunk xs ys read h =
    not_true (list_any is_line_feed read.bytes) (λ yes. feed_clash chunk chunk refl h (read.whole yes))

-- nothing was read yet
pub read_first : (taken : ℕ) (chunk : List ℕ) (left : Option (List ℕ)) → FromTold (LosesRead taken taken chunk) left left
read_first taken chunk None = tt
read_first taken chunk (Some text) = record { bytes = []; front = refl; size = omega arith; whole = λ yes. absurd (cc) }

-- one more read
pub read_more : (before taken now : ℕ) (old chunk : List ℕ) (first left end : Option (List ℕ)) → list_any is_line_feed old ≡ false → now ≡ taken + length chunk → FromTold (LosesRead before taken old) first left → Consumes left end chunk → FromTold (LosesRead before now chunk) first end
read_more before taken now old chunk first left end h same =
    FromTold-consumes (LosesRead before taken old) (LosesRead before now chunk) chunk
    (λ xs ys zs read e. record {
      bytes = read.bytes ++ chunk;
      front = read.front ∙ ap (λ l. read.bytes ++ l) e ∙ sym (append_assoc read.bytes chunk zs);
      size = omega (arith, same, read.size, length-append read.bytes chunk);
      whole = λ yes. sym (list_any-append is_line_feed read.bytes chunk ∙ ap (λ b. b || list_any is_line_feed chunk) (read_feedless before taken old xs ys read h)) ∙ yes;
    }) first left end

-- what was read is what was taken
pub read_taken : (before now : ℕ) (chunk : List ℕ) (first left : Option (List ℕ)) → FromTold (LosesRead before now chunk) first left → FromTold (LosesTaken before now) first left
read_taken before now chunk first left =
    FromTold-map (LosesRead before now chunk) (LosesTaken before now)
    (λ xs ys read. record { bytes = read.bytes; front = read.front; size = read.size }) first left

-- no line feed was read before a chunk that has none
pub read_no_feed : (before now : ℕ) (chunk : List ℕ) (first left : Option (List ℕ)) → list_any is_line_feed chunk ≡ false → FromTold (LosesRead before now chunk) first left → FromTold LosesNoFeed first left
read_no_feed before now chunk first left h =
    FromTold-map (LosesRead before now chunk) LosesNoFeed
    (λ xs ys read. record { bytes = read.bytes; front = read.front; feedless = read_feedless before now chunk xs ys read h }) first left

-- a source that was not asked
pub no_feed_first : (left : Option (List ℕ)) → FromTold LosesNoFeed left left
no_feed_first None = tt
no_feed_first (Some text) = record { bytes = []; front = refl; feedless = refl }

-- how many bytes stand before and behind the first line feed
pub found_length : (chunk : List ℕ) → list_any is_line_feed chunk ≡ true → length chunk ≡ length (before_first is_line_feed chunk) + (1 + length (after_first is_line_feed chunk))
found_length chunk h =
    omega (arith, ap length (split_at_line_feed chunk h), length-append (before_first is_line_feed chunk) (10 ∷ after_first is_line_feed chunk))

-- the bytes before the first line feed are no more than all
pub before_within : (chunk : List ℕ) → length (before_first is_line_feed chunk) ≤ length chunk
before_within chunk = omega (arith, length-take (position_or_len is_line_feed chunk) chunk)

-- one read is counted once
pub asked_once : (before now : ℕ) → now ≡ one_more before → now ≤ before + 1
asked_once before now e = omega (arith, e)
