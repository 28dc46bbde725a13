-- What a text is that a machine reads line by line, by where it stops.
use Rattle.std.proofs.Common.{◌≡◌, ℕ, ◌+◌, ◌-◌, true, List, [], ◌∷◌, ◌++◌, map, length, take, Option, Some, None, IfSome, Result, Err, IfOk, refl, sym, ap, subst, ◌∙◌, arith, append_assoc, length-append}
use Rattle.std.specs.List.{list_all}
use Rattle.std.specs.Option.{ok_or}
use Rattle.std.proofs.lemmas.Bool.{and_from}
use Rattle.std.proofs.lemmas.Grind.{flat_map-append}
use Rattle.std.proofs.lemmas.List.{append-nil, append_cancel_left, map-append, length-map, take_at}
use Rattle.std.proofs.lemmas.List.Folds.{list_all-append}
use Rattle.std.proofs.lemmas.Option.{same_Some}
use Rattle.kp_base.specs.declared.address.Family.{Family}
use Rattle.kp_restore_defs.specs.FirstBadLine.{ended_lines, IsFirstBadLine}
use Rattle.kp_restore_defs.specs.TableText.{text_of_lines}
use Rattle.kp_restore.specs.declared.fault.TextFault.{TextFault}
use Rattle.kp_restore.specs.declared.fault.TextFault.TheVariants.{BadText}
use Rattle.kp_restore.specs.declared.line.Line.{Line}
use Rattle.kp_restore.specs.Lines.{is_canonical_line, line_text}
use Rattle.kp_restore_text.specs.Pieces.{no_line_feed}
use Rattle.kp_restore.specs.Reading.{IsTaken, IsRefused, IsRead, IsStuck, Refused, Unfinished}
use Rattle.kp_restore.proofs.Machine.{IsReader, run_one, all_plain, begun, lines_known, not_with, state_of}
use Rattle.kp_restore.proofs.Texts.{ended_with_line, ended_with_none}

-- a further line of a text
text_behind : (lines : List (List ℕ)) (line : List ℕ) (rest : List ℕ) → text_of_lines lines ++ (line ++ 10 ∷ rest) ≡ text_of_lines (lines ++ line ∷ []) ++ rest
text_behind lines line rest = simp (flat_map-append, append_assoc)

-- No value has this text, and the line of this number is its first bad one.
pub record IsBadFrom {V : Type 0} (has_text : V → Type 0) (lines_of : V → List (List ℕ)) (bytes : List ℕ) (number : ℕ) : Type 0 where
  pub none : (v : V) → has_text v → text_of_lines (lines_of v) ≡ bytes → ⊥
  pub first : IsFirstBadLine has_text lines_of bytes number

module _ {family : Family} {S : Type 0} {step : S → Line → Option S} {start : S} where
  pub read_more : {bytes : List ℕ} {s t : S} {rest : List ℕ} {number : ℕ} → IsRead family step start bytes s rest number
      → (line behind : List ℕ) → rest ≡ line ++ 10 ∷ behind → IsTaken family step s line t → IsRead family step start bytes t behind (number + 1)
  read_more {bytes} {s} {t} {rest} {number} r line behind ended (x, is_good, is, goes) =
      let xs = r.lines in
      let texts : map line_text (xs ++ x ∷ []) ≡ map line_text xs ++ line ∷ [] = map-append line_text xs (x ∷ []) ∙ ap (λ l. map line_text xs ++ l ∷ []) is in
      record {
        lines = xs ++ x ∷ [];
        canonical = list_all-append (is_canonical_line family) xs (x ∷ []) ∙ and_from _ _ r.canonical (and_from _ _ is_good refl);
        ran = run_one step start s t xs x r.ran goes;
        cut = r.cut ∙ ap (λ l. text_of_lines (map line_text xs) ++ l) ended ∙ text_behind (map line_text xs) line behind ∙ ap (λ ls. text_of_lines ls ++ behind) (sym texts);
        counted = omega (arith, length-append xs (x ∷ []), r.counted);
        within = omega (arith, r.within, ap length ended, length-append line (10 ∷ behind));
      }

module _ {family : Family} {S V : Type 0} {step : S → Line → Option S} {start : S} {IsEnd : S → Type 0} {value : S → V} {has_text : V → Type 0} {lines_of : V → List (List ℕ)}
    (reader : IsReader step start IsEnd value line_text (is_canonical_line family) has_text lines_of) where
  module _ {bytes : List ℕ} {s : S} {rest : List ℕ} {number : ℕ} (r : IsRead family step start bytes s rest number) where
    counted : length (map line_text r.lines) + 1 ≡ number
    counted = omega (arith, length-map r.lines line_text, r.counted)

    plain_lines : list_all no_line_feed (map line_text r.lines) ≡ true
    plain_lines = all_plain reader r.lines r.canonical

    -- some value has the lines before this one
    before : (more : List (List ℕ)) → ended_lines bytes ≡ map line_text r.lines ++ more
        → (v : V) × has_text v × (take (number - 1) (ended_lines bytes) ≡ take (number - 1) (lines_of v))
    before more lines =
        let b = begun reader r.lines s r.canonical r.ran in
        let first : (ls : List (List ℕ)) → take (number - 1) (map line_text r.lines ++ ls) ≡ map line_text r.lines = λ ls. take_at (map line_text r.lines) ls (number - 1) (omega (arith, counted)) in
        (b.0, b.1, ap (take (number - 1)) lines ∙ first more ∙ sym (ap (take (number - 1)) b.3 ∙ first (map line_text b.2)))

    -- a line is ended and isn't taken
    refused : (line behind : List ℕ) → rest ≡ line ++ 10 ∷ behind → no_line_feed line ≡ true → IsRefused family step s line → IsBadFrom has_text lines_of bytes number
    refused line behind ended plain stuck =
        let lines : ended_lines bytes ≡ map line_text r.lines ++ line ∷ ended_lines behind =
        ap ended_lines (r.cut ∙ ap (λ t. text_of_lines (map line_text r.lines) ++ t) ended) ∙ ended_with_line (map line_text r.lines) plain_lines line behind plain
        in
        let with_line : take number (ended_lines bytes) ≡ map line_text r.lines ++ line ∷ [] =
        ap (take number) (lines ∙ sym (append_assoc (map line_text r.lines) (line ∷ []) (ended_lines behind)))
        ∙ take_at (map line_text r.lines ++ line ∷ []) (ended_lines behind) number (omega (arith, counted, length-append (map line_text r.lines) (line ∷ [])))
        in
        let none = not_with reader r.lines s r.canonical r.ran line stuck in
        record {
          none = λ v h e. none v h number (sym with_line ∙ ap (take number) (lines_known reader v h bytes e));
          first = record {
            counted = omega (arith, counted);
            within = omega (arith, ap length lines, length-append (map line_text r.lines) (line ∷ ended_lines behind), counted);
            before = before (line ∷ ended_lines behind) lines;
            bad = λ v h n e. none v h number (sym with_line ∙ e);
          };
        }

    -- no line is ended, and the text doesn't end here
    unfinished : no_line_feed rest ≡ true → (rest ≡ [] → IsEnd s → ⊥) → IsBadFrom has_text lines_of bytes number
    unfinished plain owed =
        let lines : ended_lines bytes ≡ map line_text r.lines ++ [] = ap ended_lines r.cut ∙ ended_with_none (map line_text r.lines) plain_lines rest plain in
        let n : length (ended_lines bytes) + 1 ≡ number = omega (arith, ap length lines, length-append (map line_text r.lines) [], counted) in
        record {
          none = λ v h e.
              let is : lines_of v ≡ map line_text r.lines = sym (lines_known reader v h bytes e) ∙ lines ∙ append-nil (map line_text r.lines) in
              let (u, goes, end, made) = state_of reader v h r.lines r.canonical is in
              let nothing = append_cancel_left (text_of_lines (map line_text r.lines)) rest [] (sym (append-nil _ ∙ ap text_of_lines (sym is) ∙ e ∙ r.cut)) in
              owed nothing (subst IsEnd (same_Some u s (sym goes ∙ r.ran)) end);
          first = record {
            counted = omega (arith, counted);
            within = omega (arith, n);
            before = before [] lines;
            bad = λ v h k e. absurd (omega (arith, n));
          };
        }

  -- a text that isn't read to an end
  pub bad_from : {bytes : List ℕ} {number : ℕ} → (s : S) × (rest : List ℕ) × IsRead family step start bytes s rest number × IsStuck family step IsEnd s rest → IsBadFrom has_text lines_of bytes number
  bad_from (s, rest, r, Refused line behind ended plain stuck) = refused r line behind ended plain stuck
  bad_from (s, rest, r, Unfinished plain owed) = unfinished r plain owed

  -- one that is
  pub finished : {bytes : List ℕ} {s : S} {number : ℕ} → IsRead family step start bytes s [] number → IsEnd s → has_text (value s) × (text_of_lines (lines_of (value s)) ≡ bytes)
  finished {s = s} r end =
      let sound = reader.sound r.lines s r.canonical r.ran end in
      (sound.0, ap text_of_lines sound.1 ∙ sym (r.cut ∙ append-nil (text_of_lines (map line_text r.lines))))

-- ---- What is answered

-- a fault has one number
pub one_number : {B : Type 0} {k n : ℕ} → ◌≡◌ {A = Result B TextFault} (Err (BadText k)) (Err (BadText n)) → k ≡ n
one_number e = cc

-- what is known of the answer, by what was found at the end
pub answered : {B : Type 0} (P : B → Type 0) (o : Option B) (fault : TextFault) (r : Result B TextFault) → r ≡ ok_or o fault → IfSome o P → IfOk r P
answered P None fault r e h = subst (λ r. IfOk r P) (sym e) tt
answered P (Some b) fault r e h = subst (λ r. IfOk r P) (sym e) h

-- a fault, where nothing was found
pub not_answered : {B : Type 0} (o : Option B) (k n : ℕ) (r : Result B TextFault) → r ≡ ok_or o (BadText k) → r ≡ Err (BadText n) → (o ≡ None) × (k ≡ n)
not_answered None k n r e h = (refl, cc)
not_answered (Some b) k n r e h = absurd (cc)
