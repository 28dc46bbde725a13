-- One more line of a group, as loops take them.
use Rattle.std.proofs.Common.{◌≡◌, ℕ, suc, ◌+◌, ◌<◌, true, ◌&&◌, List, [], ◌∷◌, ◌++◌, length, take, ap, refl, sym, ◌∙◌, append-nil, append_assoc, add-zero, arith}
use Rattle.std.specs.Prelude.{Some, map, get_or}
use Rattle.std.specs.List.{list_all}
use Rattle.std.proofs.lemmas.Bool.{and_parts}
use Rattle.std.proofs.lemmas.List.{length-take, map-append, take_more}
use Rattle.kp_run_defs.specs.ReplayText.{Line, Standing, given_line}
use Rattle.kp_replay.specs.Groups.{AreLater, and_then, lines_from, read_line, reads_line, says_later, was_read, WereRead}
use Rattle.kp_replay.specs.declared.reads.Read.{Read}

-- ---- Lists

texts_more : {X : Type 0} (now : X → List ℕ) (xs : List X) (i : ℕ) (d : X) → i < length xs
    → map now (take (i + 1) xs) ≡ map now (take i xs) ++ now (get_or xs i d) ∷ []
texts_more now xs i d below =
    ap (map now) (take_more xs i d below) ∙ map-append now (take i xs) (get_or xs i d ∷ [])

pub length-map : {X : Type 0} (now : X → List ℕ) (xs : List X) → length (map now xs) ≡ length xs
length-map now [] = refl
length-map now (x ∷ xs) = ap suc (length-map now xs)

-- ---- Lines that are taken

-- what lines that are left add to what was printed
abbrev pub printed_on : List ℕ → List Read → Standing → Line
printed_on printed reads s =
    record { text = printed ++ (reads_line reads s).text; next = (reads_line reads s).next }

-- one more of them was taken
pub goes_on : (before now : List ℕ) (s t : Standing) (left : List Read) (read : Read)
    (rest : List Read) (whole : Line) → left ≡ read ∷ rest → t ≡ (read_line read s).next
    → now ≡ before ++ (read_line read s).text → printed_on before left s ≡ whole
    → printed_on now rest t ≡ whole
goes_on before now s t left read rest whole is stands text all =
    let one = read_line read s in
    let others = reads_line rest one.next in
    (λ i. printed_on (text i) rest (stands i))
    ∙ (λ i. record { text = append_assoc before one.text others.text i; next = others.next })
    ∙ ap (λ reads. printed_on before reads s) (sym is)
    ∙ all

-- none asks for a configuration
pub first_later : (left : List Read) (read : Read) (rest : List Read) → AreLater left
    → left ≡ read ∷ rest → says_later read.said ≡ true
first_later left read rest all is =
    (and_parts (says_later read.said) (list_all (λ r. says_later r.said) rest)
    (ap (list_all (λ r. says_later r.said)) (sym is) ∙ all)).0

pub rest_later : (left : List Read) (read : Read) (rest : List Read) → AreLater left
    → left ≡ read ∷ rest → AreLater rest
rest_later left read rest all is =
    (and_parts (says_later read.said) (list_all (λ r. says_later r.said) rest)
    (ap (list_all (λ r. says_later r.said)) (sym is) ∙ all)).1

-- all were read, where the others were
pub rest_read : (left : List Read) (read : Read) (rest reads : List Read)
    → left ≡ read ∷ rest → was_read read.said ≡ true → (WereRead left → WereRead reads)
    → WereRead rest → WereRead reads
rest_read left read rest reads is one then were =
    then (ap (list_all (λ r. was_read r.said)) is ∙ (λ i. one i && were i))

-- lines, and then more lines
pub lines_both : (number : ℕ) (xs ys : List (List ℕ)) (s : Standing) → lines_from number (xs ++ ys) s
    ≡ and_then (lines_from number xs s) (lines_from (number + length xs) ys)
lines_both number [] ys s = ap (λ n. lines_from n ys s) (sym (add-zero number))
lines_both number (x ∷ xs) ys s =
    let one = given_line number (Some x) s in
    let some = lines_from (suc number) xs one.next in
    let further : suc number + length xs ≡ number + length (x ∷ xs) = omega arith in
    let rest = lines_from (number + length (x ∷ xs)) ys some.next in
    (λ i.
    let both = lines_both (suc number) xs ys one.next i in
    record { text = one.text ++ both.text; next = both.next })
    ∙ (λ i.
    let tail = lines_from (further i) ys some.next in
    record { text = one.text ++ (some.text ++ tail.text); next = tail.next })
    ∙ (λ i. record { text = sym (append_assoc one.text some.text rest.text) i; next = rest.next })

module _ {X : Type 0} (now : X → List ℕ) (number : ℕ) (xs : List X) (i : ℕ) (d : X) (next : ℕ)
    (s t new : Standing) (before after : List ℕ) (below : i < length xs) (at : next ≡ number + i)
    (stood : t ≡ (lines_from number (map now (take i xs)) s).next)
    (had : before ≡ (lines_from number (map now (take i xs)) s).text)
    (stands : new ≡ (given_line next (Some (now (get_or xs i d))) t).next)
    (text : after ≡ before ++ (given_line next (Some (now (get_or xs i d))) t).text) where
  abbrev first : List (List ℕ)
  first = map now (take i xs)

  abbrev bytes : List ℕ
  bytes = now (get_or xs i d)

  place : next ≡ number + length first
  place =
      at ∙ ap (λ k. number + k)
      (sym (length-map now (take i xs) ∙ omega (arith, below, length-take i xs)))

  all_lines : lines_from number (map now (take (i + 1) xs)) s
      ≡ and_then (lines_from number first s) (lines_from (number + length first) (bytes ∷ []))
  all_lines =
      ap (λ lines. lines_from number lines s) (texts_more now xs i d below)
      ∙ lines_both number first (bytes ∷ []) s

  -- one more of them
  pub lines_stand : new ≡ (lines_from number (map now (take (i + 1) xs)) s).next
  lines_stand =
      stands ∙ (λ j. (given_line (place j) (Some bytes) (stood j)).next)
      ∙ ap (λ line. line.next) (sym all_lines)

  pub lines_text : after ≡ (lines_from number (map now (take (i + 1) xs)) s).text
  lines_text =
      let u = (lines_from number first s).next in
      text ∙ (λ j. had j ++ (given_line (place j) (Some bytes) (stood j)).text)
      ∙ ap (λ tail. (lines_from number first s).text ++ tail)
      (sym (append-nil (given_line (number + length first) (Some bytes) u).text))
      ∙ ap (λ line. line.text) (sym all_lines)
