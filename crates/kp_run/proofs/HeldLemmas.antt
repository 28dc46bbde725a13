-- How far the program has come after lines that it took together.
use Rattle.std.proofs.Common.{◌≡◌, ◌+◌, arith, ℕ, suc, List, [], ◌∷◌, ◌++◌, length, map, take, drop, ap, sym, refl, ◌∙◌, subst, append-nil, append_assoc}
use Rattle.std.specs.Prelude.{Option, Some, None}
use Rattle.std.specs.List.{fold}
use Rattle.std.proofs.lemmas.List.Sums.{fold-append}
use Rattle.kp_io.specs.Reader.{GivesShort, HandedOut}
use Rattle.kp_io.specs.Told.{Grows}
use Rattle.kp_io.proofs.Told.{Grows-trans}
use Rattle.kp_io.specs.Lines.{lines_of}
use Rattle.kp_text_defs.specs.SaidLines.{said}
use Rattle.kp_run_defs.specs.ReplayText.{Line, Standing, given_line}
use Rattle.kp_mode_defs.specs.Mode.{ProgressIn, after_given_in, given_in, replay_in, replaying, start_in}
use Rattle.kp_mode_defs.proofs.Alike.{line_of, said_alone}
use Rattle.kp_replay.specs.Groups.{lines_from}
use Rattle.kp_replay.specs.Steps.{IsReady}
use Rattle.kp_line_laws.proofs.FirstLines.{next_ready}
use Rattle.kp_run.specs.Given.{anywhere, place, replay_given}
use Rattle.kp_run.specs.Texts.{by_lines}
use Rattle.kp_run.specs.Outcome.{Come, GrowsFront, WritesFront}
use Rattle.kp_run.proofs.ComeLemmas.{all_text, front_is, numbers, part_is, whole_text}

-- ---- Lines as they are given

-- a line does in the mode that adds nothing what it does in a replay
alone : (p : ProgressIn (Unit {0})) (bytes : List ℕ)
    → line_of (given_in replaying (suc p.number) (Some bytes) p.at) ≡ given_line (suc p.number) (Some bytes) p.at.standing
alone p bytes = said_alone (suc p.number) (said (Some bytes) p.at.standing.fresh) p.at

-- what lines that are given lead to is what they do one after the other
stands_at : (p : ProgressIn (Unit {0})) (lines : List (List ℕ))
    → (fold (after_given_in replaying) p (map Some lines)).at.standing ≡ (lines_from (suc p.number) lines p.at.standing).next
stands_at p [] = refl
stands_at p (bytes ∷ lines) =
    stands_at (after_given_in replaying p (Some bytes)) lines
    ∙ ap (λ (l : Line). (lines_from (suc (suc p.number)) lines l.next).next) (alone p bytes)

text_at : (p : ProgressIn (Unit {0})) (lines : List (List ℕ)) → (fold (after_given_in replaying) p (map Some lines)).text
    ≡ p.text ++ (lines_from (suc p.number) lines p.at.standing).text
text_at p [] = sym (append-nil p.text)
text_at p (bytes ∷ lines) =
    let one = given_line (suc p.number) (Some bytes) p.at.standing in
    text_at (after_given_in replaying p (Some bytes)) lines
    ∙ ap (λ (l : Line). (p.text ++ l.text) ++ (lines_from (suc (suc p.number)) lines l.next).text) (alone p bytes)
    ∙ append_assoc p.text one.text (lines_from (suc (suc p.number)) lines one.next).text

length-some : (lines : List (List ℕ)) → length (map Some lines) ≡ length lines
length-some [] = refl
length-some (bytes ∷ lines) = ap suc (length-some lines)

-- after lines the next one may come
ready_after : (number : ℕ) (lines : List (List ℕ)) (s : Standing) → IsReady s
    → IsReady (lines_from number lines s).next
ready_after number [] s ready = ready
ready_after number (bytes ∷ lines) s ready =
    ready_after (suc number) lines (given_line number (Some bytes) s).next
    (next_ready number (Some bytes) s ready)

-- lines are the first that are given
given_more : (given : List (Option (List ℕ))) (lines : List (List ℕ)) (a : Option (List ℕ))
    (b c : Option (List (Option (List ℕ)))) → HandedOut given a b → GivesShort lines b c
    → HandedOut (given ++ map Some lines) a c
given_more given lines None b c p q = tt
given_more given lines (Some x) None c p q = absurd p
given_more given lines (Some x) (Some y) None p q = absurd q
given_more given lines (Some x) (Some y) (Some z) p q =
    p ∙ ap (λ rest. given ++ rest) q ∙ sym (append_assoc given (map Some lines) z)

module _ (s : Standing) (n : ℕ) (lines : List (List ℕ)) (left : Option (List ℕ))
    (rest after : Option (List (Option (List ℕ)))) (written now later : Option (List ℕ))
    (come : Come replaying anywhere s n left rest written now) (gives : GivesShort lines rest after) where
  abbrev p : ProgressIn (Unit {0})
  p = replay_given replaying come.given

  abbrev q : ProgressIn (Unit {0})
  q = fold (after_given_in replaying) p (map Some lines)

  all_given : replay_given replaying (come.given ++ map Some lines) ≡ q
  all_given = fold-append (after_given_in replaying) (start_in replaying) come.given (map Some lines)

  same : lines_from (suc n) lines s ≡ lines_from (suc p.number) lines p.at.standing
  same = λ i. lines_from (suc (sym come.counted i)) lines (come.stands i).standing

  -- after them
  pub come_group : (t : Standing) → t ≡ (lines_from (suc n) lines s).next
      → Grows now later (lines_from (suc n) lines s).text
      → Come replaying anywhere t (n + length lines) left after written later
  come_group t leads grown = record {
    given = come.given ++ map Some lines;
    handed = given_more come.given lines left rest after come.handed gives;
    state = tt;
    stands =
        ap (λ (t : Standing). place t tt) (leads ∙ ap (λ l. l.next) same ∙ sym (stands_at p lines))
        ∙ ap (λ r. r.at) (sym all_given);
    kept = tt;
    ready = subst IsReady (sym leads) (ready_after (suc n) lines s come.ready);
    grown =
        subst (Grows written later)
        (ap (λ l. p.text ++ l.text) same ∙ sym (text_at p lines)
        ∙ ap (λ r. r.text) (sym all_given))
        (Grows-trans written now later p.text (lines_from (suc n) lines s).text
        come.grown grown);
    counted =
        ap (λ r. r.number) all_given
        ∙ omega (arith, numbers replaying p (map Some lines), length-some lines, come.counted);
  }

  front_within : (a : Option (List ℕ)) (b : Option (List (Option (List ℕ))))
      → HandedOut (come.given ++ map Some lines) a b
      → GrowsFront now later (lines_from (suc n) lines s).text → WritesFront (by_lines replaying) a written later
  front_within None b handed front = tt
  front_within (Some text) None handed front = absurd handed
  front_within (Some text) (Some more) handed front =
      let step = lines_from (suc n) lines s in
      let all = all_text replaying (come.given ++ map Some lines) more in
      let seen : q.text ≡ p.text ++ step.text =
      text_at p lines ∙ ap (λ l. p.text ++ l.text) (sym same) in
      front_is (replay_in replaying (lines_of text)).text (p.text ++ take front.0 step.text)
      (drop front.0 step.text ++ all.0) written later
      (ap (λ r. r.text) (whole_text replaying text ((come.given ++ map Some lines) ++ more) handed)
      ∙ all.1 ∙ ap (λ r. r.text ++ all.0) all_given ∙ ap (λ t. t ++ all.0) seen
      ∙ part_is p.text step.text all.0 front.0)
      (Grows-trans written now later p.text (take front.0 step.text) come.grown front.1)

  -- within them
  pub come_part_group : GrowsFront now later (lines_from (suc n) lines s).text
      → WritesFront (by_lines replaying) left written later
  come_part_group front =
      front_within left after (given_more come.given lines left rest after come.handed gives) front
