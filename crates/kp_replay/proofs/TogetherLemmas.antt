-- Groups of lines: which may come, and what their two halves do.
use Rattle.std.proofs.Common.{◌≡◌, ℕ, zero, suc, Bool, true, false, List, [], ◌∷◌, ◌++◌, take, drop, ap, sym, ◌∙◌, append_assoc}
use Rattle.std.specs.Prelude.{Some}
use Rattle.std.specs.List.{list_all}
use Rattle.std.proofs.lemmas.Bool.{and_parts}
use Rattle.std.proofs.lemmas.List.{take-append-drop}
use Rattle.kp_run_defs.specs.ReplayText.{Standing, given_line}
use Rattle.kp_text_defs.specs.declared.script.Op.{Op}
use Rattle.kp_text_defs.specs.declared.script.Op.TheVariants as op
use Rattle.kp_replay.specs.Groups.{and_then, lines_from, may_come_later, reads_line, later_said}
use Rattle.kp_replay.specs.Steps.{MayTake}
use Rattle.kp_replay.specs.declared.reads.Read.{Read}
use Rattle.kp_replay.proofs.GroupLemmas.{line_says, reads_both, still_begun}

-- ---- What may come

-- lines that ask for no configuration may come
pub may_take_later : (s : Standing) (o : Op) → may_come_later o ≡ true → MayTake s o
may_take_later s (op.Config c) h = absurd (cc)
may_take_later s (op.Events events) h = tt
may_take_later s op.Sync h = tt
may_take_later s (op.Packet p) h = tt
may_take_later s (op.Explain p) h = tt
may_take_later s (op.Show what) h = tt

-- what holds of all holds of a rest
pub all_dropped : {X : Type 0} (p : X → Bool) (n : ℕ) (xs : List X) → list_all p xs ≡ true
    → list_all p (drop n xs) ≡ true
all_dropped p zero xs h = h
all_dropped p (suc n) [] h = h
all_dropped p (suc n) (x ∷ xs) h =
    all_dropped p n xs (and_parts (p x) (list_all p xs) h).1

-- a line after the first is no longer the first
given_begun : (number : ℕ) (bytes : List ℕ) (s : Standing) → s.fresh ≡ false
    → (given_line number (Some bytes) s).next.fresh ≡ false
given_begun number bytes s begun =
    ap (λ line. line.next.fresh) (line_says number bytes s begun)
    ∙ still_begun number (later_said bytes) s ∙ begun

-- nor is it after lines
pub lines_begun : (number : ℕ) (lines : List (List ℕ)) (s : Standing) → s.fresh ≡ false
    → (lines_from number lines s).next.fresh ≡ false
lines_begun number [] s begun = begun
lines_begun number (bytes ∷ lines) s begun =
    lines_begun (suc number) lines (given_line number (Some bytes) s).next (given_begun number bytes s begun)

-- ---- Lines that were read

module _ (s mid end : Standing) (reads : List Read) (n : ℕ) (before first last : List ℕ)
    (stands : mid ≡ (reads_line (take n reads) s).next)
    (text : first ≡ before ++ (reads_line (take n reads) s).text)
    (stands_last : end ≡ (reads_line (drop n reads) mid).next)
    (text_last : last ≡ first ++ (reads_line (drop n reads) mid).text) where
  whole : reads_line reads s ≡ and_then (reads_line (take n reads) s) (reads_line (drop n reads))
  whole =
      ap (λ rs. reads_line rs s) (sym (take-append-drop n reads))
      ∙ reads_both (take n reads) (drop n reads) s

  -- those that are answered together, and then the others, are all
  pub group_stands : end ≡ (reads_line reads s).next
  group_stands =
      stands_last ∙ ap (λ u. (reads_line (drop n reads) u).next) stands
      ∙ ap (λ line. line.next) (sym whole)

  pub group_text : last ≡ before ++ (reads_line reads s).text
  group_text =
      let front = reads_line (take n reads) s in
      let back = reads_line (drop n reads) front.next in
      text_last ∙ (λ i. text i ++ (reads_line (drop n reads) (stands i)).text)
      ∙ append_assoc before front.text back.text
      ∙ ap (λ line. before ++ line.text) (sym whole)
