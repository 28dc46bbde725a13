-- Lines that are read while those before them are answered.
use Rattle.std.proofs.Common.{◌≡◌, ℕ, ◌+◌, false, List, [], ◌∷◌, ◌++◌, length, take, drop, refl, sym, ap, ◌∙◌, append-nil, append_assoc, subst, arith}
use Rattle.std.specs.Prelude.{map}
use Rattle.std.proofs.lemmas.List.{length-append, map-append, take-append-drop}
use Rattle.kp_run_defs.specs.ReplayText.{Standing}
use Rattle.kp_replay.specs.Groups.{AreLater, AreReadAs, WereRead, and_then, lines_from, reads_line}
use Rattle.kp_replay.specs.Steps.{LosesNothing}
use Rattle.kp_replay.specs.declared.reads.Read.{Read}
use Rattle.kp_replay.proofs.GroupLemmas.{lines_say}
use Rattle.kp_replay.proofs.KeptLemmas.{lines_kept}
use Rattle.kp_replay.proofs.ReadLemmas.{all_read, reads_later}
use Rattle.kp_replay.proofs.StepLemmas.{lines_both}
use Rattle.kp_replay.proofs.TogetherLemmas.{lines_begun}

-- lines that were cut in two
pub texts_cut : {X : Type 0} (now : X → List ℕ) (n : ℕ) (xs front back : List X)
    → front ≡ take n xs → back ≡ drop n xs → map now xs ≡ map now front ++ map now back
texts_cut now n xs front back first others =
    ap (map now) (sym (take-append-drop n xs))
    ∙ map-append now (take n xs) (drop n xs)
    ∙ (λ i. map now (sym first i) ++ map now (sym others i))

pub texts_none : {X : Type 0} (now : X → List ℕ) (xs : List X) → length xs ≡ 0 → map now xs ≡ []
texts_none now [] none = refl
texts_none now (x ∷ xs) none = absurd (cc)

-- some lines were taken, those after them were read, and the rest is left
pub record IsBetween (number : ℕ) (lines : List (List ℕ)) (s t : Standing) (before now : List ℕ) (reads : List Read) (next : ℕ) (rest : List (List ℕ)) : Type 0 where
  pub done : List (List ℕ)
  pub held : List (List ℕ)
  pub whole : lines ≡ done ++ (held ++ rest)
  pub are : AreReadAs (number + length done) held reads
  pub place : next ≡ (number + length done) + length held
  pub stands : t ≡ (lines_from number done s).next
  pub text : now ≡ before ++ (lines_from number done s).text

module _ (number : ℕ) (lines : List (List ℕ)) (s t : Standing) (before now : List ℕ)
    (reads : List Read) (next : ℕ) (rest : List (List ℕ))
    (between : IsBetween number lines s t before now reads next rest) where
  -- they ask for no configuration
  pub later_between : AreLater reads
  later_between = reads_later (number + length between.done) between.held reads between.are

  module _ (begun : s.fresh ≡ false) where
    pub kept_between : LosesNothing s t
    kept_between = lines_kept number between.done s t begun between.stands

    module _ (end : Standing) (last : List ℕ) (were : WereRead reads)
        (stands : end ≡ (reads_line reads t).next) (text : last ≡ now ++ (reads_line reads t).text) where
      abbrev taken : List (List ℕ)
      taken = between.done ++ between.held

      -- those that were read are taken too
      all_taken : lines_from number taken s
          ≡ and_then (lines_from number between.done s) (reads_line reads)
      all_taken =
          let first = lines_from number between.done s in
          let begun_there : first.next.fresh ≡ false = lines_begun number between.done s begun in
          let said : lines_from (number + length between.done) between.held first.next ≡ reads_line reads first.next =
          lines_say (number + length between.done) between.held first.next begun_there
          ∙ ap (λ rs. reads_line rs first.next)
          (sym (all_read (number + length between.done) between.held reads between.are were)) in
          lines_both number between.done between.held s
          ∙ (λ i. record { text = first.text ++ (said i).text; next = (said i).next })

      taken_stands : end ≡ (lines_from number taken s).next
      taken_stands =
          stands ∙ (λ i. (reads_line reads (between.stands i)).next)
          ∙ ap (λ line. line.next) (sym all_taken)

      taken_text : last ≡ before ++ (lines_from number taken s).text
      taken_text =
          let first = lines_from number between.done s in
          text ∙ (λ i. between.text i ++ (reads_line reads (between.stands i)).text)
          ∙ append_assoc before first.text (reads_line reads first.next).text
          ∙ ap (λ line. before ++ line.text) (sym all_taken)

      -- the next ones were read meanwhile
      pub goes_further : (ahead later : List (List ℕ)) (others : List Read) (new : ℕ)
          → rest ≡ ahead ++ later → AreReadAs next ahead others → new ≡ next + length ahead
          → IsBetween number lines s end before last others new later
      goes_further ahead later others new is are further =
          let both = length-append between.done between.held in
          let place : next ≡ number + length taken = omega (arith, between.place, both) in
          record {
            done = taken;
            held = ahead;
            whole =
                between.whole ∙ ap (λ r. between.done ++ (between.held ++ r)) is
                ∙ sym (append_assoc between.done between.held (ahead ++ later));
            are = subst (λ n. AreReadAs n ahead others) place are;
            place = further ∙ ap (λ n. n + length ahead) place;
            stands = taken_stands;
            text = taken_text;
          }

      all_lines : rest ≡ [] → lines_from number taken s ≡ lines_from number lines s
      all_lines none =
          ap (λ ls. lines_from number ls s)
          (sym (between.whole ∙ ap (λ r. between.done ++ (between.held ++ r)) none
          ∙ ap (λ ls. between.done ++ ls) (append-nil between.held)))

      -- they are the last ones
      pub ends_there : rest ≡ [] → end ≡ (lines_from number lines s).next
      ends_there none = taken_stands ∙ ap (λ line. line.next) (all_lines none)

      pub ends_with : rest ≡ [] → last ≡ before ++ (lines_from number lines s).text
      ends_with none = taken_text ∙ ap (λ line. before ++ line.text) (all_lines none)
