-- Lines of texts that are ended.
use Rattle.std.proofs.Common.{◌≡◌, ℕ, ◌+◌, ◌-◌, ◌==◌, true, false, cond, List, [], ◌∷◌, ◌++◌, length, take, refl, sym, ap, ◌∙◌, length-append, arith}
use Rattle.std.specs.List.{list_all, onto_first}
use Rattle.std.proofs.Math.Seq.{take-append-add}
use Rattle.std.proofs.lemmas.List.{append-nil}
use Rattle.kp_restore_defs.specs.FirstBadLine.{without_last, ended_lines}
use Rattle.kp_restore_defs.specs.TableText.{text_of_lines}
use Rattle.kp_restore_text.specs.Pieces.{no_line_feed}
use Rattle.kp_restore_text.proofs.Texts.{pieces, at_line, one_piece, pieces_behind}

-- the last element of a list that is behind another one
pub without_last_behind : {A : Type 0} (xs : List A) (y : A) (ys : List A) → without_last (xs ++ y ∷ ys) ≡ xs ++ without_last (y ∷ ys)
without_last_behind xs y ys =
    let n : length (xs ++ y ∷ ys) - 1 ≡ length xs + (length (y ∷ ys) - 1) = omega (arith, length-append xs (y ∷ ys)) in
    ap (λ k. take k (xs ++ y ∷ ys)) n ∙ take-append-add xs (y ∷ ys) (length (y ∷ ys) - 1)

-- a text has a piece
pub some_piece : (text : List ℕ) → (x : List ℕ) × (xs : List (List ℕ)) × (pieces text ≡ x ∷ xs)
some_piece [] = ([], [], refl)
some_piece (b ∷ bs) =
    let h = some_piece bs in
    elim (b == 10) as (λ t. (x : List ℕ) × (xs : List (List ℕ)) × (cond t ([] ∷ pieces bs) (onto_first b (pieces bs)) ≡ x ∷ xs)) [ true ↦ ([], pieces bs, refl) | false ↦ (b ∷ h.0, h.1, ap (onto_first b) h.2) ]

module _ (lines : List (List ℕ)) (h : list_all no_line_feed lines ≡ true) where
  -- the lines that are ended, where one more line is
  pub ended_with_line : (line behind : List ℕ) → no_line_feed line ≡ true → ended_lines (text_of_lines lines ++ (line ++ 10 ∷ behind)) ≡ lines ++ line ∷ ended_lines behind
  ended_with_line line behind g =
      let more = some_piece behind in
      ap without_last (pieces_behind lines (line ++ 10 ∷ behind) h ∙ ap (λ x. lines ++ x) (at_line line behind g))
      ∙ ap (λ x. without_last (lines ++ line ∷ x)) more.2
      ∙ without_last_behind lines line (more.0 ∷ more.1)
      ∙ ap (λ x. lines ++ x) (without_last_behind (line ∷ []) more.0 more.1)
      ∙ ap (λ x. lines ++ line ∷ without_last x) (sym more.2)

  -- and where no more is
  pub ended_with_none : (rest : List ℕ) → no_line_feed rest ≡ true → ended_lines (text_of_lines lines ++ rest) ≡ lines ++ []
  ended_with_none rest g =
      ap without_last (pieces_behind lines rest h ∙ ap (λ x. lines ++ x) (one_piece rest g))
      ∙ without_last_behind lines rest []

-- the lines of their text
pub lines_again : (lines : List (List ℕ)) → list_all no_line_feed lines ≡ true → ended_lines (text_of_lines lines) ≡ lines
lines_again lines h = ap ended_lines (sym (append-nil (text_of_lines lines))) ∙ ended_with_none lines h [] refl ∙ append-nil lines
