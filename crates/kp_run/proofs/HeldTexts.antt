-- Texts of whole lines, as a reader holds them.
use Rattle.std.proofs.Common.{◌≡◌, ℕ, ◌≤◌, arith, true, List, [], ◌∷◌, ◌++◌, length, take, ap, sym, refl, ◌∙◌, append-nil, append_assoc, length-append, inl, inr}
use Rattle.std.specs.Prelude.{count_by}
use Rattle.std.specs.List.{list_all}
use Rattle.std.proofs.Math.Seq.{take-append_seam}
use Rattle.std.proofs.lemmas.List.{take-append-le}
use Rattle.std.proofs.lemmas.List.Splits.{length-slice_split}
use Rattle.kp_io.specs.Lines.{IsFront, IsWhole, ended_lines, is_line_feed}
use Rattle.kp_restore_text.specs.Pieces.{no_line_feed}
use Rattle.kp_restore_text.proofs.Texts.{pieces, pieces_behind}
use Rattle.kp_restore_defs.specs.TableText.{text_of_lines}

module _ (lines : List (List ℕ)) (feedless : list_all no_line_feed lines ≡ true) where
  pieces_again : pieces (text_of_lines lines) ≡ lines ++ [] ∷ []
  pieces_again = ap pieces (sym (append-nil (text_of_lines lines))) ∙ pieces_behind lines [] feedless

  -- they have as many line feeds as there are lines
  pub feeds_in : count_by is_line_feed (text_of_lines lines) ≡ length lines
  feeds_in = omega (
    arith,
    length-slice_split is_line_feed (text_of_lines lines),
    ap length pieces_again,
    length-append lines ([] ∷ []),
  )

  -- and these are the lines that end in them
  pub ended_again : ended_lines (text_of_lines lines) ≡ lines
  ended_again = (λ i. take (feeds_in i) (pieces_again i)) ∙ take-append_seam lines ([] ∷ [])

-- they are empty, or end with a line feed
pub whole_lines : (lines : List (List ℕ)) → IsWhole (text_of_lines lines)
whole_lines [] = inl refl
whole_lines (line ∷ lines) = elim (whole_lines lines) [
  | inl none ↦ inr (line, ap (λ t. (line ++ 10 ∷ []) ++ t) none ∙ append-nil (line ++ 10 ∷ []))
  | inr some ↦ inr (
    (line ++ 10 ∷ []) ++ some.0,
    ap (λ t. (line ++ 10 ∷ []) ++ t) some.1
        ∙ sym (append_assoc (line ++ 10 ∷ []) some.0 (10 ∷ [])),
  )
]

-- a front of a front
pub front_within : (n : ℕ) (front text : List ℕ) → IsFront front text → n ≤ length front
    → take n text ≡ take n front
front_within n front text is_front within =
    ap (take n) is_front.1 ∙ take-append-le n front is_front.0 within
