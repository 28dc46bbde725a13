-- The lines of texts.
use Rattle.std.proofs.Common.{◌≡◌, ℕ, ◌+◌, ◌-◌, ◌==◌, true, cond, List, [], ◌∷◌, ◌++◌, refl, ap, ◌∙◌, append_assoc}
use Rattle.std.specs.List.{list_all, slice_split, onto_first}
use Rattle.std.proofs.lemmas.Bool.{and_parts, not-true}
use Rattle.kp_restore_defs.specs.TableText.{text_of_lines}
use Rattle.kp_restore_text.specs.Pieces.{no_line_feed}

-- a text at its line feeds
abbrev pub pieces : List ℕ → List (List ℕ)
pieces text = slice_split (λ byte. byte == 10) text

-- what stands before the first line feed is the first piece
pub at_line : (line rest : List ℕ) → no_line_feed line ≡ true → pieces (line ++ 10 ∷ rest) ≡ line ∷ pieces rest
at_line [] rest h = refl
at_line (b ∷ bs) rest h =
    ap (λ t. cond t ([] ∷ pieces (bs ++ 10 ∷ rest)) (onto_first b (pieces (bs ++ 10 ∷ rest)))) (not-true (b == 10) (and_parts _ _ h).0)
    ∙ ap (onto_first b) (at_line bs rest (and_parts _ _ h).1)

-- a text without a line feed is one piece
pub one_piece : (text : List ℕ) → no_line_feed text ≡ true → pieces text ≡ text ∷ []
one_piece [] h = refl
one_piece (b ∷ bs) h =
    ap (λ t. cond t ([] ∷ pieces bs) (onto_first b (pieces bs))) (not-true (b == 10) (and_parts _ _ h).0)
    ∙ ap (onto_first b) (one_piece bs (and_parts _ _ h).1)

-- lines are the first pieces of their text
pub pieces_behind : (lines : List (List ℕ)) (rest : List ℕ) → list_all no_line_feed lines ≡ true → pieces (text_of_lines lines ++ rest) ≡ lines ++ pieces rest
pieces_behind [] rest h = refl
pieces_behind (l ∷ ls) rest h =
    let together : text_of_lines (l ∷ ls) ++ rest ≡ l ++ 10 ∷ (text_of_lines ls ++ rest) = simp append_assoc in
    ap pieces together
    ∙ at_line l (text_of_lines ls ++ rest) (and_parts _ _ h).0
    ∙ ap (λ x. l ∷ x) (pieces_behind ls rest (and_parts _ _ h).1)
