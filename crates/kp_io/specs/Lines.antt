-- Lines (POSIX.1-2017, Base Definitions, 3.206 Line and 3.195 Incomplete Line): a line feed ends a
-- line, of which it is here no part, and what follows the last line feed is a line where it is not
-- empty. A carriage return is a byte as any other.
use Rattle.std.specs.Prelude.{◌≡◌, ◌⊎◌, ◌++◌, ℕ, ◌==◌, nat_lt, Bool, cond, List, [], ◌∷◌, length, map, take, count_by, Option, None, Some}
use Rattle.std.specs.List.{slice_split}
use Rattle.kp_io.specs.declared.next_line.TheConstants.{LINE_LIMIT}

-- the byte that ends a line
abbrev pub is_line_feed : ℕ → Bool
is_line_feed byte = byte == 10

-- the pieces, but for a last one that is empty
abbrev pub without_empty_last : List (List ℕ) → List (List ℕ)
without_empty_last [] = []
without_empty_last ([] ∷ []) = []
without_empty_last (piece ∷ pieces) = piece ∷ without_empty_last pieces

-- the lines of a text: the pieces between its line feeds, but for an empty one behind the last
abbrev pub lines_of : List ℕ → List (List ℕ)
lines_of text = without_empty_last (slice_split is_line_feed text)

-- the lines that a line feed ends: all pieces but the last
abbrev pub ended_lines : List ℕ → List (List ℕ)
ended_lines text = take (count_by is_line_feed text) (slice_split is_line_feed text)

-- a text begins with these bytes
abbrev pub IsFront : List ℕ → List ℕ → Type 0
IsFront front text = (rest : List ℕ) × (text ≡ front ++ rest)

-- a text of whole lines: it is empty or ends with a line feed
abbrev pub IsWhole : List ℕ → Type 0
IsWhole text = (text ≡ []) ⊎ ((front : List ℕ) × (text ≡ front ++ 10 ∷ []))

-- what a reader gives of a line: nothing of one that has more bytes than a line may have
abbrev pub given_of : List ℕ → Option (List ℕ)
given_of line = cond (nat_lt LINE_LIMIT (length line)) None (Some line)

-- what a reader gives of a text's lines
abbrev pub given_lines : List ℕ → List (Option (List ℕ))
given_lines text = map given_of (lines_of text)
