-- The rule of the word that counts a history's entries, and what a step that writes one tells.
use Rattle.std.specs.Prelude.{ℕ, ◌≡◌, ◌==◌, true, List, [], ◌∷◌, ◌++◌, length, MatchBool}
use Rattle.logbook.specs.Pages.{Cell, Step, View, Book, Named}
use Rattle.kp_publish.specs.declared.entry.Entry.{Entry}

-- the first word is how many entries there are; the book's second word is not used
abbrev pub IsCounted : List Cell → List Entry → Type 0
IsCounted cells log = cells ≡ (length log, true) ∷ (0, true) ∷ []

-- the first word of a book
abbrev pub head_of : Book → Named
head_of b = record { tracked = true; key = 0; book = b }

-- where the count was the one expected, the entry was written behind all that had been seen
abbrev pub Writes : Step Entry → View Entry ℕ → ℕ → View Entry ℕ → Type 0
Writes s v found w = MatchBool (found == s.old) (w.0 ≡ v.0 ++ s.ask ∷ []) (Unit {0})
