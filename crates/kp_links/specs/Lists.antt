-- Lists of rows, as contracts see them.
use Rattle.std.specs.Prelude.{◌≡◌, ◌≢◌, ℕ, List, [], ◌∷◌, ◌++◌, length, slice_index_or, refl}
use Rattle.std.specs.Coded.{Coded, code_by, coded×, coded_ℕ, coded_list}
use Rattle.futures.specs.LinkedLists.{IsIn, without}

-- the rows of each list from the first to the last, and how many rows there are
pub record Lists : Type 0 where
  pub lists : List (List ℕ)
  pub rows : ℕ

-- they are stored as the pair of the fields
abbrev pub lists_code : Coded Lists
lists_code =
    code_by (List (List ℕ) × ℕ) (coded× (coded_list (coded_list coded_ℕ)) coded_ℕ)
    (λ s. (s.lists, s.rows)) (λ p. record { lists = p.0; rows = p.1 }) (λ _. refl)

-- how many lists there are
abbrev pub list_count : Lists → ℕ
list_count s = length s.lists

-- the rows of a list, from the first to the last
abbrev pub rows_of : Lists → ℕ → List ℕ
rows_of s list = slice_index_or s.lists list []

-- a row is in no list
abbrev pub IsFree : Lists → ℕ → Type 0
IsFree s row = (list : ℕ) → ¬ IsIn row (rows_of s list)

-- there are so many lists, each without a row, and so many rows
pub record AreEmpty (s : Lists) (lists row_count : ℕ) : Type 0 where
  pub empty : (list : ℕ) → rows_of s list ≡ []
  pub count : list_count s ≡ lists
  pub rows : s.rows ≡ row_count

-- there are as many lists and rows
pub record AreSized (old new : Lists) : Type 0 where
  pub count : list_count new ≡ list_count old
  pub rows : new.rows ≡ old.rows

-- the row stands at the end of the list, and the other lists stay
pub record IsPushed (old new : Lists) (list row : ℕ) : Type 0 where
  pub last : rows_of new list ≡ rows_of old list ++ row ∷ []
  pub others : (other : ℕ) → other ≢ list → rows_of new other ≡ rows_of old other
  pub sized : AreSized old new

-- the row is in no list, and the other rows stand in their order
pub record IsUnlinked (old new : Lists) (row : ℕ) : Type 0 where
  pub left : (list : ℕ) → rows_of new list ≡ without row (rows_of old list)
  pub sized : AreSized old new

-- the row stands at the end of the list alone, and the other rows stand in their order
pub record IsMoved (old new : Lists) (list row : ℕ) : Type 0 where
  pub last : rows_of new list ≡ without row (rows_of old list) ++ row ∷ []
  pub others : (other : ℕ) → other ≢ list → rows_of new other ≡ without row (rows_of old other)
  pub sized : AreSized old new
