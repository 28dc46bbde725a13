-- Contents that are told or not (this project's choice). None tells nothing, and then nothing is said
-- of it.
use Rattle.std.specs.Prelude.{◌≡◌, ℕ, ◌≤◌, ◌<◌, List, ◌++◌, length, take, Option, None, Some, ⊤, Result, IfOk, OnErr}

-- where the content was told before, it is told now, and P holds of the two
abbrev pub FromTold : {X Y : Type 0} → (X → Y → Type 0) → Option X → Option Y → Type 0
FromTold P None now = ⊤
FromTold P (Some before) None = ⊥
FromTold P (Some before) (Some now) = P before now

-- where the content is told now, it was told before, and P holds of the two
abbrev pub ToTold : (List ℕ → List ℕ → Type 0) → Option (List ℕ) → Option (List ℕ) → Type 0
ToTold P before None = ⊤
ToTold P None (Some now) = ⊥
ToTold P (Some before) (Some now) = P before now

-- a sink's content grew by these bytes. A sink may cease to tell its content.
abbrev pub Grows : Option (List ℕ) → Option (List ℕ) → List ℕ → Type 0
Grows before now bytes = ToTold (λ xs ys. ys ≡ xs ++ bytes) before now

-- A write takes bytes from the front of a piece, at least one of a piece that is not empty, or it
-- fails and the content is what it was.
pub record TakesFront {E : Type 0} (result : Result ℕ E) (bytes : List ℕ) (before now : Option (List ℕ)) : Type 0 where
  pub bound : IfOk result (λ n. n ≤ length bytes)
  pub some : IfOk result (λ n. 0 < length bytes → 0 < n)
  pub taken : IfOk result (λ n. Grows before now (take n bytes))
  pub kept : OnErr result (now ≡ before)

-- no less is flushed than before, where that is told
abbrev pub NoLess : Option ℕ → Option ℕ → Type 0
NoLess None now = ⊤
NoLess (Some before) None = ⊤
NoLess (Some before) (Some now) = before ≤ now

-- no more is flushed than was written, where that is told
abbrev pub IsWithin : Option ℕ → Option (List ℕ) → Type 0
IsWithin None written = ⊤
IsWithin (Some flushed) None = ⊤
IsWithin (Some flushed) (Some written) = flushed ≤ length written

-- what was flushed stays so, and no more is flushed than was written
abbrev pub FlushesOn : Option ℕ → Option ℕ → Option (List ℕ) → Type 0
FlushesOn before now written = NoLess before now × IsWithin now written

-- all that was written is flushed
abbrev pub IsFlushed : Option ℕ → Option (List ℕ) → Type 0
IsFlushed flushed None = ⊤
IsFlushed None (Some written) = ⊥
IsFlushed (Some flushed) (Some written) = flushed ≡ length written
