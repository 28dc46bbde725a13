-- Texts to which calls add (this project's choice).
use Rattle.std.specs.Prelude.{◌≡◌, ℕ, List, ◌++◌, String, string_bytes}

-- what was in a text stands, and after it there may be more
abbrev pub HasFront : {A B : Type 0} → String A → String B → Type 0
HasFront text front = (rest : List ℕ) × (string_bytes text ≡ string_bytes front ++ rest)
