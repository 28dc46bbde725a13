-- The end of a name.
use Rattle.std.specs.Prelude.{ℕ, ◌-◌, List, length, drop}

-- the last eight bytes, or all where there are fewer
abbrev pub tail_of : List ℕ → List ℕ
tail_of bytes = drop (length bytes - 8) bytes
