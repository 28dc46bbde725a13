-- Bytes within one line.
use Rattle.std.specs.Prelude.{ℕ, ◌==◌, Bool, not, List}
use Rattle.std.specs.List.{list_all}

-- no byte is a line feed
abbrev pub no_line_feed : List ℕ → Bool
no_line_feed bytes = list_all (λ byte. not (byte == 10)) bytes
