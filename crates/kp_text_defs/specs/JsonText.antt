-- The JSON text of a line (RFC 8259, of at most 127 levels).
use Rattle.std.specs.Prelude.{ℕ, List, cond, Option, None}
use Rattle.std.specs.Str.{is_utf8}
use Rattle.serde_json.specs.Data.{Data}
use Rattle.serde_json.specs.Read.{read}

-- the value that bytes are as JSON text of at most 127 levels, if they are UTF-8 and such a text
abbrev pub json_of : List ℕ → Option Data
json_of bytes = cond (is_utf8 bytes) (read bytes) None
