-- JSON texts (RFC 8259) and the values that they are. Which texts are JSON is what `serde_json` reads; the
-- depth of 127 levels is its limit.
use Rattle.std.specs.Prelude.{◌≡◌, ℕ, List, Some, IsUtf8}
use Rattle.serde_json.specs.Data.{Data}
use Rattle.serde_json.specs.Read.{read}

-- the bytes are UTF-8 text that is read as this value of at most 127 levels
abbrev pub ReadsAs : List ℕ → Data → Type 0
ReadsAs bytes d = IsUtf8 bytes × (read bytes ≡ Some d)
