-- What the reader of JSON refuses, as the definition of the value that bytes are.
use Rattle.std.proofs.Common.{◌≡◌, ℕ, List, Bool, true, false, cond, refl}
use Rattle.std.specs.Prelude.{None, IsUtf8}
use Rattle.std.specs.Str.{is_utf8}
use Rattle.std.proofs.lemmas.Str.{IsUtf8-from_is_utf8}
use Rattle.serde_json.specs.Read.{read}
use Rattle.kp_text_defs.specs.JsonText.{json_of}

by_test : (bs : List ℕ) (b : Bool) → is_utf8 bs ≡ b → (IsUtf8 bs → read bs ≡ None) → cond b (read bs) None ≡ None
by_test bs true e h = h (IsUtf8-from_is_utf8 bs e)
by_test bs false e h = refl

-- bytes that are no text, or text that isn't read
pub json_none : (bs : List ℕ) → (IsUtf8 bs → read bs ≡ None) → json_of bs ≡ None
json_none bs h = by_test bs (is_utf8 bs) refl h
