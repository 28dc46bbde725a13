-- A plain line of a packet, as the definition of a script line reads it.
use Rattle.std.proofs.Common.{◌≡◌, ℕ, List, [], Bool, Some, None, Result, IsUtf8, sym, ap, ◌∙◌}
use Rattle.std.proofs.lemmas.Str.{is_utf8-from_IsUtf8}
use Rattle.std.specs.Prelude.{cond}
use Rattle.serde_json.specs.Data.{Data}
use Rattle.serde_json.specs.Read.{read}
use Rattle.kp_text_defs.specs.JsonText.{json_of}
use Rattle.kp_text_defs.specs.ScriptLines.{◌>>=◌, line_of, or_refusal, read_script}
use Rattle.kp_text_defs.specs.declared.line_refusal.LineRefusal.{LineRefusal}
use Rattle.kp_text_defs.specs.declared.line_refusal.LineRefusal.TheVariants.{BadJson}
use Rattle.kp_text_defs.specs.declared.script.ScriptLine.{ScriptLine}

-- text that is read
pub json_read : (bs : List ℕ) (d : Data) → IsUtf8 bs → read bs ≡ Some d → json_of bs ≡ Some d
json_read bs d utf8 h = ap (λ b. cond b (read bs) None) (is_utf8-from_IsUtf8 bs utf8) ∙ h

-- the line of a text that is read
pub line_read : (bs text : List ℕ) (d : Data) (first : Bool) (read_as : Result ScriptLine LineRefusal)
    → IsUtf8 bs → text ≡ bs → read text ≡ Some d
    → read_script first (record { value = d; path = [] }) ≡ read_as → line_of bs first ≡ read_as
line_read bs text d first read_as utf8 same is read_script_as =
    ap (λ o. or_refusal BadJson o >>= λ e. read_script first (record { value = e; path = [] }))
    (json_read bs d utf8 (ap read (sym same) ∙ is))
    ∙ read_script_as
