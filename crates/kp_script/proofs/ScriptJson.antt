-- The tree of a line's bytes, as the definition of a line has it.
use Rattle.std.proofs.Common.{◌≡◌, ℕ, List, Option, Some, None, Ok, refl, ap}
use Rattle.std.specs.Prelude.{IsUtf8}
use Rattle.serde_json.specs.Data.{Data}
use Rattle.serde_json.specs.Read.{read}
use Rattle.kp_json.specs.Trees.{ReadsAs}
use Rattle.kp_json.specs.declared.fault.JsonFault.{JsonFault}
use Rattle.kp_json.specs.declared.fault.JsonFault.TheVariants as json
use Rattle.kp_text_defs.specs.JsonText.{json_of}
use Rattle.kp_text_defs.specs.ScriptLines.{or_refusal}
use Rattle.kp_text_defs.specs.declared.line_refusal.LineRefusal.TheVariants.{BadJson}
use Rattle.kp_packet_lines.proofs.Lines.{json_read}
use Rattle.kp_script.proofs.Json.{json_none}
use Rattle.kp_script.specs.ScriptAnswers.{Told, of_json_fault}

-- a tree that was read
pub tree_read : (bs : List ℕ) (d : Data) → ReadsAs bs d → or_refusal BadJson (json_of bs) ≡ Ok d
tree_read bs d is = ap (or_refusal BadJson) (json_read bs d is.0 is.1)

-- bytes that are no text that is read
by_read : (bs : List ℕ) (o : Option Data) → read bs ≡ o → IsUtf8 bs → ((d : Data) → ReadsAs bs d → ⊥) → read bs ≡ None
by_read bs None is utf8 none = is
by_read bs (Some d) is utf8 none = absurd (none d (utf8, is))

-- why no tree was read
pub tree_refused : (bs : List ℕ) (fault : JsonFault) → (fault ≡ json.BadJson → (d : Data) → ReadsAs bs d → ⊥)
    → Told {Y = Data} (of_json_fault fault) (or_refusal BadJson (json_of bs))
tree_refused bs json.BadJson none = ap (or_refusal BadJson) (json_none bs (λ utf8. by_read bs (read bs) refl utf8 (none refl)))
tree_refused bs (json.NoMemory refused) none = tt
