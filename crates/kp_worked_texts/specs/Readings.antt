-- How worked texts are written and read: JSON with apostrophes in place of quotation marks.
use Rattle.std.specs.Prelude.{◌≡◌, ℕ, ◌==◌, List, [], map, cond, Option, Some, None, option_map, Result, Ok, Err}
use Rattle.kp_json.specs.Places.{Place}
use Rattle.kp_json.specs.declared.fault.BadField.{BadField}
use Rattle.kp_text_defs.specs.JsonText.{json_of}

-- the text that is meant
abbrev pub quoted : List ℕ → List ℕ
quoted text = map (λ b. cond (b == 39) 34 b) text

-- what is seen of what was read, if nothing was at fault
abbrev pub seen : {A B : Type 0} → (A → B) → Result A BadField → Option B
seen view (Ok x) = Some (view x)
seen view (Err fault) = None

-- the fault of what was read, if there is one
abbrev pub fault_of : {A : Type 0} → Result A BadField → Option BadField
fault_of (Ok x) = None
fault_of (Err fault) = Some fault

-- a text is refused for this fault
abbrev pub Refuses : {A : Type 0} → (Place → Result A BadField) → List ℕ → BadField → Type 0
Refuses reading text fault =
    option_map (λ d. fault_of (reading (record { value = d; path = [] }))) (json_of (quoted text))
    ≡ Some (Some fault)

-- a text reads as what is seen so
abbrev pub Reads : {A B : Type 0} → (A → B) → (Place → Result A BadField) → List ℕ → B → Type 0
Reads view reading text value =
    option_map (λ d. seen view (reading (record { value = d; path = [] }))) (json_of (quoted text))
    ≡ Some (Some value)
