-- What a call answers that takes members of a plain object: the value where nothing is at fault, the
-- first fault, or nothing.
use Rattle.std.specs.Prelude.{◌≡◌, [], Option, Some, None, Result, Ok, Err}
use Rattle.serde_json.specs.Data.{Members, object}
use Rattle.kp_json.specs.Places.{Place}
use Rattle.kp_json.specs.declared.fault.BadField.{BadField}
use Rattle.kp_text_defs.specs.declared.line_refusal.LineRefusal.{LineRefusal}
use Rattle.kp_text_defs.specs.declared.line_refusal.LineRefusal.TheVariants.{Bad}
use Rattle.kp_packet_lines.specs.Plain.{members_in}
use Rattle.kp_packet_lines.specs.declared.object.PlainObject.{PlainObject}
use Rattle.kp_packet_lines.specs.declared.untaken.Untaken.{Untaken}
use Rattle.kp_packet_lines.specs.declared.untaken.Untaken.TheVariants.{Refused}

-- a line that is an object
abbrev pub object_place : Members → Place
object_place ms = record { value = object ms; path = [] }

-- the place of a plain object
abbrev pub place_of : PlainObject → Place
place_of o = object_place (members_in o)

-- the fault that is told, if one is, is this one
abbrev pub Refuses : Untaken → Option BadField → Type 0
Refuses why fault = (bad : BadField) → why ≡ Refused bad → fault ≡ Some bad

-- what was taken, seen by a view, is the value, and nothing is at fault
abbrev pub Takes : {X Y : Type 0} → (X → Y) → Result X Untaken → Option BadField → Y → Type 0
Takes view (Ok x) fault value = (fault ≡ None) × (view x ≡ value)
Takes view (Err why) fault value = Refuses why fault

-- what was taken of a line is what reading gives
abbrev pub Gives : {A : Type 0} → Result A Untaken → Result A LineRefusal → Type 0
Gives (Ok x) read = read ≡ Ok x
Gives (Err why) read = (bad : BadField) → why ≡ Refused bad → read ≡ Err (Bad bad)
