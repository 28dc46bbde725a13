-- What a call that reads a script line answers: what reading gives, unless memory ran out.
use Rattle.std.specs.Prelude.{◌≡◌, Result, Ok, Err}
use Rattle.kp_json.specs.declared.fault.FieldFault.{FieldFault}
use Rattle.kp_json.specs.declared.fault.FieldFault.TheVariants as field
use Rattle.kp_json.specs.declared.fault.JsonFault.{JsonFault}
use Rattle.kp_json.specs.declared.fault.JsonFault.TheVariants as json
use Rattle.kp_events.specs.declared.fault.EventFault.{EventFault}
use Rattle.kp_events.specs.declared.fault.EventFault.TheVariants as event
use Rattle.kp_text_defs.specs.declared.line_refusal.LineRefusal.{LineRefusal}
use Rattle.kp_text_defs.specs.declared.line_refusal.LineRefusal.TheVariants.{BadJson, NotEvent, UnsupportedKind, Bad}
use Rattle.kp_script.specs.declared.fault.ScriptFault.{ScriptFault}
use Rattle.kp_script.specs.declared.fault.ScriptFault.TheVariants.{Refused, NoMemory}

-- the fault of a text that is no tree
abbrev pub of_json_fault : JsonFault → ScriptFault
of_json_fault json.BadJson = Refused BadJson
of_json_fault (json.NoMemory refused) = NoMemory refused

-- the fault of a member
abbrev pub of_field_fault : FieldFault → ScriptFault
of_field_fault (field.Bad b) = Refused (Bad b)
of_field_fault (field.NoMemory refused) = NoMemory refused

-- the fault of events
abbrev pub of_event_fault : EventFault → ScriptFault
of_event_fault event.NotEvent = Refused NotEvent
of_event_fault (event.UnsupportedKind kind) = Refused (UnsupportedKind kind)
of_event_fault (event.Bad b) = Refused (Bad b)
of_event_fault (event.NoMemory refused) = NoMemory refused

-- reading refuses for the reason that was told
abbrev pub Told : {Y : Type 0} → ScriptFault → Result Y LineRefusal → Type 0
Told (Refused refusal) read = read ≡ Err refusal
Told (NoMemory refused) read = Unit {0}

-- what was answered, seen by a view, is what reading gives
abbrev pub GivesScript : {X Y : Type 0} → (X → Y) → Result X ScriptFault → Result Y LineRefusal → Type 0
GivesScript view (Ok x) read = read ≡ Ok (view x)
GivesScript view (Err e) read = Told e read
