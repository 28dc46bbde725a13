-- What a call that reads a field answers: the value where nothing is at fault, and else the fault. Want of memory
-- alone is free.
use Rattle.std.specs.Prelude.{◌≡◌, Option, Some, None, Result, Ok, Err}
use Rattle.kp_json.specs.declared.fault.BadField.{BadField}
use Rattle.kp_json.specs.declared.fault.FieldFault.{FieldFault}
use Rattle.kp_json.specs.declared.fault.FieldFault.TheVariants.{Bad, NoMemory}

-- the fault that was told is this one
abbrev pub Refuses : FieldFault → Option BadField → Type 0
Refuses (NoMemory refused) fault = Unit {0}
Refuses (Bad b) fault = fault ≡ Some b

-- what was answered, seen by a view, is the value, or the fault where there is one
abbrev pub Reads : {X Y : Type 0} → (X → Y) → Result X FieldFault → Option BadField → Y → Type 0
Reads view (Ok x) fault value = (fault ≡ None) × (view x ≡ value)
Reads view (Err e) fault value = Refuses e fault
