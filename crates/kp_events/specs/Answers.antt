-- What a call that reads events answers: what reading gives, unless memory ran out.
use Rattle.std.specs.Prelude.{◌≡◌, List, ◌++◌, Result, Ok, Err}
use Rattle.kp_json.specs.declared.fault.FieldFault.{FieldFault}
use Rattle.kp_json.specs.declared.fault.FieldFault.TheVariants as field
use Rattle.kp_json.specs.Places.{Place, elements_at}
use Rattle.kp_types.specs.declared.event.Event.{Event}
use Rattle.kp_event_defs.specs.EventText.{Refused, not_event, unsupported, bad_field, ◌>>=◌, of_field, apply_each}
use Rattle.kp_events.specs.declared.fault.EventFault.{EventFault}
use Rattle.kp_events.specs.declared.fault.EventFault.TheVariants.{NotEvent, UnsupportedKind, Bad, NoMemory}

-- the fault of a field
abbrev pub of_field_fault : FieldFault → EventFault
of_field_fault (field.Bad b) = Bad b
of_field_fault (field.NoMemory refused) = NoMemory refused

-- memory ran out
abbrev pub IsWant : EventFault → Type 0
IsWant NotEvent = ⊥
IsWant (UnsupportedKind kind) = ⊥
IsWant (Bad b) = ⊥
IsWant (NoMemory refused) = Unit {0}

-- reading refuses the text for the reason that was told
abbrev pub Told : {Y : Type 0} → EventFault → Result Y Refused → Type 0
Told NotEvent read = read ≡ Err not_event
Told (UnsupportedKind kind) read = read ≡ Err (unsupported kind)
Told (Bad b) read = read ≡ Err (bad_field b)
Told (NoMemory refused) read = Unit {0}

-- what was answered, seen by a view, is what reading gives
abbrev pub GivesEvents : {X Y : Type 0} → (X → Y) → Result X EventFault → Result Y Refused → Type 0
GivesEvents view (Ok x) read = read ≡ Ok (view x)
GivesEvents view (Err e) read = Told e read

-- the events of the objects of the list at a place
abbrev pub applied_at : Place → Result (List Event) Refused
applied_at p = do
  ps ← of_field (elements_at p)
  apply_each ps

-- what was read of the rest, behind what was read before
abbrev pub with_front : {X : Type 0} → List X → Result (List X) Refused → Result (List X) Refused
with_front front (Ok xs) = Ok (front ++ xs)
with_front front (Err e) = Err e
