-- What is within its bounds: the objects after events that are, and what is known of the ports of
-- such objects.
use Rattle.std.specs.Prelude.{◌≡◌, List, Contains, Ok}
use Rattle.kp_base.specs.declared.address.Family.{Family}
use Rattle.kp_types.specs.Setting.{FamilyConfig}
use Rattle.kp_types.specs.declared.event.Event.{Event}
use Rattle.kp_json.specs.Places.{Place}
use Rattle.kp_event_defs.specs.EventText.{read_events}
use Rattle.kp_object_defs.specs.Objects.{Objects, objects_after}
use Rattle.kp_object_defs.specs.PortInfo.{PortInfo, port_infos}
use Rattle.kp_text_laws.specs.Bounds.{AreBounded, AreBoundedEvents, IsBoundedInfo}

-- Objects are within their bounds after events that are.
abbrev pub ObjectsAreBounded : Type 0
ObjectsAreBounded =
    (events : List Event) → AreBoundedEvents events → AreBounded (objects_after events)

-- What is known of the ports of such objects is too.
abbrev pub PortsAreBounded : Type 0
PortsAreBounded =
    (family : Family) (config : FamilyConfig) (o : Objects) (i : PortInfo) → AreBounded o
    → Contains (port_infos family config o) i → IsBoundedInfo family i

-- Events that are read of a value are within their bounds.
abbrev pub ReadIsBounded : Type 0
ReadIsBounded =
    (p : Place) (events : List Event) → read_events p ≡ Ok events → AreBoundedEvents events
