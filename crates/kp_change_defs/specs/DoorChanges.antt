-- The doors that two records tell apart: those that come, those that go, and those whose values
-- differ. A door is known by its port, its kind, its family and its destination (this project's
-- choice).
use Rattle.std.specs.Prelude.{◌==◌, ◌&&◌, Bool, List, [], ◌++◌, map, not, Option, Some, None}
use Rattle.std.specs.List.{filter, find, flat_map, list_any}
use Rattle.std.specs.FinMap as finite
use Rattle.std.specs.Option.{option_eq}
use Rattle.kp_base.specs.Keys.{port_key_cmp}
use Rattle.kp_base.specs.contracts.address.AddressPartialEq.TheImpl as address_eq
use Rattle.kp_base.specs.declared.address.Family.{Family}
use Rattle.kp_base.specs.declared.key.PortKey.{PortKey}
use Rattle.kp_types.specs.Setting.{Settings}
use Rattle.kp_types.specs.contracts.decision.DoorKindPartialEq.TheImpl as kind_eq
use Rattle.kp_object_defs.specs.Order.{distinct_in_order}
use Rattle.kp_object_defs.specs.PortInfo.{PortInfo}
use Rattle.kp_door_defs.specs.Doors.{Door, address_doors, node_door}
use Rattle.kp_change_defs.specs.DoorValues.{DoorValues, absent, same_values, values_of}

-- the doors of one port
abbrev pub doors_of_port : Option PortInfo → List Door
doors_of_port None = []
doors_of_port (Some i) = address_doors i ++ node_door i i.node_port

-- whether two doors have one destination
abbrev pub same_destination : Door → Door → Bool
same_destination d e =
    option_eq address_eq.ghosts.eq d.address e.address && (d.number == e.number)

-- whether two doors of one port and family are one
abbrev pub same_door : Door → Door → Bool
same_door d e = kind_eq.ghosts.eq d.kind e.kind && same_destination d e

-- a door, as it is after or, where it goes, as it was, with its values before and after
pub record DoorChange : Type 0 where
  pub door : Door
  pub before : DoorValues
  pub after : DoorValues

-- the values of a door, or of none
abbrev pub values_or_absent : Option Door → DoorValues
values_or_absent None = absent
values_or_absent (Some d) = values_of d

-- a door that is there after, by the port's doors before
abbrev pub change_to : List Door → Door → DoorChange
change_to before d = record {
  door = d;
  before = values_or_absent (find (same_door d) before);
  after = values_of d;
}

-- a door that goes
abbrev pub change_from : Door → DoorChange
change_from d = record { door = d; before = values_of d; after = absent }

-- the doors before that aren't there after
abbrev pub doors_gone : List Door → List Door → List Door
doors_gone before after = filter (λ d. not (list_any (same_door d) after)) before

-- all doors of a port: those after, and then those that went
abbrev pub changes_of_doors : List Door → List Door → List DoorChange
changes_of_doors before after =
    map (change_to before) after ++ map change_from (doors_gone before after)

-- the door has other values than before
abbrev pub differs : DoorChange → Bool
differs c = not (same_values c.before c.after)

-- the doors of a port in a family that differ, by what is known of it before and after
abbrev pub door_changes : Option PortInfo → Option PortInfo → List DoorChange
door_changes before after =
    filter differs (changes_of_doors (doors_of_port before) (doors_of_port after))

-- what is known of the port of this name
abbrev pub info_named : List PortInfo → PortKey → Option PortInfo
info_named infos key = finite.find port_key_cmp key (map (λ i. (i.key, i)) infos)

-- the names of ports
abbrev pub names_of : List PortInfo → List PortKey
names_of infos = map (λ i. i.key) infos

-- the names of the ports of families before or after, in order
abbrev pub ports_in : Settings → (Family → List PortInfo) → (Family → List PortInfo) → List PortKey
ports_in settings before after =
    distinct_in_order port_key_cmp
    (flat_map (λ family. names_of (before family) ++ names_of (after family)) settings.families)
