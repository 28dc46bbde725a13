-- The doors at a destination, and what a line tells of them at one of them.
use Rattle.std.specs.Prelude.{ℕ, ◌-◌, ◌==◌, ◌&&◌, Bool, List, ◌++◌, codes, length, map, not, take}
use Rattle.std.specs.List.{filter, flat_map}
use Rattle.std.specs.Option.{option_eq}
use Rattle.kp_base.specs.contracts.address.AddressPartialEq.TheImpl as address_eq
use Rattle.kp_base.specs.contracts.key.PortKeyPartialEq.TheImpl as key_eq
use Rattle.kp_base.specs.declared.address.Family.{Family}
use Rattle.kp_types.specs.Ports.{same_proto}
use Rattle.kp_types.specs.contracts.decision.DoorKindPartialEq.TheImpl as kind_eq
use Rattle.kp_door_defs.specs.Doors.{Door}
use Rattle.kp_text_defs.specs.Answers.{door_kind_text}
use Rattle.kp_text_defs.specs.Keys.{port_text}
use Rattle.kp_change_defs.specs.ChangeText.{more_text}
use Rattle.kp_changes.specs.declared.neighbour.Destination.{Destination}
use Rattle.kp_changes.specs.declared.neighbour.Neighbour.{Neighbour}

-- the destination of a door of a family
abbrev pub destination_of : Family → Door → Destination
destination_of family d = record {
  family = family;
  proto = d.info.key.proto;
  address = d.address;
  number = d.number;
}

-- a door of the family is at a destination
abbrev pub is_at : Destination → Door → Bool
is_at q e =
    same_proto q.proto e.info.key.proto
    && (option_eq address_eq.ghosts.eq q.address e.address && (q.number == e.number))

-- a door by its port and its kind
abbrev pub neighbour_of : Door → Neighbour
neighbour_of e = record { key = e.info.key; kind = e.kind }

-- those of some doors that are at a destination
abbrev pub neighbours_at : Destination → List Door → List Neighbour
neighbours_at q doors = map neighbour_of (filter (is_at q) doors)

-- a door at the destination of another one is the same
abbrev pub is_same : Door → Neighbour → Bool
is_same d n = key_eq.ghosts.eq d.info.key n.key && kind_eq.ghosts.eq d.kind n.kind

-- or it isn't
abbrev pub is_other : Door → Neighbour → Bool
is_other d n = not (is_same d n)

-- a door beside another one
abbrev pub neighbour_text : Neighbour → List ℕ
neighbour_text n = codes "; beside " ++ port_text n.key ++ codes " " ++ door_kind_text n.kind

-- the first three others at the destination of a door
abbrev pub first_others : Door → List Neighbour → List Neighbour
first_others d crowd = take 3 (filter (is_other d) crowd)

-- how many more there are
abbrev pub more_others : Door → List Neighbour → ℕ
more_others d crowd = length (filter (is_other d) crowd) - 3

-- what a line tells of the doors at the destination of its door
abbrev pub crowd_text : Door → List Neighbour → List ℕ
crowd_text d crowd =
    flat_map neighbour_text (first_others d crowd) ++ more_text (more_others d crowd)
