-- The lines that tell what a sync changed for those who connect, a line for each door that differs
-- (this project's choice).
use Rattle.std.specs.Prelude.{ℕ, ◌-◌, ◌==◌, ◌&&◌, ◌||◌, Bool, List, ◌++◌, not, codes, decimal, length, take}
use Rattle.std.specs.List.{filter, flat_map}
use Rattle.std.specs.contracts.prelude.BoolPartialEq.TheImpl as bool_eq
use Rattle.kp_base.specs.contracts.key.PortKeyPartialEq.TheImpl as key_eq
use Rattle.kp_base.specs.declared.address.Family.{Family}
use Rattle.kp_base.specs.declared.key.PortKey.{PortKey}
use Rattle.kp_types.specs.Ports.{same_proto}
use Rattle.kp_types.specs.Setting.{Naming, Settings}
use Rattle.kp_object_defs.specs.PortInfo.{PortInfo}
use Rattle.kp_door_defs.specs.Doors.{Door, doors_of}
use Rattle.kp_text_defs.specs.Answers.{door_kind_text}
use Rattle.kp_text_defs.specs.Keys.{port_text}
use Rattle.kp_change_defs.specs.DoorValues.{DoorValues}
use Rattle.kp_change_defs.specs.DoorChanges.{DoorChange, door_changes, info_named, ports_in, same_destination, same_door}
use Rattle.kp_change_defs.specs.DoorText.{head_text}
use Rattle.kp_change_defs.specs.ValueText.{comes, goes, inside_text, list_text, states_text, unless, values_text}
use Rattle.kp_change_defs.specs.contracts.DoorStatePartialEq.TheImpl as state_eq
use Rattle.kp_change_defs.specs.declared.DoorState.TheVariants as state

-- ---- The doors beside it

-- a door is beside another one: it has its protocol and destination, and isn't the same
abbrev pub is_beside : Door → Door → Bool
is_beside d e =
    same_proto d.info.key.proto e.info.key.proto && same_destination d e
    && not (key_eq.ghosts.eq d.info.key e.info.key && same_door d e)

-- a door beside another one
abbrev pub beside_text : Door → List ℕ
beside_text d =
    codes "; beside " ++ port_text d.info.key ++ codes " " ++ door_kind_text d.kind

-- so many more doors beside another one, where there are any
abbrev pub more_text : ℕ → List ℕ
more_text more = unless (more == 0) (codes "; " ++ decimal more ++ codes " more beside")

-- the first three of some doors, and how many there are besides
abbrev pub first_text : List Door → List ℕ
first_text doors = flat_map beside_text (take 3 doors) ++ more_text (length doors - 3)

-- the doors of ports that are beside a door
abbrev pub doors_beside : List PortInfo → Door → List Door
doors_beside infos d = filter (is_beside d) (doors_of infos)

-- what a line tells of them
abbrev pub besides_text : List PortInfo → Door → List ℕ
besides_text infos d = first_text (doors_beside infos d)

-- a door is open
abbrev pub is_open : DoorValues → Bool
is_open v = state_eq.ghosts.eq v.state state.Open

-- a door comes or goes, or it opens or shuts
abbrev pub turns : DoorChange → Bool
turns c = comes c || goes c || not (bool_eq.ghosts.eq (is_open c.before) (is_open c.after))

-- ---- The lines

-- what stands in a line of a door that is there after
abbrev pub kept_text : DoorChange → List ℕ
kept_text c = unless (goes c) (values_text c ++ inside_text c)

-- the doors beside, of the ports after, where a door turns
abbrev pub turned_text : List PortInfo → DoorChange → List ℕ
turned_text infos c = unless (not (turns c)) (besides_text infos c.door)

-- the line of a door that differs, among the ports of its family after
abbrev pub change_line : Naming → List PortInfo → DoorChange → List ℕ
change_line name_of infos c =
    head_text name_of c.door ++ codes ": " ++ states_text c.before c.after
    ++ list_text c.before c.after ++ kept_text c ++ turned_text infos c ++ codes "\n"

-- the lines of a port in a family
abbrev pub port_lines :
    Naming → (Family → List PortInfo) → (Family → List PortInfo) → PortKey → Family → List ℕ
port_lines name_of before after key family =
    flat_map (change_line name_of (after family))
    (door_changes (info_named (before family) key) (info_named (after family) key))

-- the lines of a port, family by family
abbrev pub change_lines :
    Settings → (Family → List PortInfo) → (Family → List PortInfo) → PortKey → List ℕ
change_lines settings before after key =
    flat_map (port_lines settings.name_of before after key) settings.families

-- all lines, port by port, by what is known of the ports of each family before and after
abbrev pub change_text :
    Settings → (Family → List PortInfo) → (Family → List PortInfo) → List ℕ
change_text settings before after =
    flat_map (change_lines settings before after) (ports_in settings before after)
