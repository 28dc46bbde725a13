-- The lines of the doors of one port in one family, and of all dirty ports.
use Rattle.std.specs.Prelude.{ℕ, List, [], ◌++◌, map, cond, Option, Some, None}
use Rattle.std.specs.List.{flat_map, list_any}
use Rattle.std.specs.FinMap.{find}
use Rattle.kp_base.specs.Keys.{port_key_cmp}
use Rattle.kp_base.specs.declared.address.Family.{Family}
use Rattle.kp_base.specs.declared.address.Family.TheVariants.{V4, V6}
use Rattle.kp_base.specs.declared.config.Config.{Config}
use Rattle.kp_base.specs.declared.key.PortKey.{PortKey}
use Rattle.kp_types.specs.Setting.{config_for, has_tables_of}
use Rattle.kp_choice_defs.specs.Names.{chain_name}
use Rattle.kp_choice_defs.specs.Settings.{setting_of, settings_of}
use Rattle.kp_object_defs.specs.Objects.{Objects}
use Rattle.kp_object_defs.specs.Order.{distinct_in_order}
use Rattle.kp_object_defs.specs.PortByKey.{info_at}
use Rattle.kp_object_defs.specs.PortInfo.{port_infos}
use Rattle.kp_door_defs.specs.Doors.{Door}
use Rattle.kp_history_defs.specs.DirtyPorts.{dirty_ports}
use Rattle.kp_history_defs.specs.declared.dirty.DirtyPort.{DirtyPort}
use Rattle.kp_change_defs.specs.ChangeText.{change_line}
use Rattle.kp_change_defs.specs.DoorChanges.{DoorChange, change_from, differs, door_changes, same_door}

-- the line of a door, among the ports of its family
abbrev pub line_of : Family → Config → Objects → DoorChange → List ℕ
line_of family config o c =
    change_line (chain_name config.name_length) (port_infos family (config_for family config) o) c

-- the lines of doors
abbrev pub lines_of : Family → Config → Objects → List DoorChange → List ℕ
lines_of family config o changes = flat_map (line_of family config o) changes

-- the line of a door, where it differs
abbrev pub line_if : Family → Config → Objects → DoorChange → List ℕ
line_if family config o c = cond (differs c) (line_of family config o c) []

-- the line of a door of before, where it isn't among those after
abbrev pub line_if_gone : Family → Config → Objects → List Door → Door → List ℕ
line_if_gone family config o after d =
    cond (list_any (same_door d) after) [] (line_if family config o (change_from d))

-- the lines of a dirty port, if there is one
abbrev pub dirty_lines : Family → Config → Objects → Option DirtyPort → List ℕ
dirty_lines family config o None = []
dirty_lines family config o (Some d) =
    lines_of family config o
    (door_changes d.before (info_at family (config_for family config) o d.key))

-- the dirty port of a name
abbrev pub dirty_named : List DirtyPort → PortKey → Option DirtyPort
dirty_named dirty key = find port_key_cmp key (map (λ d. (d.key, d)) dirty)

-- the lines of a port in both families, by the dirty ports of each
abbrev pub lines_named : Config → Objects → List DirtyPort → List DirtyPort → PortKey → List ℕ
lines_named config o four six key =
    dirty_lines V4 config o (dirty_named four key) ++ dirty_lines V6 config o (dirty_named six key)

-- the lines of the dirty ports of both families, port by port
abbrev pub dirty_text : Config → Objects → List DirtyPort → List DirtyPort → List ℕ
dirty_text config o four six =
    flat_map (lines_named config o four six)
    (distinct_in_order port_key_cmp (map (λ d. d.key) four ++ map (λ d. d.key) six))

-- the ports of which a family knows something else after than before, where the node has tables of
-- the family
abbrev pub dirty_in : Config → Objects → Objects → Family → List DirtyPort
dirty_in config before after family =
    cond (has_tables_of family (settings_of config))
    (dirty_ports (setting_of family config) before after) []
