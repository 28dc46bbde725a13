-- The endpoints of the port of the door that answers: what paths are sent to, and the asides.
use Rattle.std.specs.Prelude.{◌≡◌, true, List, ◌++◌, map, option_map, is_some, IsPermutation, Option, Some}
use Rattle.std.specs.List.{flat_map, list_any}
use Rattle.std.specs.Option.{option_to_list}
use Rattle.kp_base.specs.declared.address.Family.{Family}
use Rattle.kp_base.specs.declared.key.Endpoint.{Endpoint}
use Rattle.kp_types.specs.Setting.{FamilyConfig, Setting, Settings, view_of}
use Rattle.kp_types.specs.declared.packet.Packet.{Packet}
use Rattle.kp_choice_defs.specs.Recent.{RecentParts}
use Rattle.kp_object_defs.specs.Objects.{Objects}
use Rattle.kp_object_defs.specs.OwnKeys.{AreUnderOwnKeys}
use Rattle.kp_object_defs.specs.PortInfo.{PortInfo, infos_by_family}
use Rattle.kp_object_laws.specs.ListLaws.{are_in_order, endpoints_of}
use Rattle.kp_door_defs.specs.Decision.{Translation}
use Rattle.kp_door_defs.specs.Doors.{Door, doors_of, fits}
use Rattle.kp_path_defs.specs.Asides.{asides_among, entries_of_port, reached}
use Rattle.kp_path_defs.specs.Paths.{Path, answering_door, paths_of, translation_at}

-- the endpoint that a path is sent to, if it is translated
abbrev pub sent_by : Path → List Endpoint
sent_by p = option_to_list (option_map (λ t. t.chosen.endpoint) p.translation)

-- Paths are sent to the endpoints that are reached, in their order.
abbrev pub PathsReach : Type 0
PathsReach =
    (setting : Setting) (infos : List PortInfo) (packet : Packet) (lists : RecentParts)
    → flat_map sent_by (paths_of setting infos packet lists)
    ≡ reached (translation_at setting infos packet lists 0)

-- Where a door answers, what paths are sent to and the asides are the port's endpoints, of which
-- none stands twice.
abbrev pub EachEndpointOnce : Type 0
EachEndpointOnce =
    (family : Family) (settings : Settings) (o : Objects) (packet : Packet) (lists : RecentParts)
    (d : Door)
    → AreUnderOwnKeys o
    → let setting = view_of family settings in
    let infos = infos_by_family settings o family in
    let t = translation_at setting infos packet lists 0 in
    let entries = entries_of_port family setting.config o d.info.key in
    answering_door setting.config infos packet t ≡ Some d
    → IsPermutation (endpoints_of entries)
    (flat_map sent_by (paths_of setting infos packet lists)
    ++ map (λ a. a.endpoint) (asides_among setting.config d packet.source t entries))
    × (are_in_order entries ≡ true)

-- a door fits a packet
abbrev pub FitsDoor : FamilyConfig → List PortInfo → Packet → Type 0
FitsDoor config infos packet = list_any (fits config.addresses packet) (doors_of infos) ≡ true

-- Where a door fits, one answers.
abbrev pub AnsweredWhereFits : Type 0
AnsweredWhereFits =
    (config : FamilyConfig) (infos : List PortInfo) (packet : Packet) (t : Option Translation)
    → FitsDoor config infos packet → is_some (answering_door config infos packet t) ≡ true
