-- All lines of a packet, by what is told of its translation.
use Rattle.std.specs.Prelude.{ℕ, false, List, [], ◌++◌, option_map, Option, Some, None}
use Rattle.std.specs.List.{flat_map}
use Rattle.kp_base.specs.declared.address.Family.{Family}
use Rattle.kp_base.specs.declared.key.PortKey.{PortKey}
use Rattle.kp_types.specs.Setting.{FamilyConfig}
use Rattle.kp_types.specs.declared.lists.Candidate.{Candidate}
use Rattle.kp_types.specs.declared.packet.Packet.{Packet}
use Rattle.kp_object_defs.specs.PortInfo.{PortInfo}
use Rattle.kp_door_defs.specs.Doors.{Door}
use Rattle.kp_door_defs.specs.Filter.{filtered}
use Rattle.kp_decide.specs.declared.translation.Translation.{Translation}
use Rattle.kp_path_defs.specs.Chances.{whole}
use Rattle.kp_path_defs.specs.PathText.{source_text}
use Rattle.kp_path_defs.specs.Paths.{first_of, refusing_door}
use Rattle.kp_path_defs.specs.Sources.{sources_of}
use Rattle.kp_paths.specs.Beside.{asides_text}
use Rattle.kp_paths.specs.Places.{routes_text}
use Rattle.kp_paths.specs.Words.{decided_words, path_words}
use Rattle.kp_paths.specs.declared.routes.Stand.{Stand}

-- the only path of a packet
abbrev pub only : ℕ → Stand
only number = record { number = number; place = 1; count = 1; chance = whole }

-- the paths
abbrev pub paths_told : FamilyConfig → List PortInfo → ℕ → Packet → Option Translation → List ℕ
paths_told config infos number packet None =
    path_words (only number) (decided_words (filtered config infos packet) None false)
paths_told config infos number packet (Some t) = routes_text config infos number packet t

-- what stands behind the paths of a packet that some door answers
abbrev pub behind_told :
    FamilyConfig → Family → List PortInfo → (PortKey → List Candidate) → ℕ → Packet
    → Option Translation → Option Door → List ℕ
behind_told config family infos entries number packet t None = []
behind_told config family infos entries number packet t (Some d) =
    asides_text number config d packet.source t (entries d.info.key)
    ++ flat_map (source_text number) (sources_of family config infos packet)

-- the door that answers
abbrev pub answering_told : FamilyConfig → List PortInfo → Packet → Option Translation → Option Door
answering_told config infos packet t =
    first_of (option_map (λ x. x.door) t) (refusing_door config infos packet)

-- all lines
abbrev pub lines_told :
    FamilyConfig → Family → List PortInfo → (PortKey → List Candidate) → ℕ → Packet
    → Option Translation → List ℕ
lines_told config family infos entries number packet t =
    paths_told config infos number packet t
    ++ behind_told config family infos entries number packet t
    (answering_told config infos packet t)
