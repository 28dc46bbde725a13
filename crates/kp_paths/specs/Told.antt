-- A path by what is told of its translation.
use Rattle.std.specs.Prelude.{ℕ, false, List, Option, Some, None, length}
use Rattle.kp_types.specs.Setting.{FamilyConfig}
use Rattle.kp_types.specs.declared.packet.Packet.{Packet}
use Rattle.kp_object_defs.specs.PortInfo.{PortInfo}
use Rattle.kp_door_defs.specs.Filter.{filtered}
use Rattle.kp_decide.specs.declared.translation.Translation.{Translation}
use Rattle.kp_path_defs.specs.Paths.{picked_from}
use Rattle.kp_paths.specs.Words.{decided_words, path_words, route_words}
use Rattle.kp_paths.specs.declared.routes.Stand.{Stand}

-- the line of a path
abbrev pub path_told : FamilyConfig → List PortInfo → Packet → Stand → Option Translation → List ℕ
path_told config infos packet s None =
    path_words s (decided_words (filtered config infos packet) None false)
path_told config infos packet s (Some t) = path_words s (route_words config infos packet t)

-- how many paths there are
abbrev pub count_told : Option Translation → ℕ
count_told None = 1
count_told (Some t) = picked_from t.choice.by (length t.offer.endpoints)
