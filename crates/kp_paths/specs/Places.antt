-- The paths of a translation, place by place.
use Rattle.std.specs.Prelude.{ℕ, zero, suc, ◌-◌, List, [], ◌∷◌, ◌++◌, length}
use Rattle.kp_base.specs.declared.key.Endpoint.{Endpoint}
use Rattle.kp_types.specs.Setting.{FamilyConfig}
use Rattle.kp_types.specs.declared.decision.ChosenBy.{ChosenBy}
use Rattle.kp_types.specs.declared.decision.ChosenBy.TheVariants.{Affinity, Draws}
use Rattle.kp_types.specs.declared.packet.Packet.{Packet}
use Rattle.kp_object_defs.specs.PortInfo.{PortInfo}
use Rattle.kp_decide.specs.declared.translation.Translation.{Translation}
use Rattle.kp_path_defs.specs.Chances.{share_of, whole}
use Rattle.kp_paths.specs.Words.{path_words, route_words}

-- what the first of n places has of what is left
abbrev pub chance_at : ℕ → ℕ → ℕ
chance_at left zero = 0
chance_at left (suc zero) = left
chance_at left (suc (suc n)) = share_of left (suc (suc n))

-- a translation with the endpoint at another place, picked by draws
abbrev pub picked : Translation → ℕ → Endpoint → Translation
picked t place e = record {
  door = t.door;
  offer = t.offer;
  choice = record { endpoint = e; place = suc place; by = Draws };
}

-- lines of the places of endpoints, the first of which has this place, of what is left
abbrev pub places_from : (ℕ → ℕ → Endpoint → List ℕ) → ℕ → ℕ → List Endpoint → List ℕ
places_from line left place [] = []
places_from line left place (e ∷ es) =
    let chance = chance_at left (suc (length es)) in
    line chance place e ++ places_from line (left - chance) (suc place) es

-- the line of a place, by its chance
abbrev pub place_text :
    FamilyConfig → List PortInfo → ℕ → Packet → Translation → ℕ → ℕ → Endpoint → List ℕ
place_text config infos number packet t chance place e =
    path_words
    (record {
      number = number;
      place = suc place;
      count = length t.offer.endpoints;
      chance = chance;
    })
    (route_words config infos packet (picked t place e))

-- the lines of all places
abbrev pub places_text : FamilyConfig → List PortInfo → ℕ → Packet → Translation → List ℕ
places_text config infos number packet t =
    places_from (place_text config infos number packet t) whole 0 t.offer.endpoints

-- the lines of a translation, by how its endpoint was chosen
abbrev pub routes_by : ChosenBy → FamilyConfig → List PortInfo → ℕ → Packet → Translation → List ℕ
routes_by Affinity config infos number packet t =
    path_words (record { number = number; place = 1; count = 1; chance = whole })
    (route_words config infos packet t)
routes_by Draws config infos number packet t = places_text config infos number packet t

-- the lines of a translation
abbrev pub routes_text : FamilyConfig → List PortInfo → ℕ → Packet → Translation → List ℕ
routes_text config infos number packet t = routes_by t.choice.by config infos number packet t
