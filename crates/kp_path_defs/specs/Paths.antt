-- What becomes of a packet whatever its draws are: the decision on it for each place of the list that draws
-- pick from, and the door that answers it (this project's choice).
use Rattle.std.specs.Prelude.{ℕ, List, length, map, Option, Some, None, option_map}
use Rattle.std.specs.List.{find, range_with_len}
use Rattle.kp_types.specs.Setting.{FamilyConfig, Pick, Setting}
use Rattle.kp_types.specs.declared.decision.ChosenBy.{ChosenBy}
use Rattle.kp_types.specs.declared.decision.ChosenBy.TheVariants.{Affinity, Draws}
use Rattle.kp_types.specs.declared.packet.Packet.{Packet}
use Rattle.kp_choice_defs.specs.Recent.{RecentParts}
use Rattle.kp_object_defs.specs.PortInfo.{PortInfo}
use Rattle.kp_door_defs.specs.Decision.{Decided, Translation, decision_by, translation_of}
use Rattle.kp_door_defs.specs.Doors.{Door, doors_of, fits}
use Rattle.kp_door_defs.specs.Filter.{filtered}

-- this place is picked, from 0, whatever the draws
abbrev pub pick_place : ℕ → Pick
pick_place place draws n = place

-- a setting that picks this place
abbrev pub at_place : ℕ → Setting → Setting
at_place place setting = record setting { pick = pick_place place }

-- the translation of a packet for which this place is picked
abbrev pub translation_at : Setting → List PortInfo → Packet → RecentParts → ℕ → Option Translation
translation_at setting infos packet lists place =
    translation_of (at_place place setting) infos packet (λ _draw. 0) lists

-- where a packet may go: its translation, and the decision
pub record Path : Type 0 where
  pub translation : Option Translation
  pub decided : Decided

-- the path by a translation
abbrev pub path_by : FamilyConfig → List PortInfo → Packet → RecentParts → Option Translation → Path
path_by config infos packet lists t = record {
  translation = t;
  decided = decision_by config infos packet lists t;
}

-- the path for which this place is picked
abbrev pub path_at : Setting → List PortInfo → Packet → RecentParts → ℕ → Path
path_at setting infos packet lists place =
    path_by setting.config infos packet lists (translation_at setting infos packet lists place)

-- draws pick from a list of so many, and affinity from one
abbrev pub picked_from : ChosenBy → ℕ → ℕ
picked_from Draws size = size
picked_from Affinity size = 1

-- how many paths there are: one for each place of the list that draws pick from, or else one in all
abbrev pub path_count : Option Translation → ℕ
path_count None = 1
path_count (Some t) = picked_from t.chosen.by (length t.offer.endpoints)

-- how many paths a packet has
abbrev pub paths_among : Setting → List PortInfo → Packet → RecentParts → ℕ
paths_among setting infos packet lists =
    path_count (translation_at setting infos packet lists 0)

-- all paths of a packet, in the order of places
abbrev pub paths_of : Setting → List PortInfo → Packet → RecentParts → List Path
paths_of setting infos packet lists =
    map (path_at setting infos packet lists)
    (range_with_len 0 (paths_among setting infos packet lists))

-- the first that there is of two
abbrev pub first_of : {A : Type 0} → Option A → Option A → Option A
first_of (Some x) other = Some x
first_of None other = other

-- the door that answers a packet which isn't translated: that of the filter's line that refuses it, or else the
-- first that it fits
abbrev pub refusing_door : FamilyConfig → List PortInfo → Packet → Option Door
refusing_door config infos packet =
    first_of (option_map (λ line. line.door) (filtered config infos packet))
    (find (fits config.addresses packet) (doors_of infos))

-- the door that answers a packet: the one that translates it, or else the one that refuses it
abbrev pub answering_door : FamilyConfig → List PortInfo → Packet → Option Translation → Option Door
answering_door config infos packet t =
    first_of (option_map (λ x. x.door) t) (refusing_door config infos packet)
