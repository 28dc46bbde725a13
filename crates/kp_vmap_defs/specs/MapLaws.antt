-- Laws of verdict maps, over all objects, packets, draws and recent lists.
use Rattle.std.specs.Prelude.{◌≡◌, ℕ, List, Some, option_map}
use Rattle.kp_base.specs.Net.{AddressParts}
use Rattle.kp_base.specs.declared.address.Family.{Family}
use Rattle.kp_base.specs.declared.config.Config.{Config}
use Rattle.kp_base.specs.declared.key.Endpoint.{Endpoint}
use Rattle.kp_base.specs.declared.key.PortKey.{PortKey}
use Rattle.kp_types.specs.declared.packet.Packet.{Packet}
use Rattle.kp_choice_defs.specs.Recent.{RecentParts}
use Rattle.kp_choice_defs.specs.Settings.{setting_of}
use Rattle.kp_object_defs.specs.Objects.{Objects}
use Rattle.kp_object_defs.specs.PortInfo.{PortInfo}
use Rattle.kp_door_defs.specs.Choice.{chosen_endpoint, live_endpoint, recent_name}
use Rattle.kp_door_defs.specs.Decision.{Translation, translation_of}
use Rattle.kp_door_defs.specs.Doors.{Door, Offer}
use Rattle.kp_decide.specs.Picks.{pick_by_remainder, with_pick}
use Rattle.kp_vmap_defs.specs.Remainder.{decision_by_remainder, known_in, map_decision}
use Rattle.kp_vmap_defs.specs.VerdictMap.{infos_of, map_of}

-- The map of some objects knows what they tell of the ports, in their order.
abbrev pub MapKnowsPorts : Type 0
MapKnowsPorts =
    (config : Config) (o : Objects) (family : Family) → known_in (map_of config o) family ≡ infos_of config o family

-- What it knows decides each packet as the objects do.
abbrev pub MapDecides : Type 0
MapDecides =
    (config : Config) (o : Objects) (packet : Packet) (draws : ℕ → ℕ) (lists : RecentParts)
    → map_decision (map_of config o) packet draws lists
    ≡ decision_by_remainder config o packet draws lists

-- a translation's door, and the list that it offers
abbrev pub door_and_list : Translation → Door × Offer
door_and_list t = (t.door, t.offer)

-- The door and the list that translate a packet are those of the replay's decision.
abbrev pub SameDoorAndList : Type 0
SameDoorAndList =
    (family : Family) (config : Config) (infos : List PortInfo) (packet : Packet) (draws : ℕ → ℕ) (lists : RecentParts)
    → option_map door_and_list
    (translation_of (with_pick pick_by_remainder (setting_of family config)) infos packet draws lists)
    ≡ option_map door_and_list (translation_of (setting_of family config) infos packet draws lists)

-- Where affinity finds an endpoint, no draw is asked: the choice is the replay's.
abbrev pub SameWhereFound : Type 0
SameWhereFound =
    (family : Family) (config : Config) (port : PortKey) (seconds : ℕ) (source : AddressParts) (now : ℕ)
    (draws : ℕ → ℕ) (endpoints : List Endpoint) (lists : RecentParts) (e : Endpoint × ℕ)
    → (live_endpoint (recent_name (setting_of family config) port) source now seconds 0 endpoints lists).found ≡ Some e
    → chosen_endpoint (with_pick pick_by_remainder (setting_of family config)) port (Some seconds) source now draws endpoints lists
    ≡ chosen_endpoint (setting_of family config) port (Some seconds) source now draws endpoints lists
