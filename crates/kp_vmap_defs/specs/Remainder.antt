-- The decision that picks an endpoint by a remainder: all but the pick is that of the replay.
use Rattle.std.specs.Prelude.{ℕ, List}
use Rattle.std.specs.FinMap as finite
use Rattle.kp_base.specs.declared.address.Family.{Family}
use Rattle.kp_base.specs.declared.config.Config.{Config}
use Rattle.kp_types.specs.Setting.{Settings}
use Rattle.kp_types.specs.declared.packet.Packet.{Packet}
use Rattle.kp_choice_defs.specs.Recent.{RecentParts}
use Rattle.kp_choice_defs.specs.Settings.{settings_of}
use Rattle.kp_object_defs.specs.Objects.{Objects}
use Rattle.kp_object_defs.specs.PortInfo.{PortInfo}
use Rattle.kp_door_defs.specs.Decision.{Decided, decision_among, decision_of}
use Rattle.kp_decide.specs.Picks.{all_with_pick, pick_by_remainder}
use Rattle.kp_vmap_defs.specs.VerdictMap.{VerdictMap, map_in}

-- the settings of a configuration, where endpoints are picked by a remainder
abbrev pub remainder_settings : Config → Settings
remainder_settings config = all_with_pick pick_by_remainder (settings_of config)

-- the decision on a packet by the objects
abbrev pub decision_by_remainder : Config → Objects → Packet → (ℕ → ℕ) → RecentParts → Decided
decision_by_remainder config o packet draws lists =
    decision_of (remainder_settings config) o packet draws lists

-- what a map knows of the ports of a family, in order
abbrev pub known_in : VerdictMap → Family → List PortInfo
known_in m family = finite.values (map_in family m).infos

-- the decision on a packet by what a map knows
abbrev pub map_decision : VerdictMap → Packet → (ℕ → ℕ) → RecentParts → Decided
map_decision m packet draws lists =
    decision_among (remainder_settings m.config) (known_in m) packet draws lists
