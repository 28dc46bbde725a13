-- The law of changes: where no door that differs is in a packet's way, it is decided as before.
use Rattle.std.specs.Prelude.{◌≡◌, ℕ, Bool, true, false, List, [], ◌++◌, Option}
use Rattle.std.specs.List.{Contains, list_any}
use Rattle.kp_base.specs.Net.{AddressParts}
use Rattle.kp_base.specs.declared.address.Family.{Family}
use Rattle.kp_base.specs.declared.key.Endpoint.{Endpoint}
use Rattle.kp_base.specs.declared.key.PortKey.{PortKey}
use Rattle.kp_types.specs.Packets.{family_of_packet}
use Rattle.kp_types.specs.Setting.{Setting, Settings}
use Rattle.kp_types.specs.declared.packet.Packet.{Packet}
use Rattle.kp_choice_defs.specs.Recent.{RecentParts}
use Rattle.kp_object_defs.specs.Objects.{Objects}
use Rattle.kp_object_defs.specs.PortInfo.{PortInfo, infos_by_family}
use Rattle.kp_door_defs.specs.Decision.{decision_from, decision_of, sent_to}
use Rattle.kp_door_defs.specs.Doors.{Door, doors_of, fits}
use Rattle.kp_table_laws.specs.Laws.{AreInOrder}
use Rattle.kp_walk_laws.specs.Laws.{IsKnown}
use Rattle.kp_change_defs.specs.ChangeText.{change_text}
use Rattle.kp_change_defs.specs.DoorChanges.{door_changes, info_named}
use Rattle.kp_change_defs.specs.DoorValues.{values_of}

-- a packet fits a door of a port that differs
abbrev pub fits_changed : List AddressParts → Packet → Option PortInfo → Option PortInfo → Bool
fits_changed addresses packet before after =
    list_any (λ c. fits addresses packet c.door) (door_changes before after)

-- a packet fits no door that differs
abbrev pub FitsNoChange : List AddressParts → List PortInfo → List PortInfo → Packet → Type 0
FitsNoChange addresses before after packet =
    (key : PortKey)
    → fits_changed addresses packet (info_named before key) (info_named after key) ≡ false

-- the endpoints that a door offers, to whatever source
abbrev pub endpoints_of : Door → List Endpoint
endpoints_of d = (values_of d).list ++ (values_of d).inside

-- No door that differs is in a packet's way: it fits none as it comes, nor at any endpoint of a
-- door, before or after, that it fits.
pub record IsUntouched (addresses : List AddressParts) (before after : List PortInfo)
    (packet : Packet) : Type 0 where
  pub as_it_comes : FitsNoChange addresses before after packet
  pub at_endpoints : (d : Door) (e : Endpoint) → Contains (doors_of before ++ doors_of after) d
      → fits addresses packet d ≡ true → Contains (endpoints_of d) e
      → FitsNoChange addresses before after (sent_to packet e)

-- what is known of the ports of some objects in a family
pub record AreKnown (family : Family) (infos : List PortInfo) : Type 0 where
  pub in_order : AreInOrder infos
  pub each : (i : PortInfo) → Contains infos i → IsKnown family i

-- Such a packet is decided as before: the verdict, the reason and the recent lists.
abbrev pub DecidesAsBefore : Type 0
DecidesAsBefore =
    (setting : Setting) (before after : List PortInfo) (packet : Packet) (draws : ℕ → ℕ)
    (lists : RecentParts)
    → AreKnown setting.family before → AreKnown setting.family after
    → IsUntouched setting.config.addresses before after packet
    → decision_from setting after packet draws lists
    ≡ decision_from setting before packet draws lists

-- So it is over objects, by the doors of its own family.
abbrev pub ObjectsDecideAsBefore : Type 0
ObjectsDecideAsBefore =
    (settings : Settings) (before after : Objects) (packet : Packet) (draws : ℕ → ℕ)
    (lists : RecentParts)
    → IsUntouched settings.config.addresses
    (infos_by_family settings before (family_of_packet packet))
    (infos_by_family settings after (family_of_packet packet)) packet
    → decision_of settings after packet draws lists
    ≡ decision_of settings before packet draws lists

-- And where nothing is printed, every packet is.
abbrev pub SilenceDecidesAsBefore : Type 0
SilenceDecidesAsBefore =
    (settings : Settings) (before after : Objects)
    → change_text settings (infos_by_family settings before) (infos_by_family settings after) ≡ []
    → (packet : Packet) (draws : ℕ → ℕ) (lists : RecentParts)
    → decision_of settings after packet draws lists
    ≡ decision_of settings before packet draws lists
