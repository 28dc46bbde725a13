-- What is found for a packet: the doors that it fits, its translation and whether that is masqueraded, and the
-- line of the filter that refuses it.
use Rattle.std.specs.Prelude.{ℕ, Bool, true, false, List, [], Option, Some, None, option_map}
use Rattle.std.specs.List.{filter}
use Rattle.kp_base.specs.declared.address.Family.{Family}
use Rattle.kp_types.specs.Packets.{family_of_packet}
use Rattle.kp_types.specs.Setting.{FamilyConfig, Setting, Settings, has_tables_of, view_of}
use Rattle.kp_types.specs.declared.packet.Packet.{Packet}
use Rattle.kp_object_defs.specs.PortInfo.{PortInfo}
use Rattle.kp_choice_defs.specs.Recent.{RecentParts}
use Rattle.kp_door_defs.specs.Decision as definition
use Rattle.kp_door_defs.specs.Decision.{translated, translation_of}
use Rattle.kp_door_defs.specs.Doors.{Door, doors_of, fits}
use Rattle.kp_door_defs.specs.Filter.{Line, filtered}
use Rattle.kp_door_defs.specs.Marks.{is_masqueraded}
use Rattle.kp_decide.specs.Told.{translation_told}
use Rattle.kp_decide.specs.declared.translation.Translation.{Translation}

-- the doors that a packet fits, in order
abbrev pub fitting_doors : FamilyConfig → List PortInfo → Packet → List Door
fitting_doors config infos packet = filter (fits config.addresses packet) (doors_of infos)

-- such doors of the ports that there are, if there are any
abbrev pub fitting_among : FamilyConfig → Option (List PortInfo) → Packet → List Door
fitting_among config None packet = []
fitting_among config (Some infos) packet = fitting_doors config infos packet

-- the source of a packet is masqueraded on its way to the endpoint that it is translated to
abbrev pub masked_by : FamilyConfig → Packet → Option definition.Translation → Bool
masked_by config packet None = false
masked_by config packet (Some t) = is_masqueraded config t.door.kind t.door.info packet t.chosen.endpoint

-- what is found for a packet
pub record Findings : Type 0 where
  pub fitting : List Door
  pub translation : Option Translation
  pub masked : Bool
  pub line : Option Line

-- what is found beside a translation
abbrev pub found_by : FamilyConfig → List PortInfo → Packet → Option definition.Translation → Findings
found_by config infos packet t = record {
  fitting = fitting_doors config infos packet;
  translation = option_map translation_told t;
  masked = masked_by config packet t;
  line = filtered config infos (translated packet t);
}

-- what is found by what is known of the ports
abbrev pub found_from : Setting → List PortInfo → Packet → (ℕ → ℕ) → RecentParts → Findings
found_from setting infos packet draws lists =
    found_by setting.config infos packet (translation_of setting infos packet draws lists)

-- nothing is found
abbrev pub nothing_found : Findings
nothing_found = record { fitting = []; translation = None; masked = false; line = None }

-- what is found where the node has tables of the family, and else nothing
abbrev pub found_if : Bool → Setting → List PortInfo → Packet → (ℕ → ℕ) → RecentParts → Findings
found_if true setting infos packet draws lists = found_from setting infos packet draws lists
found_if false setting infos packet draws lists = nothing_found

-- what is found for a packet by what its family knows of the ports
abbrev pub found_among : Settings → (Family → List PortInfo) → Packet → (ℕ → ℕ) → RecentParts → Findings
found_among settings infos packet draws lists =
    let family = family_of_packet packet in
    found_if (has_tables_of family settings) (view_of family settings) (infos family) packet draws lists
