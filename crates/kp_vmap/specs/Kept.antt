-- What contracts see of a map, and how it is stored.
use Rattle.std.specs.Prelude.{◌≡◌, false, map, refl}
use Rattle.std.specs.Coded.{Coded, code_by, coded×, coded_list}
use Rattle.std.specs.FinMap as finite
use Rattle.kp_base.specs.contracts.config.Config as config_row
use Rattle.kp_base.specs.declared.config.Config.{Config}
use Rattle.kp_door_defs.specs.Doors.{doors_of}
use Rattle.kp_vmap_defs.specs.VerdictMap.{FamilyMap, VerdictMap, by_destination, destination_cmp, map_door}
use Rattle.kp_vmap_defs.specs.contracts.door.Destination as destination_row
use Rattle.kp_vmap_defs.specs.contracts.door.MapDoor as door_row
use Rattle.kp_vmap.specs.Family.{IsPlaced, known_in}
use Rattle.kp_vmap.specs.Places.{PortMap, port_map_code}
use Rattle.kp_vmap.specs.declared.family.FamilyPorts.{FamilyPorts}

-- the map of ports by name, in which they have their doors
abbrev pub map_of_ports : PortMap → FamilyMap
map_of_ports ports = record {
  doors = by_destination (map map_door (doors_of (finite.values ports)));
  infos = ports;
}

-- what contracts see of a map's fields
abbrev pub map_kept : Config → FamilyPorts → FamilyPorts → VerdictMap
map_kept config four six = record {
  config = config;
  four = map_of_ports (known_in four);
  six = map_of_ports (known_in six);
}

-- ports are found at the destinations of their doors, and without tables of IPv6 none is known there
pub record IsKept (config : Config) (four six : FamilyPorts) : Type 0 where
  pub four_placed : IsPlaced four
  pub six_placed : IsPlaced six
  pub no_six : config.dual ≡ false → known_in six ≡ finite.empty

-- a family's map is stored as two finite maps are
abbrev pub family_map_code : Coded FamilyMap
family_map_code =
    code_by _ (coded× (finite.code {R = destination_cmp} destination_row.the_row.coded (coded_list door_row.the_row.coded)) port_map_code)
    (λ m. (m.doors, m.infos)) (λ p. record { doors = p.0; infos = p.1 }) (λ _. refl)

-- and a map as its parts are
abbrev pub map_code : Coded VerdictMap
map_code =
    code_by _ (coded× config_row.the_row.coded (coded× family_map_code family_map_code))
    (λ m. (m.config, (m.four, m.six))) (λ p. record { config = p.0; four = p.1.0; six = p.1.1 }) (λ _. refl)
