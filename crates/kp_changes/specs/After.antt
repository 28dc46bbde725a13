-- What a sync led to, the doors that stand at a destination then, and those that are kept.
use Rattle.std.specs.Prelude.{◌≡◌, IfSome, List, Option, refl}
use Rattle.std.specs.Coded.{Coded, code_by, coded×, coded_list}
use Rattle.std.specs.Map.{lookup}
use Rattle.indexmap.specs.IndexMap.{insert_entry}
use Rattle.kp_base.specs.contracts.config.Config as config_row
use Rattle.kp_base.specs.declared.address.Family.{Family}
use Rattle.kp_base.specs.declared.config.Config.{Config}
use Rattle.kp_types.specs.Setting.{config_for}
use Rattle.kp_object_defs.specs.Objects.{Objects}
use Rattle.kp_object_defs.specs.OwnKeys.{AreUnderOwnKeys}
use Rattle.kp_object_defs.specs.PortInfo.{PortInfo, port_infos}
use Rattle.kp_door_defs.specs.Doors.{doors_of}
use Rattle.kp_store.specs.Stored.{objects_code}
use Rattle.kp_changes.specs.Neighbours.{neighbours_at}
use Rattle.kp_changes.specs.contracts.neighbour.Destination as destination_row
use Rattle.kp_changes.specs.contracts.neighbour.DestinationPartialEq.TheImpl as destination_eq
use Rattle.kp_changes.specs.contracts.neighbour.Neighbour as neighbour_row
use Rattle.kp_changes.specs.declared.neighbour.Destination.{Destination}
use Rattle.kp_changes.specs.declared.neighbour.Neighbour.{Neighbour}

-- what a sync led to
pub record Synced : Type 0 where
  pub config : Config
  pub objects : Objects

-- that, and the doors that are kept by their destination
pub record After : Type 0 where
  pub synced : Synced
  pub crowds : List (Destination × List Neighbour)

-- how it is told apart as a value
abbrev pub after_code : Coded After
after_code =
    code_by _
    (coded× (coded× config_row.the_row.coded objects_code)
    (coded_list (coded× destination_row.the_row.coded (coded_list neighbour_row.the_row.coded))))
    (λ a. ((a.synced.config, a.synced.objects), a.crowds))
    (λ p. record { synced = record { config = p.0.0; objects = p.0.1 }; crowds = p.1 }) (λ _. refl)

-- what a family knows then of the ports
abbrev pub infos_in : Family → Synced → List PortInfo
infos_in family s = port_infos family (config_for family s.config) s.objects

-- the doors at a destination then
abbrev pub crowd_at : Destination → Synced → List Neighbour
crowd_at q s = neighbours_at q (doors_of (infos_in q.family s))

-- these are the doors at a destination then, when all objects stand under their own keys
pub record AreThere (s : Synced) (q : Destination) (crowd : List Neighbour) : Type 0 where
  pub doors : crowd ≡ crowd_at q s
  pub own_keys : AreUnderOwnKeys s.objects

-- the doors that are kept of a destination
abbrev pub kept_at : Destination → List (Destination × List Neighbour) → Option (List Neighbour)
kept_at q kept = lookup (destination_eq.ghosts.eq q) kept

-- these are kept of a destination too
abbrev pub keeping : Destination → List Neighbour → After → After
keeping q crowd a = record a { crowds = insert_entry destination_eq.ghosts.eq a.crowds q crowd }

-- doors that are kept are those at their destination
abbrev pub AreRight : Synced → List (Destination × List Neighbour) → Type 0
AreRight s kept = (q : Destination) → IfSome (kept_at q kept) (AreThere s q)
