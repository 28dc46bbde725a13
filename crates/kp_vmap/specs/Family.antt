-- What is kept of one family, and what a replace stages of it.
use Rattle.std.specs.Prelude.{◌≡◌, ℕ, ◌+◌, ◌≤◌, cond, List, length, map, Some}
use Rattle.std.specs.FinMap as finite
use Rattle.indexmap.specs.IndexMap.{spare}
use Rattle.kp_base.specs.Keys.{port_key_cmp}
use Rattle.kp_base.specs.declared.address.Family.{Family}
use Rattle.kp_base.specs.declared.key.PortKey.{PortKey}
use Rattle.kp_types.specs.Setting.{FamilyConfig}
use Rattle.kp_object_defs.specs.Objects.{Objects}
use Rattle.kp_object_defs.specs.PortByKey.{info_at}
use Rattle.kp_object_defs.specs.PortInfo.{PortInfo}
use Rattle.kp_history_laws.specs.EventLaws.{has_port}
use Rattle.kp_vmap_defs.specs.declared.door.Destination.{Destination}
use Rattle.kp_vmap.specs.Places.{PortMap, at_place, door_count, if_at, staged_at}
use Rattle.kp_vmap.specs.declared.family.FamilyPorts.{FamilyPorts}
use Rattle.kp_vmap.specs.declared.family.Next.{Next}

-- what is known of a family's ports, by name
abbrev pub known_in : FamilyPorts → PortMap
known_in f = finite.from_entries {R = port_key_cmp} f.ports.entries

-- each port has its own name, and stands at the destinations of its doors and nowhere else
pub record IsPlaced (f : FamilyPorts) : Type 0 where
  pub own : (key : PortKey) (i : PortInfo) → finite.get (known_in f) key ≡ Some i → i.key ≡ key
  pub places : (d : Destination) (key : PortKey)
      → finite.get (at_place f.places.entries d) key ≡ if_at d (finite.get (known_in f) key)

-- at each destination these ports stand as the objects tell, beside the others that are kept there
abbrev pub AreStaged : Family → FamilyConfig → Objects → List PortKey → List (Destination × PortMap)
    → List (Destination × PortMap) → Type 0
AreStaged family config o dirty kept staged =
    (d : Destination) (key : PortKey)
    → finite.get (staged_at kept staged d) key
    ≡ cond (has_port dirty key) (if_at d (info_at family config o key))
    (finite.get (at_place kept d) key)

-- What is staged for dirty ports: each with what is known of it by the objects, and where they stand.
pub record IsNext (family : Family) (config : FamilyConfig) (o : Objects) (dirty : List PortKey)
    (kept : List (Destination × PortMap)) (next : Next) : Type 0 where
  pub ports : next.ports.items ≡ map (λ key. (key, info_at family config o key)) dirty
  pub places : AreStaged family config o dirty kept next.places.entries

-- there is room for what was staged
pub record HasRoom (next : Next) (f : FamilyPorts) : Type 0 where
  pub ports : length next.ports.items ≤ spare f.ports
  pub places : length next.places.entries ≤ spare f.places

-- how many doors a port has in a map, and by the objects
abbrev pub dirty_doors : Family → FamilyConfig → Objects → PortMap → PortKey → ℕ
dirty_doors family config o known key =
    door_count (finite.get known key) + door_count (info_at family config o key)
