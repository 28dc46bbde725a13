-- Ports by where they stand, as a family's map keeps them.
use Rattle.std.specs.Prelude.{◌≡◌, ℕ, suc, Bool, List, [], ◌∷◌, cond, length, not, Option, Some, None, option_and_then}
use Rattle.std.specs.Coded.{Coded}
use Rattle.std.specs.FinMap as finite
use Rattle.std.specs.List.{filter, insert, list_any}
use Rattle.std.specs.Option.{unwrap_or}
use Rattle.std.specs.Ordering.{eq_by_cmp, is_lt}
use Rattle.kp_base.specs.Keys.{port_key_cmp}
use Rattle.kp_base.specs.contracts.key.PortKey as key_row
use Rattle.kp_base.specs.declared.key.PortKey.{PortKey}
use Rattle.kp_types.specs.contracts.info.PortInfo as info_row
use Rattle.kp_object_defs.specs.PortInfo.{PortInfo}
use Rattle.kp_vmap_defs.specs.VerdictMap.{destination_cmp, destination_of, port_doors}
use Rattle.kp_vmap_defs.specs.declared.door.Destination.{Destination}
use Rattle.kp_vmap_defs.specs.declared.door.MapDoor.{MapDoor}

-- ports by name
abbrev pub PortMap : Type 0
PortMap = finite.FinMap port_key_cmp PortInfo

-- they are stored as finite maps are
abbrev pub port_map_code : Coded PortMap
port_map_code = finite.code key_row.the_row.coded info_row.the_row.coded

-- how many of the first ports have names before this one
abbrev pub place_in : PortKey → List PortInfo → ℕ
place_in key [] = 0
place_in key (i ∷ infos) = cond (is_lt (port_key_cmp i.key key)) (suc (place_in key infos)) 0

-- the ports of other names
abbrev pub others : PortKey → List PortInfo → List PortInfo
others key infos = filter (λ i. not (eq_by_cmp port_key_cmp i.key key)) infos

-- a port at the place of its name, instead of the ones of this name
abbrev pub with_port : PortInfo → List PortInfo → List PortInfo
with_port i infos = insert (others i.key infos) (place_in i.key (others i.key infos)) i

-- one of some doors stands at a destination
abbrev pub is_one_at : List MapDoor → Destination → Bool
is_one_at doors d = list_any (λ e. eq_by_cmp destination_cmp d (destination_of e)) doors

-- a port has a door there
abbrev pub stands_at : Destination → PortInfo → Bool
stands_at d i = is_one_at (port_doors i) d

-- a port, if there is one and it has a door there
abbrev pub if_at : Destination → Option PortInfo → Option PortInfo
if_at d o = option_and_then (λ i. cond (stands_at d i) (Some i) None) o

-- lists of ports by where they stand, as a map of either kind keeps them
abbrev pub placed : List (Destination × PortMap) → finite.FinMap destination_cmp PortMap
placed places = finite.from_entries {R = destination_cmp} places

-- the ports at a destination, none where it isn't found
abbrev pub at_place : List (Destination × PortMap) → Destination → PortMap
at_place places d = unwrap_or (finite.get (placed places) d) finite.empty

-- the ports there once the staged ones are kept
abbrev pub staged_at : List (Destination × PortMap) → List (Destination × PortMap) → Destination → PortMap
staged_at kept staged d = unwrap_or (finite.get (placed staged) d) (at_place kept d)

-- a map without a port, at some destinations
abbrev pub taken_at : Bool → PortKey → PortMap → PortMap
taken_at there key m = cond there (finite.remove m key) m

-- a map with a port, at some destinations
abbrev pub put_at : Bool → PortInfo → PortMap → PortMap
put_at there i m = cond there (finite.insert m i.key i) m

-- ports with this answer at a name, as far as look-ups tell
abbrev pub Answers : PortKey → Option PortInfo → PortMap → PortMap → Type 0
Answers key o before after =
    (q : PortKey) → finite.get after q ≡ cond (eq_by_cmp port_key_cmp q key) o (finite.get before q)

-- the doors of a port, if there is one
abbrev pub doors_if : Option PortInfo → List MapDoor
doors_if None = []
doors_if (Some i) = port_doors i

-- how many these are
abbrev pub door_count : Option PortInfo → ℕ
door_count None = 0
door_count (Some i) = length (port_doors i)

-- a port, if there is one, has this name
abbrev pub IsNamed : PortKey → Option PortInfo → Type 0
IsNamed key o = (i : PortInfo) → o ≡ Some i → i.key ≡ key
